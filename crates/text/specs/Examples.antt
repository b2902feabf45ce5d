-- Worked facts about the definitions, proved by computation. Assumes nothing.
use Rattle.std.specs.Prelude.{◌≡◌, refl, Bool, true, false, cond, ◌&&◌, List, [], ◌∷◌, ℕ, ◌+◌, ◌/◌, ◌%◌, length, eqb, ltb}
use Rattle.text.specs.Ascii as A
use Rattle.text.specs.Blanks as B
use Rattle.text.specs.Cells as C
use Rattle.text.specs.Lines as L
use Rattle.text.specs.Decimal as D

-- ---- the 25 blank characters

-- the UTF-8 bytes of a code point below U+10000
abbrev bytes_of : ℕ → List ℕ
bytes_of p =
    cond (ltb p 0x80) (p ∷ [])
    (cond (ltb p 0x800) ((0xC0 + p / 0x40) ∷ (0x80 + p % 0x40) ∷ [])
    ((0xE0 + p / 0x1000) ∷ (0x80 + p / 0x40 % 0x40) ∷ (0x80 + p % 0x40) ∷ []))

-- document 01's list
white_space : List ℕ
white_space =
    0x0009 ∷ 0x000A ∷ 0x000B ∷ 0x000C ∷ 0x000D ∷ 0x0020 ∷ 0x0085 ∷ 0x00A0 ∷ 0x1680
    ∷ 0x2000 ∷ 0x2001 ∷ 0x2002 ∷ 0x2003 ∷ 0x2004 ∷ 0x2005 ∷ 0x2006 ∷ 0x2007 ∷ 0x2008 ∷ 0x2009 ∷ 0x200A
    ∷ 0x2028 ∷ 0x2029 ∷ 0x202F ∷ 0x205F ∷ 0x3000 ∷ []

-- the character is blank, as a whole
abbrev is_blank : ℕ → Bool
is_blank p = eqb (B.blank_size (bytes_of p)) (length (bytes_of p))

abbrev all_of : (ℕ → Bool) → List ℕ → Bool
all_of f [] = true
all_of f (p ∷ ps) = f p && all_of f ps

white-space-count : length white_space ≡ 25
unfolding white_space
white-space-count = refl

each-blank : all_of is_blank white_space ≡ true
unfolding A.computes B.computes white_space
each-blank = refl

-- their neighbours are not: U+0008, 000E, 001F, 0021, 0084, 0086, 009F, 00A1, 167F, 1681, 1FFF, 200B, 2027, 202A, 202E, 2030, 205E, 2060, 2FFF,
-- 3001; and no letter, U+017F among them
abbrev is_solid : ℕ → Bool
is_solid p = eqb (B.blank_size (bytes_of p)) 0

each-solid : all_of is_solid
    (0x0008 ∷ 0x000E ∷ 0x001F ∷ 0x0021 ∷ 0x0084 ∷ 0x0086 ∷ 0x009F ∷ 0x00A1 ∷ 0x167F ∷ 0x1681 ∷ 0x1FFF ∷ 0x200B ∷ 0x2027 ∷ 0x202A ∷ 0x202E
    ∷ 0x2030 ∷ 0x205E ∷ 0x2060 ∷ 0x2FFF ∷ 0x3001 ∷ 0x0061 ∷ 0x017F ∷ []) ≡ true
unfolding A.computes B.computes
each-solid = refl

-- ---- cells: U+00A0 is two blank bytes, é two that are not

post-cells : C.cells_of (97 ∷ 0xC2 ∷ 0xA0 ∷ 0xC3 ∷ 0xA9 ∷ [])
    ≡ record { byte = 97; origin = 1; blank = false } ∷ record { byte = 0xC2; origin = 2; blank = true } ∷ record { byte = 0xA0; origin = 3; blank = true }
    ∷ record { byte = 0xC3; origin = 4; blank = false } ∷ record { byte = 0xA9; origin = 5; blank = false } ∷ []
unfolding A.computes B.computes C.computes
post-cells = refl

written-cells : C.written (A.ascii "a ") ≡ C.sign 97 ∷ record { byte = 32; origin = 0; blank = true } ∷ []
unfolding A.computes B.computes C.computes
written-cells = refl

-- the number of a cell: 2 * origin, and 1 more where it is blank
cell-of-number : C.cell 0xA0 7 ≡ record { byte = 0xA0; origin = 3; blank = true }
cell-of-number = refl

-- ---- trimming and lines

trimmed : C.bytes (L.trim (C.written (A.ascii " a b "))) ≡ A.ascii "a b"
unfolding A.computes B.computes C.computes L.computes
trimmed = refl

-- a line feed at the very end starts no line, and lines are joined by line feeds that a rule writes
no-last-line : L.lines (C.cells_of (97 ∷ 10 ∷ 10 ∷ [])) ≡ (record { byte = 97; origin = 1; blank = false } ∷ []) ∷ [] ∷ []
unfolding A.computes B.computes C.computes L.computes
no-last-line = refl

joined-origins : C.origins (L.joined (L.lines (C.cells_of (97 ∷ 10 ∷ 98 ∷ [])))) ≡ 1 ∷ 0 ∷ 3 ∷ []
unfolding A.computes B.computes C.computes L.computes
joined-origins = refl

-- ---- tags and numbers

either-case : A.begins (A.ascii "quote") (A.ascii "QuOTe=") ≡ true
unfolding A.computes
either-case = refl

-- U+017F is an ordinary letter and no `s`
long-s : A.begins (A.ascii "s") (0xC5 ∷ 0xBF ∷ []) ≡ false
unfolding A.computes
long-s = refl

to-bracket : A.to_bracket (A.ascii "Ann]x]") ≡ 3
unfolding A.computes
to-bracket = refl

in-decimal : D.decimal 1024 ≡ A.ascii "1024"
unfolding D.computes
in-decimal = refl
