-- Bytes by their ASCII characters, so that definitions and examples read as document 01 prints them.
--   ascii "ab"      the bytes of a quoted text (ASCII only)
--   is ";" b        b is the byte of this character
--   inside lo hi b  lo ≤ b ≤ hi
--   small b         an ASCII letter in small, any other byte as it is
--   begins w s      s begins with w, ASCII letters of s in either case (w in small letters)
--   spells w s      s is w, likewise
--   to_first p s     how many bytes of s stand before the first that p holds of; all where there is none
--   binary p n s    the first n bytes of s as binary digits, the first byte's the lowest: 1 where p holds of the byte
--   to_bracket s     how many stand before the first `]`
-- Assumes nothing.
use Rattle.std.specs.Prelude.{ℕ, zero, suc, ◌+◌, ◌*◌, Bool, true, false, cond, ◌&&◌, ◌||◌, List, [], ◌∷◌, eqb, leb}
use Prim.Native.Char.{Char, code}
use Prim.Native.String.{String}

abbrev pub ascii : String → List ℕ
ascii String.[] = []
ascii (String.◌∷◌ c s) = code c ∷ ascii s

abbrev pub is : Char → ℕ → Bool
is c b = eqb b (code c)

unfoldable pub inside : ℕ → ℕ → ℕ → Bool
inside lo hi b = leb lo b && leb b hi

abbrev pub within : Char → Char → ℕ → Bool
within a z b = inside (code a) (code z) b

abbrev pub is_digit : ℕ → Bool
is_digit b = within "0" "9" b

abbrev pub is_letter : ℕ → Bool
is_letter b = within "a" "z" b || within "A" "Z" b

unfoldable pub small : ℕ → ℕ
small b = cond (within "A" "Z" b) (b + 32) b

unfoldable pub begins : List ℕ → List ℕ → Bool
begins [] s = true
begins (a ∷ w) [] = false
begins (a ∷ w) (b ∷ s) = eqb (small b) a && begins w s

unfoldable pub spells : List ℕ → List ℕ → Bool
spells [] [] = true
spells [] (b ∷ s) = false
spells (a ∷ w) [] = false
spells (a ∷ w) (b ∷ s) = eqb (small b) a && spells w s

unfoldable pub to_first : (ℕ → Bool) → List ℕ → ℕ
to_first p [] = 0
to_first p (b ∷ s) = cond (p b) 0 (suc (to_first p s))

unfoldable pub binary : (ℕ → Bool) → ℕ → List ℕ → ℕ
binary p zero s = 0
binary p (suc n) [] = 0
binary p (suc n) (b ∷ s) = 2 * binary p n s + cond (p b) 1 0

unfoldable pub to_bracket : List ℕ → ℕ
to_bracket s = to_first (is "]") s

unfoldable pub all_digits : List ℕ → Bool
all_digits [] = true
all_digits (b ∷ s) = is_digit b && all_digits s

abbrev pub is_empty : {A : Type 0} → List A → Bool
is_empty [] = true
is_empty (b ∷ s) = false

-- one or more digits
abbrev pub digits : List ℕ → Bool
digits [] = false
digits (b ∷ s) = all_digits (b ∷ s)

-- all of this module, for `unfolding` where a closed text is to be computed
unfoldable pub computes : Unit {0}
unfolding inside small begins spells to_first to_bracket all_digits
computes = tt
