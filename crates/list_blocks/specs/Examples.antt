-- Worked positions of document 01, and the readings of its "Lists" and of the need, by computation. Assumes nothing.
use Rattle.std.specs.Prelude.{◌≡◌, refl, true, false, List, [], ◌∷◌, ◌++◌, ℕ, zero, suc}
use Prim.Native.String.{String}
use Rattle.text.specs.Ascii.{ascii, computes as ascii_computes}
use Rattle.text.specs.Blanks.{computes as blanks_compute}
use Rattle.text.specs.Cells.{cells_of, bytes, origins, computes as cells_compute}
use Rattle.text.specs.Lines.{computes as lines_compute}
use Rattle.text.specs.Decimal.{computes as decimal_computes}
use Rattle.list_blocks.specs.Tags.{too_deep, taken_lists, computes as tags_compute}
use Rattle.list_blocks.specs.Blocks.{computes as blocks_compute}
use Rattle.list_blocks.specs.Lists.{lists, lists_need, computes as lists_compute}

unfoldable all : Unit {0}
unfolding ascii_computes blanks_compute cells_compute lines_compute decimal_computes tags_compute blocks_compute lists_compute
all = tt

abbrev text_of : String → List ℕ
text_of s = bytes (lists (cells_of (ascii s)))

abbrev need_of : String → ℕ
need_of s = lists_need (cells_of (ascii s))

-- ---- document 01

empty-item : text_of "[list][*]a[*][*]b[/list]" ≡ ascii "\n\n- a\n\n- b\n\n"
unfolding all
empty-item = refl

empty-item-counts : text_of "[list=1][*]a[*][*]b[/list]" ≡ ascii "\n\n1. a\n\n3. b\n\n"
unfolding all
empty-item-counts = refl

inner : text_of "[list=1][*]a[list][*]b[/list][/list]" ≡ ascii "\n\n1. a\n   - b\n\n"
unfolding all
inner = refl

other-value : text_of "[list=]x[/list]" ≡ ascii "[list=]x[/list]"
unfolding all
other-value = refl

-- ---- origins, and what is taken out

copied : origins (lists (cells_of (ascii "[list][*]a\nb[/list]"))) ≡ 0 ∷ 0 ∷ 0 ∷ 0 ∷ 10 ∷ 0 ∷ 0 ∷ 0 ∷ 12 ∷ 0 ∷ 0 ∷ []
unfolding all
copied = refl

counting : bytes (taken_lists (cells_of (ascii "[*][list][*]a[/list][/list]"))) ≡ ascii "[list][*][/list]"
unfolding all
counting = refl

-- ---- the need

repeated : ℕ → List ℕ → List ℕ
repeated zero s = []
repeated (suc n) s = s ++ repeated n s

start-changes-nothing : need_of "[list] [*]  [list]" ≡ 5
unfolding all
start-changes-nothing = refl

raw-item : need_of "[list][*]   [list]" ≡ 5
unfolding all
raw-item = refl

-- the block that counts is the trimmed one
trimmed-block : lists_need (cells_of (ascii "[list][*]a" ++ repeated 100 (ascii "[*]") ++ ascii "[/list]")) ≡ 7
unfolding all repeated
trimmed-block = refl

-- ---- alternation

one-count : text_of "[list][/list][list=1][*]a" ≡ ascii "\n\n\n\n\n\n1) a\n\n"
unfolding all
one-count = refl

anew-at-item : text_of "[list][*]a[list][*]b[/list][list][*]c[/list][*]d[list][*]e[/list][/list]" ≡ ascii "\n\n- a\n  - b\n  * c\n- d\n  - e\n\n"
unfolding all
anew-at-item = refl

reset-at-item : text_of "[list][*]a[list][*]b[/list][*]c[list][*]d[/list][/list]" ≡ ascii "\n\n- a\n  - b\n- c\n  - d\n\n"
unfolding all
reset-at-item = refl

whole-text : text_of "[list][*]a[/list]x[list][*]b[/list]" ≡ ascii "\n\n- a\n\nx\n\n* b\n\n"
unfolding all
whole-text = refl

-- ---- values

-- U+00A0 1 U+2003
blank-value : bytes (lists (cells_of (ascii "[list=" ++ (0xC2 ∷ 0xA0 ∷ 49 ∷ 0xE2 ∷ 0x80 ∷ 0x83 ∷ []) ++ ascii "][*]a"))) ≡ ascii "\n\n1. a\n\n"
unfolding all
blank-value = refl

inside-value : text_of "[list=[list]x" ≡ ascii "[list=\n\nx\n\n"
unfolding all
inside-value = refl

either-case : text_of "[LIST=1][*]a[/LisT]" ≡ ascii "\n\n1. a\n\n"
unfolding all
either-case = refl

-- ---- blocks

start-not-trimmed : text_of "[list][*][*]a" ≡ ascii "\n\n\n- a\n\n"
unfolding all
start-not-trimmed = refl

lead-without-feed : text_of "[list]a[list]b" ≡ ascii "\n\nab\n\n"
unfolding all
lead-without-feed = refl

marker-width : text_of "[list=1][*][*][*][*][*][*][*][*][*][*] x \n\n y [/list]" ≡ ascii "\n\n\n\n\n\n\n\n\n\n\n10. x\n\n     y\n\n"
unfolding all
marker-width = refl

-- ---- the limit

at-limit : too_deep (cells_of (repeated 64 (ascii "[list]"))) ≡ false
unfolding all repeated
at-limit = refl

over-limit : too_deep (cells_of (repeated 65 (ascii "[list]"))) ≡ true
unfolding all repeated
over-limit = refl
