-- Text inside the passes is a list of cells, one for each byte.
--   Cell            a byte; its origin: 1 + the byte's position in the post, or 0 for a byte written by a rule (document 01); and whether
--                   its character is blank
--   cells_of post    a post's cells, with the origins 1, 2, ..
--   written s       the cells of a text that a rule writes: a caption, a marker
--   feed            the line feed that a rule writes
--   sign b          a byte that a rule writes and that is not blank
--   bytes, origins  a text, and its origins
--   cell, cells     in code: a byte in a slice of bytes and its code in a slice of numbers
--   origin_of x, is_blank x: what a code says
--   numbered_to i .. a text of which the bytes before place i are numbered
--   part a e x      the cells from place a up to place e
-- Assumes nothing.
use Rattle.std.specs.Prelude.{ℕ, suc, ◌+◌, ◌-◌, ◌/◌, ◌%◌, Bool, true, false, cond, ◌||◌, List, [], ◌∷◌, ◌++◌, map, take, drop, eqb, ltb}
use Rattle.text.specs.Blanks.{blank_size}

pub record Cell : Type 0 where
  pub byte : ℕ
  pub origin : ℕ
  pub blank : Bool

abbrev pub bytes : List Cell → List ℕ
bytes = map (λ c. c.byte)

abbrev pub origins : List Cell → List ℕ
origins = map (λ c. c.origin)

-- ---- bytes to cells

-- is the first byte of s in a blank character, where `more` bytes are left of one that began before it?
unfoldable pub blank_at : (more : ℕ) → List ℕ → Bool
blank_at more s = ltb 0 more || ltb 0 (blank_size s)

-- how many bytes are left of that character behind the first byte
unfoldable pub more_after : (more : ℕ) → List ℕ → ℕ
more_after more s = cond (ltb 0 more) (more - 1) (blank_size s - 1)

-- the first byte has the origin o, and the one behind a byte with the origin p has the origin `next p`
unfoldable pub cells_from : (next : ℕ → ℕ) → (o more : ℕ) → List ℕ → List Cell
cells_from next o more [] = []
cells_from next o more (b ∷ s) =
    record { byte = b; origin = o; blank = blank_at more (b ∷ s) } ∷ cells_from next (next o) (more_after more (b ∷ s)) s

unfoldable pub cells_of : List ℕ → List Cell
cells_of post = cells_from suc 1 0 post

unfoldable pub written : List ℕ → List Cell
written s = cells_from (λ o. o) 0 0 s

abbrev pub feed : Cell
feed = record { byte = 10; origin = 0; blank = true }

abbrev pub sign : ℕ → Cell
sign b = record { byte = b; origin = 0; blank = false }

-- ---- cells in code

-- a code is twice the origin, and 1 more where the character is blank
abbrev pub origin_of : ℕ → ℕ
origin_of x = x / 2

abbrev pub is_blank : ℕ → Bool
is_blank x = eqb (x % 2) 1

abbrev pub cell : (b x : ℕ) → Cell
cell b x = record { byte = b; origin = origin_of x; blank = is_blank x }

-- the cells of a slice of bytes and a slice of numbers, as many as both have
unfoldable pub cells : List ℕ → List ℕ → List Cell
cells [] xs = []
cells (b ∷ bs) [] = []
cells (b ∷ bs) (x ∷ xs) = cell b x ∷ cells bs xs

-- the first i cells of a text as the numbers have them, and those behind as the post's: all that, once the text is numbered up to place i
abbrev pub numbered_to : (i : ℕ) (s ns : List ℕ) → List Cell
numbered_to i s ns = take i (cells s ns) ++ cells_from suc (i + 1) 0 (drop i s)

unfoldable pub part : (a e : ℕ) → List Cell → List Cell
part a e x = drop a (take e x)

-- all of this module, for `unfolding` where a closed text is to be computed
unfoldable pub computes : Unit {0}
unfolding blank_at more_after cells_from cells_of written cells part
computes = tt
