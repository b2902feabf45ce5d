-- Document 01, "Lists": the tags, and a text as tokens.
--   value_of x      the value that x begins with: all before the first `]`
--   is_one v        a trimmed value is `1`
--   tag_at x        the tag that the text x begins with
--   tokens skip x  a text from left to right, each token with the cells that spell it; the first `skip` cells are the rest of a tag
--   pushes ks      how many numbers the tokens ks push on the table of open lists: 3 for an opener, 1 for an item
--   taken_lists x   what lists take out of a text: each opener, and each `[*]` and `[/list]` that counts, as they do inside a list only
--   too_deep x      an opener is met while as many lists are open as may be
-- Assumes nothing.
use Rattle.std.specs.Prelude.{◌≡◌, ℕ, zero, suc, ◌+◌, ◌≤◌, Bool, true, false, cond, ◌&&◌, ◌||◌, List, [], ◌∷◌, ◌++◌, length, take, drop, leb, ltb}
use Rattle.text.specs.Ascii.{ascii, is, begins, to_bracket}
use Rattle.text.specs.Bounds.{deep_most}
use Rattle.text.specs.Cells.{Cell, bytes}
use Rattle.text.specs.Lines.{trim_start, trim}
use Rattle.list_blocks.specs.declared.tag.Tag.{Tag}
use Rattle.list_blocks.specs.declared.tag.Tag.TheVariants.{Opener, Item, Closer, Plain}

unfoldable pub value_of : List Cell → List Cell
value_of x = take (to_bracket (bytes x)) x

abbrev pub is_one : List Cell → Bool
is_one [] = false
is_one (c ∷ []) = is "1" c.byte
is_one (c ∷ d ∷ x) = false

-- x stands behind `[list=`: a value and `]`
unfoldable pub valued : List Cell → Tag
valued x =
    cond (ltb (to_bracket (bytes x)) (length x) && is_one (trim (value_of x)))
    (Opener (6 + to_bracket (bytes x)) true)
    Plain

unfoldable pub tag_at : List Cell → Tag
tag_at x =
    cond (begins (ascii "[list]") (bytes x)) (Opener 5 false)
    (cond (begins (ascii "[list=") (bytes x)) (valued (drop 6 x))
    (cond (begins (ascii "[*]") (bytes x)) Item
    (cond (begins (ascii "[/list]") (bytes x)) Closer
    Plain)))

-- the cells of x from place i on are blank up to r, which is a `]`, not blank, or the end
pub record Skips (x : List Cell) (i r : ℕ) : Type 0 where
  pub within : (i ≤ r) × (r ≤ length x)
  pub bracket : i + to_bracket (bytes (drop i x)) ≡ r + to_bracket (bytes (drop r x))
  pub value : trim_start (value_of (drop i x)) ≡ value_of (drop r x)

-- ---- tokens

pub data Token : Type 0 where
  text : Cell → Token
  opens : (tag : List Cell) → (ordered : Bool) → Token
  starts : (tag : List Cell) → Token
  closes : (tag : List Cell) → Token

abbrev pub rest_of : Tag → ℕ
rest_of (Opener n o) = n
rest_of Item = 2
rest_of Closer = 6
rest_of Plain = 0

abbrev pub token_of : Tag → Cell → List Cell → Token
token_of (Opener n o) c x = opens (c ∷ take n x) o
token_of Item c x = starts (c ∷ take 2 x)
token_of Closer c x = closes (c ∷ take 6 x)
token_of Plain c x = text c

unfoldable pub tokens : (skip : ℕ) → List Cell → List Token
tokens skip [] = []
tokens (suc skip) (c ∷ x) = tokens skip x
tokens zero (c ∷ x) = token_of (tag_at (c ∷ x)) c x ∷ tokens (rest_of (tag_at (c ∷ x))) x

-- ---- what is pushed

abbrev pub pushed_by : Token → ℕ
pushed_by (text c) = 0
pushed_by (opens tag o) = 3
pushed_by (starts tag) = 1
pushed_by (closes tag) = 0

unfoldable pub pushes : List Token → ℕ
pushes [] = 0
pushes (t ∷ r) = pushed_by t + pushes r

-- ---- what is taken out, and the limit, where `depth` lists are open

unfoldable pub taken_by : (depth : ℕ) → Token → List Cell
taken_by depth (text c) = []
taken_by depth (opens tag o) = tag
taken_by zero (starts tag) = []
taken_by (suc depth) (starts tag) = tag
taken_by zero (closes tag) = []
taken_by (suc depth) (closes tag) = tag

unfoldable pub depth_after : (depth : ℕ) → Token → ℕ
depth_after depth (text c) = depth
depth_after depth (opens tag o) = suc depth
depth_after depth (starts tag) = depth
depth_after zero (closes tag) = zero
depth_after (suc depth) (closes tag) = depth

unfoldable pub taken : (depth : ℕ) → List Token → List Cell
taken depth [] = []
taken depth (t ∷ r) = taken_by depth t ++ taken (depth_after depth t) r

unfoldable pub taken_lists : List Cell → List Cell
taken_lists x = taken 0 (tokens 0 x)

abbrev pub over_limit : (depth : ℕ) → Token → Bool
over_limit depth (text c) = false
over_limit depth (opens tag o) = leb deep_most depth
over_limit depth (starts tag) = false
over_limit depth (closes tag) = false

unfoldable pub deeper : (depth : ℕ) → List Token → Bool
deeper depth [] = false
deeper depth (t ∷ r) = over_limit depth t || deeper (depth_after depth t) r

unfoldable pub too_deep : List Cell → Bool
too_deep x = deeper 0 (tokens 0 x)

-- all of this module, for `unfolding` where a closed text is to be computed
unfoldable pub computes : Unit {0}
unfolding value_of valued tag_at tokens pushes taken_by depth_after taken taken_lists deeper too_deep
computes = tt
