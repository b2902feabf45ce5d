-- Document 01, "Lists": the block of a list.
--   marker o s k       `- ` or `* `, `1. ` or `1) `: o, an ordered list; s, the second of the two; k, the item's number
--   trim_item x         item and lead: each line's end trimmed, then the whole
--   item_text mark x    an item behind its marker, later lines indented by the marker's width
--   block o s parts    the lead and the items, its end trimmed
--   trimmed x          the lines of x, each end trimmed
--   parts_in w ss e     the parts of w that begin at the places ss, up to place e
--   Rises ss e         each of these places is at most the next, and e
--   kind_of o s        a list's kind as a number
--   TrimmedAt .., LineAt ..   where a text ends when it is trimmed, and where its first line ends
--   Blocked ..         an item has been appended, or held back
--   Tabled ..          a table of parts stands where a block can be written by it
-- Assumes nothing.
use Rattle.std.specs.Prelude.{◌≡◌, ℕ, suc, ◌+◌, ◌≤◌, Bool, true, false, cond, List, [], ◌∷◌, ◌++◌, map, length, take, drop, replicate}
use Prim.Native.Char.{code}
use Rattle.text.specs.Cells.{Cell, cells, feed, sign, part}
use Rattle.text.specs.Lines.{trim, trim_end, lines, joined}
use Rattle.text.specs.Decimal.{decimal}
use Rattle.text.specs.Writes.{Apart}
use Rattle.text.specs.Writers.{Wrote}
use Rattle.text.specs.declared.writer.Writer.{Writer}

-- the space that a rule writes
abbrev pub space : Cell
space = record { byte = 32; origin = 0; blank = true }

unfoldable pub marker : (ordered second : Bool) → (index : ℕ) → List Cell
marker false second index = sign (cond second (code "*") (code "-")) ∷ space ∷ []
marker true second index = map sign (decimal index) ++ sign (cond second (code ")") (code ".")) ∷ space ∷ []

unfoldable pub trim_item : List Cell → List Cell
trim_item x = trim (joined (map trim_end (lines x)))

-- a line after an item's first: indented, and empty if it is empty
abbrev pub later_line : (width : ℕ) → List Cell → List Cell
later_line width [] = []
later_line width (c ∷ l) = replicate width space ++ c ∷ l

-- lines with all after the first indented
abbrev pub indented : (width : ℕ) → List (List Cell) → List (List Cell)
indented width [] = []
indented width (l ∷ ls) = l ∷ map (later_line width) ls

-- an item of these lines: of an empty item nothing, no marker either
abbrev pub marked : (mark : List Cell) → List (List Cell) → List Cell
marked mark [] = []
marked mark (l ∷ ls) = mark ++ joined (indented (length mark) (l ∷ ls))

unfoldable pub item_text : (mark : List Cell) → List Cell → List Cell
item_text mark x = marked mark (lines (trim_item x))

-- the items from the number `index` on
unfoldable pub item_texts : (ordered second : Bool) → (index : ℕ) → List (List Cell) → List (List Cell)
item_texts ordered second index [] = []
item_texts ordered second index (x ∷ items) = item_text (marker ordered second index) x ∷ item_texts ordered second (suc index) items

-- the lead, if not empty, with LF, then the items
abbrev pub lead_onto : (lead items : List Cell) → List Cell
lead_onto [] items = items
lead_onto (c ∷ lead) items = (c ∷ lead) ++ feed ∷ items

-- of a list's parts: the lead and then the items
unfoldable pub block : (ordered second : Bool) → List (List Cell) → List Cell
block ordered second [] = []
block ordered second (lead ∷ items) = trim_end (lead_onto (trim_item lead) (joined (item_texts ordered second 1 items)))

-- ---- in code

unfoldable pub kind_of : (ordered second : Bool) → ℕ
kind_of ordered second = cond ordered 2 0 + cond second 1 0

unfoldable pub trimmed : List Cell → List (List Cell)
trimmed x = map trim_end (lines x)

-- the numbers from place a up to place e
unfoldable pub between : (a e : ℕ) → List ℕ → List ℕ
between a e l = drop a (take e l)

abbrev pub head_or : (e : ℕ) → List ℕ → ℕ
head_or e [] = e
head_or e (b ∷ ss) = b

unfoldable pub parts_in : (w : List Cell) → (ss : List ℕ) → (e : ℕ) → List (List Cell)
parts_in w [] e = []
parts_in w (a ∷ ss) e = part a (head_or e ss) w ∷ parts_in w ss e

unfoldable pub Rises : (ss : List ℕ) → (e : ℕ) → Type 0
Rises [] e = Unit
Rises (a ∷ ss) e = (a ≤ head_or e ss) × Rises ss e

-- in a writer's slices: the cells from a up to e are trimmed from x up to y
pub record TrimmedAt (w : Writer) (a e x y : ℕ) : Type 0 where
  pub order : (a ≤ x) × ((x ≤ y) × (y ≤ e))
  pub text : part x y (cells w.bytes.now w.numbers.now) ≡ trim (part a e (cells w.bytes.now w.numbers.now))

-- the first line of the cells from a up to e ends at place j, and at y when its end is trimmed
pub record LineAt (w : Writer) (a e j y : ℕ) : Type 0 where
  pub order : (a ≤ y) × ((y ≤ j) × (j ≤ e))
  pub line : lines (part a e (cells w.bytes.now w.numbers.now)) ≡ part a j (cells w.bytes.now w.numbers.now) ∷ lines (part (j + 1) e (cells w.bytes.now w.numbers.now))
  pub text : part a y (cells w.bytes.now w.numbers.now) ≡ trim_end (part a j (cells w.bytes.now w.numbers.now))

-- line feeds and the items behind them, the end trimmed: what a block still has to write
unfoldable pub held_back : (held : ℕ) → List (List Cell) → List Cell
held_back held texts = trim_end (replicate held feed ++ joined texts)

-- an item's text t before others: what is certain of it has been appended, and held' line feeds are held back in place of held
pub record Blocked (w w' : Writer) (t : List Cell) (held held' : ℕ) : Type 0 where
  pub past : List Cell
  pub wrote : Wrote w w' past
  pub rest : (texts : List (List Cell)) → held_back held (t ∷ texts) ≡ past ++ held_back held' texts
  pub few : held' ≤ held + 1

-- the table of parts from place k up to place last, which end by e, before a writer's area; the table stands outside of the area
pub record Tabled (w : Writer) (k last e : ℕ) : Type 0 where
  pub table : (last ≤ length w.numbers.now) × Apart k last w.at.0 w.end
  pub rises : Rises (between k last w.numbers.now) e
  pub parts : (e ≤ w.at.0) × (e ≤ w.end)

-- of the parts by the table: the items behind line feeds held back, and the block
abbrev pub items_at : (w : Writer) (k last e : ℕ) (ordered second : Bool) (held : ℕ) → List Cell
items_at w k last e ordered second held = held_back held (item_texts ordered second 1 (parts_in (cells w.bytes.now w.numbers.now) (between k last w.numbers.now) e))

abbrev pub block_at : (w : Writer) (k last e : ℕ) (ordered second : Bool) → List Cell
block_at w k last e ordered second = block ordered second (parts_in (cells w.bytes.now w.numbers.now) (between k last w.numbers.now) e)

-- all of this module, for `unfolding` where a closed text is to be computed
unfoldable pub computes : Unit {0}
unfolding marker trim_item item_text item_texts block
computes = tt
