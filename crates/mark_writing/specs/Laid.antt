-- A text in a writer's pair of slices, behind its area, as `Layout` has it; bs and ns are the bytes and the numbers of the pair.
--   source x bs    the text's bytes
--   table x ns     the codes of its cells, and its items behind them
--   Lies x w       the text stands behind the writer's area, in the bytes of its pair
--   TableIn, HeldIn    the items stand there
--   SlotAsked, SlotDone ..      what writing a slot is asked, and what it does: a slot, one that is one text, a mark, a mark whose body is written
-- Assumes nothing.
use Rattle.std.specs.Prelude.{List, ℕ, ◌+◌, ◌*◌, ◌≤◌, length, take, drop}
use Rattle.text.specs.Bounds.{text_most, number_most}
use Rattle.text.specs.Writes.{cut}
use Rattle.text.specs.declared.writer.Writer.{Writer}
use Rattle.mark_tags.specs.Flat.{Held}
use Rattle.mark_pieces.specs.Spans.{Slot, SlotWritten, MarkReady, MarkWritten}
use Rattle.mark_pieces.specs.Behind.{area, Kept}
use Rattle.mark_writing.specs.Bodied.{Bodied}
use Rattle.mark_writing.specs.OneText.{OneText}
use Rattle.mark_writing.specs.declared.slot.Layout.{Layout}
use Rattle.mark_writing.specs.declared.slot.Went.{Went}
use Rattle.mark_writing.specs.declared.slot.Begun.{Begun}
use Rattle.mark_writing.specs.declared.slot.Drawn.{Drawn}

abbrev pub source : Layout → List ℕ → List ℕ
source x bs = cut x.base.0 (x.base.0 + x.size) bs

abbrev pub table : Layout → List ℕ → List ℕ
table x ns = drop x.base.0 ns

pub record Lies (x : Layout) (w : Writer) : Type 0 where
  pub behind : w.end ≤ x.base.0
  pub inside : x.base.0 + x.size ≤ length w.bytes.now
  pub near : x.base.0 + x.size ≤ number_most

pub record TableIn (x : Layout) (ns : List ℕ) : Type 0 where
  pub small : x.size ≤ text_most
  pub room : x.base.0 + (4 * x.size + 4) ≤ length ns
  pub few : x.items ≤ x.size + 1

abbrev pub HeldIn : Layout → Writer → Type 0
HeldIn x w = Held (source x w.bytes.now) (table x w.numbers.now) x.items × Lies x w

-- ---- a slot

abbrev pub SlotAsked : Layout → Writer → (from mask c : ℕ) → Type 0
SlotAsked x w from mask c =
    Slot (source x w.bytes.now) (table x w.numbers.now) x.items from mask (take w.end w.bytes.now) (take w.end w.numbers.now) c × Lies x w

abbrev pub SlotDone : Layout → Writer → (from : ℕ) → (ss : List ℕ) → (c : ℕ) → Writer → (ss' : List ℕ) → Went → Type 0
SlotDone x w from ss c w' ss' r =
    SlotWritten (source x w.bytes.now) (table x w.numbers.now) x.items from (area w) w.at.0 ss c (area w') w'.at.0 ss' r.count r.item × Kept w w'

-- one that is one text: the spans do not matter

abbrev pub TextAsked : Layout → Writer → (from : ℕ) → Type 0
TextAsked x w from = HeldIn x w × OneText (source x w.bytes.now) (table x w.numbers.now) x.items from

abbrev pub TextDone : Layout → Writer → (from c : ℕ) → Writer → Went → Type 0
TextDone x w from c w' r = (
    (ss : List ℕ) → SlotWritten (source x w.bytes.now) (table x w.numbers.now) x.items from (area w) w.at.0 ss c (area w') w'.at.0 ss r.count r.item
    ) × Kept w w'

-- ---- a mark

abbrev pub MarkAsked : Layout → Writer → (i mask before c : ℕ) → Type 0
MarkAsked x w i mask before c =
    MarkReady (source x w.bytes.now) (table x w.numbers.now) x.items i mask before (take w.end w.bytes.now) (take w.end w.numbers.now) c × Lies x w

abbrev pub MarkDone : Layout → Writer → (i before : ℕ) → (ss : List ℕ) → (c : ℕ) → Writer → (ss' : List ℕ) → Drawn → Type 0
MarkDone x w i before ss c w' ss' r =
    MarkWritten (source x w.bytes.now) (table x w.numbers.now) x.items i before (area w) w.at.0 ss c (area w') w'.at.0 ss' r.count r.item r.before r.guarded × Kept w w'

-- whose body is written

abbrev pub BodyIn : Layout → Begun → Went → Writer → (ss : List ℕ) → Type 0
BodyIn x m g w ss =
    Bodied (source x w.bytes.now) (table x w.numbers.now) x.items m.mask m.before m.d m.start.0 (take w.end w.bytes.now) (take w.end w.numbers.now) w.at.0 ss m.count g.count g.item

abbrev pub BodyAsked : Layout → Begun → Went → Writer → (ss : List ℕ) → Type 0
BodyAsked x m g w ss = BodyIn x m g w ss × Lies x w

abbrev pub BodyDone : Layout → Begun → Went → Writer → (ss : List ℕ) → Writer → (ss' : List ℕ) → Drawn → Type 0
BodyDone x m g w ss w' ss' r = (
    (b : BodyIn x m g w ss)
    → MarkWritten (source x w.bytes.now) (table x w.numbers.now) x.items b.i m.before b.v m.start.0 b.spans m.count (area w') w'.at.0 ss' r.count r.item r.before r.guarded
    ) × Kept w w'
