-- A mark that is written up to its end.
--   Bodied ..   a mark's opening delimiter d stands at place p, its body behind it up to `end`, and the spans inside it up to `listed`
-- Assumes nothing.
use Rattle.std.specs.Prelude.{◌≡◌, List, [], ◌∷◌, ℕ, ◌+◌, ◌*◌, ◌%◌, length, get_or}
use Rattle.text.specs.Cells.{Cell, cells, sign}
use Rattle.text.specs.Writes.{Appends}
use Rattle.mark_tags.specs.Marks.{delimiter}
use Rattle.mark_tags.specs.Flat.{kind_numbered}
use Rattle.mark_pieces.specs.Spans.{MarkReady, SlotWritten}

pub record Bodied (src ns : List ℕ) (k mask before d p : ℕ) (out origins : List ℕ) (end : ℕ) (ss : List ℕ) (c listed item : ℕ) : Type 0 where
  -- the mark's item, and what stood before the mark and before its body
  pub i : ℕ
  pub v : List Cell
  pub v₁ : List Cell
  pub at₁ : ℕ
  pub spans : List ℕ
  pub ready : MarkReady src ns k i mask before out origins c
  pub delimits : d ≡ delimiter (kind_numbered (get_or ns (2 * length src + 2 + i) 0 % 4))
  pub same₁ : length v₁ ≡ length v
  pub same : length (cells out origins) ≡ length v
  pub same-spans : length ss ≡ length spans
  pub opened : Appends v p v₁ at₁ (sign d ∷ [])
  pub body : SlotWritten src ns k (i + 1) v₁ at₁ spans (c + 2) (cells out origins) end ss listed item
