-- Texts that the marks pass leaves as they are.
--   Untagged s   it does so with every text with the bytes s
-- Assumes nothing.
use Rattle.std.specs.Prelude.{◌≡◌, ℕ, List}
use Rattle.text.specs.Cells.{Cell, bytes}
use Rattle.mark_tags.specs.Marks.{marks}

abbrev pub Untagged : List ℕ → Type 0
Untagged s = (x : List Cell) → bytes x ≡ s → (marks x).cells ≡ x
