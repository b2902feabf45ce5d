-- The marks pass over a text of n cells in work memory, which stands from `base` on; bs and ns are the work bytes and the work numbers.
--   MarksRoom ..      the text stands behind the area before `end`, and its items fit behind it
--   MarksWritten ..   its marks and their spans have been written into the area; the bytes behind the area stand as they stood
--   MarksPassed ..    the same without the spans
-- Assumes nothing.
use Rattle.std.specs.Prelude.{◌≡◌, List, ℕ, ◌+◌, ◌*◌, ◌≤◌, take, drop}
use Rattle.text.specs.Bounds.{text_most, out_most, number_most}
use Rattle.text.specs.Cells.{cells, part}
use Rattle.text.specs.Writes.{Holds}
use Rattle.mark_tags.specs.Marks.{marks}
use Rattle.mark_pieces.specs.Spans.{Writes}

-- of `work` bytes and `numbers` numbers
abbrev pub MarksRoom : (n base end work numbers : ℕ) → Type 0
MarksRoom n base end work numbers =
    ((n ≤ text_most) × (end ≤ out_most)) × (((end ≤ base) × (base + n ≤ number_most)) × ((base + n ≤ work) × (base + (4 * n + 4) ≤ numbers)))

pub record MarksWritten (bs ns ss : List ℕ) (n base end : ℕ) (bs' ns' : List ℕ) (to : ℕ) (ss' : List ℕ) (c : ℕ) : Type 0 where
  pub wrote : Writes (take end (cells bs ns)) 0 ss 0 (take end (cells bs' ns')) to ss' c (marks (part base (base + n) (cells bs ns)))
  pub bytes-behind : drop end bs' ≡ drop end bs

pub record MarksPassed (bs ns : List ℕ) (n base end : ℕ) (bs' ns' : List ℕ) (to : ℕ) : Type 0 where
  pub holds : Holds (take end (cells bs' ns')) to (marks (part base (base + n) (cells bs ns))).cells
  pub bytes-behind : drop end bs' ≡ drop end bs
