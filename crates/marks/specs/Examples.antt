-- Whole calls of `convert_marks` by computation: the answers at the output's length and at one less, and with a span number too few.
--   Answers s m k r    the call on s answers r, with m output bytes, k span numbers and enough of the rest
-- Assumes nothing.
use Rattle.std.specs.Prelude.{◌≡◌, refl, ℕ, Some, Result, Ok, Err}
use Prim.Native.String.{String}
use Rattle.text.specs.Ascii as Ascii
use Rattle.text.specs.Ascii.{ascii}
use Rattle.text.specs.Blanks as Blanks
use Rattle.text.specs.Cells as Cells
use Rattle.lending.specs.Utf8 as Utf8
use Rattle.lending.specs.Lent as Lent
use Rattle.lending.specs.declared.lent.Refusal.TheVariants.{SizesWrong, NoSpace}
use Rattle.lending.specs.declared.lent.Refusal.{Refusal}
use Rattle.mark_tags.specs.Marks as Marks
use Rattle.marks.specs.declared.Marked.{Marked}
use Rattle.marks.specs.Calls.{converted, answered}

abbrev Answers : String → (m k : ℕ) → Result Marked Refusal → Type 0
Answers s m k r = answered (ascii s) (record { out = m; origins = 32; work = 256; numbers = 512; spans = Some k }) ≡ r

-- `a{*b*}` has 6 bytes and one span
calls : Answers "a[b]b[/b]" 6 6 (Ok (record { size = 6; spans = 1 })) × Answers "a[b]b[/b]" 5 6 (Err NoSpace) × Answers "a[b]b[/b]" 6 5 (Err SizesWrong)
unfolding converted answered Marks.computes Ascii.computes Blanks.computes Cells.computes Utf8.computes Lent.computes
calls = (refl, refl, refl)
