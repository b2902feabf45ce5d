-- A whole call of `convert_marks`.
--   answered text lent   what the call answers: document 01's refusals 1 to 4, then 6; else the length of the text and the number of its spans
--   written_of r x        the text and the spans that are left: the pass's on x, or nothing on refusal
--   Left ..              a text and its spans stand in the lent slices, with zeros behind
--   Attempted ..         what comes back, and what the lent slices hold where it is no refusal
--   Called ..            what comes back, and what the lent slices then hold
-- Assumes nothing.
use Rattle.std.specs.Prelude.{◌≡◌, ℕ, cond, List, [], length, ltb, Some, Result, Ok, Err}
use Rattle.text.specs.Cells.{Cell, cells_of}
use Rattle.lending.specs.Lent.{checked}
use Rattle.text.specs.Writes.{padded, LaidOut}
use Rattle.lending.specs.declared.lent.Refusal.{Refusal}
use Rattle.lending.specs.declared.lent.Refusal.TheVariants.{NoSpace}
use Rattle.lending.specs.declared.lent.Lent.{Lent}
use Rattle.mark_tags.specs.Marks.{Written, plain, marks, span_numbers}
use Rattle.marks.specs.declared.Marked.{Marked}

-- of a text that is right, where m is the output's length: 6 exactly where the text is longer
unfoldable pub converted : (x : List Cell) → (m : ℕ) → Result Marked Refusal
converted x m = cond (ltb m (length (marks x).cells)) (Err NoSpace) (Ok (record { size = length (marks x).cells; spans = length (marks x).spans }))

abbrev pub answer_by : Result (Unit {0}) Refusal → (x : List Cell) → (m : ℕ) → Result Marked Refusal
answer_by (Err r) x m = Err r
answer_by (Ok u) x m = converted x m

unfoldable pub answered : (text : List ℕ) → Lent → Result Marked Refusal
answered text lent = answer_by (checked text lent) (cells_of text) lent.out

abbrev pub written_of : Result Marked Refusal → (x : List Cell) → Written
written_of (Ok a) x = marks x
written_of (Err r) x = plain []

-- the output has m bytes, k origins and s span numbers
pub record Left (w : Written) (m k s : ℕ) (out origins spans : List ℕ) : Type 0 where
  pub laid : LaidOut w.cells m k out origins
  pub listed : spans ≡ padded s (span_numbers w.spans)

pub record Attempted (text : List ℕ) (m k s w n : ℕ) (r : Result Marked Refusal) (out origins spans : List ℕ) : Type 0 where
  pub answer : r ≡ answered text (record { out = m; origins = k; work = w; numbers = n; spans = Some s })
  pub left : (a : Marked) → r ≡ Ok a → Left (marks (cells_of text)) m k s out origins spans

pub record Called (text : List ℕ) (m k s w n : ℕ) (r : Result Marked Refusal) (out origins spans : List ℕ) : Type 0 where
  pub answer : r ≡ answered text (record { out = m; origins = k; work = w; numbers = n; spans = Some s })
  pub left : Left (written_of r (cells_of text)) m k s out origins spans
