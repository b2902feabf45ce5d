-- A whole call of `convert_lists`.
--   converted x m         the length of the text that is laid out where m bytes are lent for it: document 01's refusals 5, 6
--   answered text lent    what the call answers: document 01's refusals 1 to 4, then 5, 6
--   text_of r x           the text that is laid out: the pass's on x, or nothing on refusal
--   Called ..             what comes back, and what the lent slices then hold
--   Converted ..          the same before what is lent for the result is cleared on refusal
-- Assumes nothing.
use Rattle.std.specs.Prelude.{◌≡◌, ℕ, cond, List, [], length, ltb, None, Result, Ok, Err, OnOk}
use Rattle.text.specs.Cells.{Cell, cells_of}
use Rattle.text.specs.Writes.{LaidOut}
use Rattle.lending.specs.Lent.{checked}
use Rattle.lending.specs.Answer.{answer_by}
use Rattle.lending.specs.declared.lent.Refusal.{Refusal}
use Rattle.lending.specs.declared.lent.Refusal.TheVariants.{TooDeep, NoSpace}
use Rattle.lending.specs.declared.lent.Lent.{Lent}
use Rattle.list_blocks.specs.Tags.{too_deep}
use Rattle.list_blocks.specs.Lists.{lists, lists_need}

-- of a text that is right, where m is the output's length
unfoldable pub converted : (x : List Cell) → (m : ℕ) → Result ℕ Refusal
converted x m = cond (too_deep x) (Err TooDeep) (cond (ltb m (lists_need x)) (Err NoSpace) (Ok (length (lists x))))

unfoldable pub answered : (text : List ℕ) → Lent → Result ℕ Refusal
answered text lent = answer_by (checked text lent) (converted (cells_of text) lent.out)

abbrev pub text_of : Result ℕ Refusal → (x : List Cell) → List Cell
text_of (Ok n) x = lists x
text_of (Err r) x = []

-- the output has m bytes and k origins
pub record Called (text : List ℕ) (m k w n : ℕ) (r : Result ℕ Refusal) (out plain : List ℕ) : Type 0 where
  pub answer : r ≡ answered text (record { out = m; origins = k; work = w; numbers = n; spans = None })
  pub laid : LaidOut (text_of r (cells_of text)) m k out plain

pub record Converted (text : List ℕ) (m k w n : ℕ) (r : Result ℕ Refusal) (out plain : List ℕ) : Type 0 where
  pub answer : r ≡ answered text (record { out = m; origins = k; work = w; numbers = n; spans = None })
  pub laid : OnOk r (LaidOut (lists (cells_of text)) m k out plain)
