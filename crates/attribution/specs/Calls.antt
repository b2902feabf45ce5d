-- A whole call of `format_attribution`.
--   formatted s m l b      what it answers for a text that is right: document 01's refusals 7, 8, 6, or the lengths
--   answered s lent l b    the same with the refusals 1 to 4 first
--   caption_by r s, records_by r s, words_by r s   the caption, the numbers of the records and the loss bytes that an answer leaves; nothing on a
--                          refusal
--   Holding ..             what the output, the origins and the loss bytes then hold
--   Called ..              what comes back, and what the lent slices then hold
-- In code, where the losses are listed as plain numbers:
--   Noted ..               the numbers then begin with theirs, five each
--   Captioned s m ..       the caption stands in work memory behind the text, where it fits in m bytes; else the place is past them
--   Formatted ..           what comes back, and what the slices then hold where the call is not turned back
-- m, k: the lengths of the output and the origins; l, b: of the records and the loss bytes; w, n: of the work bytes and the work numbers.
-- Assumes nothing.
use Rattle.std.specs.Prelude.{◌≡◌, ℕ, ◌+◌, ◌*◌, ◌≤◌, ◌<◌, cond, List, [], length, take, ltb, None, Result, Ok, Err, OnOk}
use Rattle.lending.specs.Lent.{checked}
use Rattle.lending.specs.Answer.{losses_by, if_done, answer_by}
use Rattle.text.specs.Cells.{cells, part, written}
use Rattle.text.specs.Writes.{padded}
use Rattle.lending.specs.declared.answer.Converted.{Converted}
use Rattle.lending.specs.declared.lent.Refusal.{Refusal}
use Rattle.lending.specs.declared.lent.Refusal.TheVariants.{NoSpace, TooManyLosses, LossBytesShort}
use Rattle.lending.specs.declared.lent.Lent.{Lent}
use Rattle.attribution_parts.specs.Attribution.{caption, losses}
use Rattle.attribution_losses.specs.Lists.{records_of, loss_words}
use Rattle.losses.specs.declared.Loss.{Loss}
use Rattle.losses.specs.Records.{records_lent}

unfoldable pub formatted : (s : List ℕ) → (m l b : ℕ) → Result Converted Refusal
formatted s m l b =
    cond (ltb l (length (losses s))) (Err TooManyLosses)
    (cond (ltb b (length (loss_words (losses s)))) (Err LossBytesShort)
    (cond (ltb m (length (caption s))) (Err NoSpace)
    (Ok (record { size = length (caption s); losses = length (losses s); bytes = length (loss_words (losses s)) }))))

unfoldable pub answered : (s : List ℕ) → Lent → (l b : ℕ) → Result Converted Refusal
answered s lent l b = answer_by (checked s lent) (formatted s lent.out l b)

abbrev pub caption_by : Result Converted Refusal → List ℕ → List ℕ
caption_by r s = if_done r (caption s)

-- quote and line are 0
abbrev pub records_by : Result Converted Refusal → List ℕ → List ℕ
records_by r s = if_done r (records_of 0 0 0 (losses s))

abbrev pub words_by : Result Converted Refusal → List ℕ → List ℕ
words_by r s = if_done r (loss_words (losses s))

-- the caption, origins that are all 0 and the loss bytes, with zeros behind each
pub record Holding (text words : List ℕ) (m k b : ℕ) (out origins bytes : List ℕ) : Type 0 where
  pub written : out ≡ padded m text
  pub from : origins ≡ padded k []
  pub lost : bytes ≡ padded b words

pub record Called (s : List ℕ) (m k l b w n : ℕ) (r : Result Converted Refusal) (out origins : List ℕ) (records : List Loss) (bytes : List ℕ) : Type 0 where
  pub answer : r ≡ answered s (record { out = m; origins = k; work = w; numbers = n; spans = None }) l b
  pub holds : Holding (caption_by r s) (words_by r s) m k b out origins bytes
  pub listed : records ≡ records_lent l (records_by r s)

-- ---- in code

-- the losses of an answer stand in front of the numbers, and are no more than l
pub record Noted (s : List ℕ) (l : ℕ) (r : Result Converted Refusal) (numbers : List ℕ) : Type 0 where
  pub room : 5 * losses_by r ≤ length numbers
  pub few : losses_by r ≤ l
  pub there : take (5 * losses_by r) numbers ≡ records_by r s

pub record Captioned (s : List ℕ) (m : ℕ) (work numbers : List ℕ) (r : ℕ) : Type 0 where
  pub fits : length (caption s) ≤ m → (r ≡ length s + length (caption s)) × (part (length s) r (cells work numbers) ≡ written (caption s))
  pub full : m < length (caption s) → length s + m < r

pub record Formatted (s : List ℕ) (m k l b w n : ℕ) (r : Result Converted Refusal) (out origins numbers bytes : List ℕ) : Type 0 where
  pub answer : r ≡ answered s (record { out = m; origins = k; work = w; numbers = n; spans = None }) l b
  pub holds : OnOk r (Holding (caption s) (loss_words (losses s)) m k b out origins bytes)
  pub noted : Noted s l r numbers
