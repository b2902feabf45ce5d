-- A whole call of `convert_quotes`, which is lent m output bytes, k origins, j records and b loss bytes.
--   limited deep many long   the first of document 01's refusals 5, 7, 8 that applies
--   spaced x m               the answer for a text x within these limits: document 01's refusal 6, or the lengths of what is left
--   converted x m j b        the answer for a text x that is right: 5, 7, 8, 6, each over the whole text
--   answered text lent j b   the answer of the call: document 01's refusals 1 to 4, then these
--   text_of, records_in, words_in   what the call leaves: text, numbers of the records and loss bytes, or nothing on refusal
--   Filled ..                output, origins and loss bytes hold such a text and loss bytes, with zeros behind
--   Called ..                what comes back from the call, and what the lent slices then hold
-- In code, where the losses are listed as plain numbers, and what is lent for the result is cleared at the end alone:
--   Noted ..                 the numbers then begin with those of the losses, five each
--   Laid x ..                the text x is laid out, with the loss bytes
--   Spelled x ..             the loss bytes of the text x stand at the front of a slice
--   Left .. r ..             what the answer r leaves: nothing is said on a refusal
--   Answers .. wanted r ..   r comes back, as is wanted, and leaves this
--   Numbered ..              this of a call, with the losses noted
--   Writable ..              what writing a text within the limits asks for; Written: what it leaves
--   Converts ..              what converting a text that is right leaves
-- Assumes nothing.
use Rattle.std.specs.Prelude.{◌≡◌, ℕ, ◌*◌, ◌≤◌, ◌<◌, Bool, false, cond, List, [], length, take, ltb, Result, Ok, Err, None}
use Rattle.text.specs.Bounds.{text_most, out_most, work_size}
use Rattle.text.specs.Cells.{Cell, cells_of}
use Rattle.text.specs.Writes.{cleared, padded, LaidOut}
use Rattle.lending.specs.Lent.{checked}
use Rattle.lending.specs.Answer.{losses_by, answer_by}
use Rattle.lending.specs.declared.lent.Refusal.{Refusal}
use Rattle.lending.specs.declared.lent.Refusal.TheVariants.{TooDeep, NoSpace, TooManyLosses, LossBytesShort}
use Rattle.lending.specs.declared.lent.Lent.{Lent}
use Rattle.lending.specs.declared.answer.Converted.{Converted}
use Rattle.losses.specs.declared.Loss.{Loss}
use Rattle.losses.specs.Records.{records_lent}
use Rattle.attribution_parts.specs.Attribution.{caption}
use Rattle.quote_blocks.specs.Quotes.{too_deep, quotes, quotes_need}
use Rattle.quote_losses.specs.Losses.{quote_losses, loss_bytes, loss_records}

abbrev pub limited : (deep many long : Bool) → Result (Unit {0}) Refusal
limited deep many long = cond deep (Err TooDeep) (cond many (Err TooManyLosses) (cond long (Err LossBytesShort) (Ok tt)))

unfoldable pub spaced : (x : List Cell) → (m : ℕ) → Result Converted Refusal
spaced x m =
    cond (ltb m (quotes_need caption x)) (Err NoSpace)
    (Ok (record { size = length (quotes caption x); losses = length (quote_losses x); bytes = length (loss_bytes x) }))

unfoldable pub converted : (x : List Cell) → (m j b : ℕ) → Result Converted Refusal
converted x m j b = answer_by (limited (too_deep x) (ltb j (length (quote_losses x))) (ltb b (length (loss_bytes x)))) (spaced x m)

unfoldable pub answered : (text : List ℕ) → Lent → (j b : ℕ) → Result Converted Refusal
answered text lent j b = answer_by (checked text lent) (converted (cells_of text) lent.out j b)

abbrev pub text_of : Result Converted Refusal → (text : List ℕ) → List Cell
text_of (Ok done) text = quotes caption (cells_of text)
text_of (Err refusal) text = []

abbrev pub records_in : Result Converted Refusal → (text : List ℕ) → List ℕ
records_in (Ok done) text = loss_records text (cells_of text)
records_in (Err refusal) text = []

abbrev pub words_in : Result Converted Refusal → (text : List ℕ) → List ℕ
words_in (Ok done) text = loss_bytes (cells_of text)
words_in (Err refusal) text = []

pub record Filled (x : List Cell) (bs : List ℕ) (m k b : ℕ) (out plain words : List ℕ) : Type 0 where
  pub laid : LaidOut x m k out plain
  pub spelled : words ≡ padded b bs

-- w work bytes and n work numbers are lent
pub record Called (text : List ℕ) (m k j b w n : ℕ) (r : Result Converted Refusal) (out plain : List ℕ) (records : List Loss) (words : List ℕ) : Type 0 where
  pub answer : r ≡ answered text (record { out = m; origins = k; work = w; numbers = n; spans = None }) j b
  pub filled : Filled (text_of r text) (words_in r text) m k b out plain words
  pub listed : records ≡ records_lent j (records_in r text)

-- ---- in code

-- the losses of an answer are no more than j
pub record Noted (text : List ℕ) (j : ℕ) (r : Result Converted Refusal) (numbers : List ℕ) : Type 0 where
  pub room : 5 * losses_by r ≤ length numbers
  pub few : losses_by r ≤ j
  pub there : take (5 * losses_by r) numbers ≡ records_in r text

-- the text x is laid out, and the loss bytes are cleared behind the first `size`
abbrev pub Laid : (x : List Cell) (size : ℕ) (out plain words out' plain' words' : List ℕ) → Type 0
Laid x size out plain words out' plain' words' = LaidOut x (length out) (length plain) out' plain' × (words' ≡ cleared size words)

pub record Spelled (x : List Cell) (words : List ℕ) (losses bytes : ℕ) : Type 0 where
  pub count : losses ≡ length (quote_losses x)
  pub size : bytes ≡ length (loss_bytes x)
  pub words-there : take bytes words ≡ loss_bytes x
  pub few : losses ≤ length x

-- zeros are written behind the text alone
abbrev pub Left : (text : List ℕ) (m k : ℕ) → Result Converted Refusal → (out plain words : List ℕ) → Type 0
Left text m k (Ok done) out plain words = LaidOut (quotes caption (cells_of text)) m k out plain × Spelled (cells_of text) words done.losses done.bytes
Left text m k (Err refusal) out plain words = Unit

-- what comes back is r: what it has to be is `wanted`
pub record Answers (text : List ℕ) (m k : ℕ) (wanted r : Result Converted Refusal) (out plain words : List ℕ) : Type 0 where
  pub answer : r ≡ wanted
  pub left : Left text m k r out plain words

abbrev pub Numbered : (text : List ℕ) (m k j b w n : ℕ) (r : Result Converted Refusal) (out plain numbers words : List ℕ) → Type 0
Numbered text m k j b w n r out plain numbers words =
    Answers text m k (answered text (record { out = m; origins = k; work = w; numbers = n; spans = None }) j b) r out plain words × Noted text j r numbers

-- work memory for the cells of a text, the contents, a block and joined texts
abbrev pub Writable : (text work numbers out plain : List ℕ) → Type 0
Writable text work numbers out plain =
    (((length text ≤ text_most) × ((length out ≤ out_most) × (length out ≤ length plain))) × ((work_size (length text) (length out) ≤ length work) × (work_size (length text) (length out) ≤ length numbers)))
    × (too_deep (cells_of text) ≡ false)

-- a text of this size, or it does not fit
abbrev pub Written : (text out plain : List ℕ) → Result ℕ Refusal → (out' plain' : List ℕ) → Type 0
Written text out plain (Ok size) out' plain' =
    ((quotes_need caption (cells_of text) ≤ length out) × (size ≡ length (quotes caption (cells_of text))))
    × LaidOut (quotes caption (cells_of text)) (length out) (length plain) out' plain'
Written text out plain (Err refusal) out' plain' = (length out < quotes_need caption (cells_of text)) × (refusal ≡ NoSpace)

abbrev pub Converts : (text : List ℕ) (j : ℕ) (out plain words : List ℕ) → Result Converted Refusal → (out' plain' numbers' words' : List ℕ) → Type 0
Converts text j out plain words r out' plain' numbers' words' =
    Answers text (length out) (length plain) (converted (cells_of text) (length out) j (length words)) r out' plain' words' × Noted text j r numbers'

-- all of this module, for `unfolding` where a closed call is to be computed
unfoldable pub computes : Unit {0}
unfolding spaced converted answered
computes = tt
