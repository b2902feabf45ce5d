-- How losses are listed in lent slices: bytes one behind the other, and five numbers a record.
--   Puts v at v' at' t     from v at `at` to v' at `at'`, t has been put; a place past the end counts on, and nothing is written there
--   records_of q l to ls    the records of the losses ls: quote, line, unnamed 0 or 1, start and length of the field; its bytes begin at `to`
--   loss_words ls           their fields, one behind the other without gaps
--   Lists ..               the losses ls have been listed: the records from number k on, the bytes from `to` on
-- Assumes nothing.
use Rattle.std.specs.Prelude.{◌≡◌, ℕ, ◌+◌, ◌*◌, ◌≤◌, ◌<◌, Bool, true, false, cond, not, ◌&&◌, ◌||◌, List, [], ◌∷◌, ◌++◌, length, take, drop, eqb, ltb}
use Rattle.text.specs.Ascii.{ascii}
use Rattle.attribution_reading.specs.declared.facts.Field.{Field}
use Rattle.attribution_reading.specs.declared.facts.Fields.{Fields}
use Rattle.attribution_reading.specs.declared.facts.Lead.{Lead}
use Rattle.attribution_losses.specs.declared.loss.Group.{Group}
use Rattle.attribution_losses.specs.declared.loss.Counts.{Counts}
use Rattle.attribution_parts.specs.Parts.{parts}
use Rattle.attribution_parts.specs.Attribution.{Loss, loss_of, run_words, losses_from, is_day}
use Rattle.attribution_reading.specs.Places.{Stands}
use Rattle.attribution_reading.specs.Reads.{FieldsAt}

pub record Puts {T : Type 0} (v : List T) (at : ℕ) (v' : List T) (at' : ℕ) (t : List T) : Type 0 where
  pub size : length v' ≡ length v
  pub end : at' ≡ at + length t
  pub keeps : take at v' ≡ take at v
  pub text : at' ≤ length v → take at' v' ≡ take at v ++ t

abbrev pub flag : Bool → ℕ
flag unnamed = cond unnamed 1 0

-- the record of a field of n bytes; none where it is empty
unfoldable pub record_of : (q l u to n : ℕ) → List ℕ
record_of q l u to n = cond (eqb n 0) [] (q ∷ l ∷ u ∷ to ∷ n ∷ [])

unfoldable pub records_of : (q l to : ℕ) → List Loss → List ℕ
records_of q l to [] = []
records_of q l to (x ∷ ls) = q ∷ l ∷ flag x.unnamed ∷ to ∷ length x.words ∷ records_of q l (to + length x.words) ls

unfoldable pub loss_words : List Loss → List ℕ
loss_words [] = []
loss_words (x ∷ ls) = x.words ++ loss_words ls

pub record Lists (q l : ℕ) (rs : List ℕ) (k : ℕ) (bs : List ℕ) (to : ℕ) (rs' : List ℕ) (k' : ℕ) (bs' : List ℕ) (to' : ℕ) (ls : List Loss) : Type 0 where
  pub records : Puts rs (5 * k) rs' (5 * k') (records_of q l to ls)
  pub words : Puts bs to bs' to' (loss_words ls)

-- ---- the losses part by part

abbrev pub is_at : Field → ℕ → Bool
is_at f i = ltb 0 f.value.size && eqb i f.index

unfoldable pub used_by : Fields → Bool → ℕ → Bool
used_by f day i =
    is_at f.name i
    || (is_at f.post i
    || (is_at f.time i
    || ((is_at f.id i && eqb f.post.value.size 0)
    || (is_at f.date i && not day))))

-- an id field passes over a leading id
unfoldable pub passed_by : Lead → Fields → Bool
passed_by l f = not (eqb l.id.size 0 || (eqb f.post.value.size 0 && eqb f.id.value.size 0))

abbrev pub passed_loss : Bool → List Loss
passed_loss passed = cond passed (loss_of false (ascii "id")) []

-- the losses from part i on, where the parts from `at` on are to be read
unfoldable pub losses_at : (s : List ℕ) (run : Bool) (i at : ℕ) → List Loss
losses_at s run i at = losses_from (parts 0 s) i run (parts 0 (drop at s))

unfoldable pub run_at : (s : List ℕ) (at : ℕ) → List ℕ
run_at s at = run_words (parts 0 (drop at s))

-- what has been read off the attribution
pub record Told (s : List ℕ) (f : Fields) (day : Bool) : Type 0 where
  pub fields : FieldsAt s f
  pub seconds : day ≡ is_day (parts 0 s)

-- part i begins at `at`; the bytes put from `to` on stay below 2^32
pub record Here (s : List ℕ) (i at to : ℕ) : Type 0 where
  pub stands : Stands s i at
  pub slow : i ≤ at
  pub room : to + 2 * length s ≤ 4294967295 + 2 * at

-- the bytes of the rest of a run have been put
pub record Ran (s : List ℕ) (i at : ℕ) (bs : List ℕ) (to : ℕ) (bs' : List ℕ) (g : Group) : Type 0 where
  pub puts : Puts bs to bs' g.to (run_at s at)
  pub rest : losses_at s true i at ≡ losses_at s false g.index g.at
  pub unnamed : g.unnamed ≡ true
  pub stands : Stands s g.index g.at
  pub grows : at ≤ g.at
  pub index : i ≤ g.index
  pub slow : g.index + at ≤ i + g.at
  pub small : g.to + 2 * at ≤ to + 2 * g.at

-- the bytes of one loss, if any, have been put: of a field, of a quoted text, or of a run
pub record Grouped (s : List ℕ) (i at : ℕ) (bs : List ℕ) (to : ℕ) (bs' : List ℕ) (g : Group) : Type 0 where
  pub words : List ℕ
  pub puts : Puts bs to bs' g.to words
  pub rest : losses_at s false i at ≡ loss_of g.unnamed words ++ losses_at s false g.index g.at
  pub stands : Stands s g.index g.at
  pub grows : at < g.at
  pub index : i < g.index
  pub slow : g.index + at ≤ i + g.at
  pub small : g.to + 2 * at ≤ to + 2 * g.at

-- the losses from part i on have been listed
pub record Listed (s : List ℕ) (i at q l : ℕ) (rs : List ℕ) (k : ℕ) (bs : List ℕ) (to : ℕ) (rs' bs' : List ℕ) (c : Counts) : Type 0 where
  pub lists : Lists q l rs k bs to rs' c.losses bs' c.bytes (losses_at s false i at)
  pub losses : c.losses + i ≤ k + length s
  pub small : c.bytes + 2 * at ≤ to + 2 * length s
