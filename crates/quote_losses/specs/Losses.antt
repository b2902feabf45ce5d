-- Document 01, "Quotes": the losses of the converted quotes. "Records stand in the order of the quotes' openers, then of each quote's losses,
-- and hold start and length of the field in the loss bytes, which are filled in that order without gaps."
--   losses_in names        the losses of quotes with these attributions, in their order
--   quote_losses x         the losses of the text x: refusal 7 where they are more than the lent records
--   loss_bytes x           their fields, one behind the other: refusal 8 where they are longer than the lent loss bytes
--   loss_records s x       their records, five numbers each: quote number from 1, line in the original text s, unnamed 0 or 1, start, length
-- In code, where ts are the tags of the masked original text:
--   records_by ts q to next names  the records of quotes with these attributions, where the search for the first begins at tag `next`
--   names_at i x           the attributions of the openers of x from place i on
--   ListsToken ..         the losses of the token at a place have been listed
--   FewAt i q k to        the next quote's number, the losses and the loss bytes before place i are few enough for 32 bits
--   ListsLosses ..        the losses of a text with the bytes s have been listed: what does not fit is counted, not written
-- Assumes nothing.
use Rattle.std.specs.Prelude.{◌≡◌, ℕ, suc, ◌+◌, ◌*◌, ◌≤◌, List, [], ◌∷◌, ◌++◌, length, drop}
use Rattle.text.specs.Cells.{Cell, bytes}
use Rattle.attribution_parts.specs.Attribution.{Loss, losses}
use Rattle.attribution_losses.specs.Lists.{Puts, records_of, loss_words, Lists}
use Rattle.quote_blocks.specs.Quotes.{tokens, attributions_in, attributions}
use Rattle.quote_lines.specs.Lines.{Tag, lines_from, lines_of}

unfoldable pub losses_in : (names : List (List ℕ)) → List Loss
losses_in [] = []
losses_in (a ∷ later) = losses a ++ losses_in later

unfoldable pub quote_losses : List Cell → List Loss
quote_losses x = losses_in (attributions x)

unfoldable pub loss_bytes : List Cell → List ℕ
loss_bytes x = loss_words (quote_losses x)

-- from this quote number on, with the fields from place `to` on, and the line of each quote
unfoldable pub records_from : (quote to : ℕ) → (names : List (List ℕ)) → (lines : List ℕ) → List ℕ
records_from quote to [] lines = []
records_from quote to (a ∷ later) [] = []
records_from quote to (a ∷ later) (l ∷ lines) = records_of quote l to (losses a) ++ records_from (suc quote) (to + length (loss_words (losses a))) later lines

unfoldable pub loss_records : (original : List ℕ) → List Cell → List ℕ
loss_records original x = records_from 1 0 (attributions x) (lines_of original (attributions x))

-- ---- in code

abbrev pub records_by : List Tag → (quote to next : ℕ) → (names : List (List ℕ)) → List ℕ
records_by ts quote to next names = records_from quote to names (lines_from ts next names)

abbrev pub names_at : (i : ℕ) → List Cell → List (List ℕ)
names_at i x = attributions_in (tokens 0 (drop i x))

-- from place i, where quote number `quote` would be the next, record k and the byte at `to`, to place i'
pub record ListsToken (s : List ℕ) (ts : List Tag) (rs bs : List ℕ) (i quote next k to : ℕ) (rs' bs' : List ℕ) (i' quote' next' k' to' : ℕ) : Type 0 where
  pub line : ℕ
  pub lost : List Loss
  pub lists : Lists quote line rs k bs to rs' k' bs' to' lost
  pub records-rest : (x : List Cell) → bytes x ≡ s → records_by ts quote to next (names_at i x) ≡ records_of quote line to lost ++ records_by ts quote' to' next' (names_at i' x)
  pub losses-rest : (x : List Cell) → bytes x ≡ s → losses_in (names_at i x) ≡ lost ++ losses_in (names_at i' x)

-- no more of each than the text has bytes before place i
pub record FewAt (i quote k to : ℕ) : Type 0 where
  pub quotes : quote ≤ i + 1
  pub losses : k ≤ i
  pub bytes : to ≤ 2 * i

pub record ListsLosses (s : List ℕ) (ts : List Tag) (rs bs rs' bs' : List ℕ) (k to : ℕ) : Type 0 where
  pub count : (x : List Cell) → bytes x ≡ s → k ≡ length (quote_losses x)
  pub records : (x : List Cell) → bytes x ≡ s → Puts rs 0 rs' (5 * k) (records_by ts 1 0 0 (attributions x))
  pub words : (x : List Cell) → bytes x ≡ s → Puts bs 0 bs' to (loss_bytes x)
  pub few : k ≤ length s
  pub small : to ≤ 2 * length s

-- all of this module, for `unfolding` where a closed text is to be computed
unfoldable pub computes : Unit {0}
unfolding losses_in quote_losses loss_bytes records_from loss_records
computes = tt
