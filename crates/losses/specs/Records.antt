-- Document 01, "Quotes": "The losses go into records that the caller lends". A record is read off five plain numbers: quote, line, unnamed, start, length.
--   no_loss               a record that is all zero
--   records_of ns         the records of the numbers ns, five a record
--   records_lent n ns     n lent records that hold those of ns and then zero records
-- In code:
--   record_at ns k        the record of the five numbers from place k on
-- Assumes nothing.
use Rattle.std.specs.Prelude.{ℕ, ◌+◌, ◌-◌, List, [], ◌∷◌, ◌++◌, length, replicate, get_or}
use Rattle.losses.specs.declared.Loss.{Loss}

abbrev pub no_loss : Loss
no_loss = record { quote = 0; line = 0; unnamed = 0; start = 0; length = 0 }

unfoldable pub records_of : List ℕ → List Loss
records_of (quote ∷ line ∷ unnamed ∷ start ∷ size ∷ ns) = record { quote = quote; line = line; unnamed = unnamed; start = start; length = size } ∷ records_of ns
records_of (quote ∷ line ∷ unnamed ∷ start ∷ []) = []
records_of (quote ∷ line ∷ unnamed ∷ []) = []
records_of (quote ∷ line ∷ []) = []
records_of (quote ∷ []) = []
records_of [] = []

unfoldable pub records_lent : (n : ℕ) → List ℕ → List Loss
records_lent n ns = records_of ns ++ replicate (n - length (records_of ns)) no_loss

-- ---- in code

abbrev pub record_at : List ℕ → ℕ → Loss
record_at ns k = record { quote = get_or ns k 0; line = get_or ns (k + 1) 0; unnamed = get_or ns (k + 2) 0; start = get_or ns (k + 3) 0; length = get_or ns (k + 4) 0 }

-- all of this module, for `unfolding` where a closed call is to be computed
unfoldable pub computes : Unit {0}
unfolding records_of records_lent
computes = tt
