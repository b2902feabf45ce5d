-- Document 02, 3/13: the start of a month by formula, and the twelve starts that document 01 lists.
--   month_start m   days from 1 March to the first of month m from March on: (153 × m + 2) / 5, rounded down
--   month_starts    the twelve starts, from March on
-- Theorem: the formula gives the twelve starts. No contract cites this file: a day is defined by the calendar (Day.antt).
-- Assumes nothing.
use Rattle.std.specs.Prelude.{◌≡◌, Bool, List, [], ◌∷◌, ℕ, ◌+◌, ◌*◌, ◌/◌, ◌<◌, eqb, get_or}
use Rattle.std.proofs.Common.{eqb→eq}
use Rattle.text.proofs.Table.{below}

abbrev pub month_start : ℕ → ℕ
month_start m = (153 * m + 2) / 5

abbrev pub month_starts : List ℕ
month_starts = 0 ∷ 31 ∷ 61 ∷ 92 ∷ 122 ∷ 153 ∷ 184 ∷ 214 ∷ 245 ∷ 275 ∷ 306 ∷ 337 ∷ []

-- one test, computed at each m
agrees : ℕ → Bool
agrees m = eqb (month_start m) (get_or month_starts m 0)

month-starts : (m : ℕ) → m < 12 → month_start m ≡ get_or month_starts m 0
unfolding agrees
month-starts m lt = eqb→eq (month_start m) (get_or month_starts m 0) (below agrees 12 tt m lt)
