-- Document 01, "Day": seconds / 86,400 as a Gregorian YYYY-MM-DD.
--   leap y              29 days in February: y divisible by 4 and, where by 100, by 400
--   month_length y m     how many days month m (1 to 12) of year y has
--   day_after date       the next day
--   date_after n         the day that lies n days after 1970-01-01
--   iso date            YYYY-MM-DD
--   number s            what the digits s spell in decimal
--   is_seconds s         s is 9 to 11 digits
--   day_of s             the day of the seconds that s spells
--   answer s m          what a call for s with an output of m bytes answers
--   number_of_answer r  document 01's number of an answer, 0 where the call is not turned back (lending's specs/Answer)
--   output s m          what then stands in the output
-- Assumes nothing.
use Rattle.std.specs.Prelude.{ℕ, zero, suc, ◌+◌, ◌-◌, ◌*◌, ◌/◌, ◌%◌, Bool, cond, not, ◌&&◌, ◌||◌, List, [], ◌∷◌, ◌++◌, length, get_or, eqb, leb, ltb, Result, Ok, Err}
use Rattle.text.specs.Ascii.{ascii, all_digits}
use Rattle.text.specs.Writes.{padded}
pub use Rattle.lending.specs.Answer.{number_of_answer}
use Rattle.lending.specs.declared.lent.Refusal.{Refusal}
use Rattle.lending.specs.declared.lent.Refusal.TheVariants.{SizesWrong, NotSeconds}
use Rattle.day.specs.declared.Date.{Date}

-- ---- the calendar

abbrev pub divides : ℕ → ℕ → Bool
divides k n = eqb (n % k) 0

unfoldable pub leap : ℕ → Bool
leap y = divides 4 y && (not (divides 100 y) || divides 400 y)

unfoldable pub month_length : ℕ → ℕ → ℕ
month_length y m = get_or (31 ∷ cond (leap y) 29 28 ∷ 31 ∷ 30 ∷ 31 ∷ 30 ∷ 31 ∷ 31 ∷ 30 ∷ 31 ∷ 30 ∷ 31 ∷ []) (m - 1) 0

abbrev pub date : ℕ → ℕ → ℕ → Date
date y m d = record { year = y; month = m; day = d }

unfoldable pub day_after : Date → Date
day_after t =
    cond (ltb t.day (month_length t.year t.month)) (date t.year t.month (t.day + 1))
    (cond (ltb t.month 12) (date t.year (t.month + 1) 1)
    (date (t.year + 1) 1 1))

unfoldable pub date_after : ℕ → Date
date_after zero = date 1970 1 1
date_after (suc n) = day_after (date_after n)

-- ---- digits

-- the number whose digits so far spell n
unfoldable pub number_after : ℕ → List ℕ → ℕ
number_after n [] = n
number_after n (b ∷ s) = number_after (10 * n + (b - 48)) s

unfoldable pub number : List ℕ → ℕ
number s = number_after 0 s

abbrev pub two : ℕ → List ℕ
two n = (48 + n / 10) ∷ (48 + n % 10) ∷ []

unfoldable pub iso : Date → List ℕ
iso t = two (t.year / 100) ++ (two (t.year % 100) ++ (ascii "-" ++ (two t.month ++ (ascii "-" ++ two t.day))))

-- ---- a call

unfoldable pub is_seconds : List ℕ → Bool
is_seconds s = leb 9 (length s) && (leb (length s) 11 && all_digits s)

unfoldable pub day_of : List ℕ → List ℕ
day_of s = iso (date_after (number s / 86400))

-- the first refusal that applies
unfoldable pub answer : List ℕ → ℕ → Result (Unit {0}) Refusal
answer s m = cond (ltb m 10) (Err SizesWrong) (cond (is_seconds s) (Ok tt) (Err NotSeconds))

-- what an answer leaves in an output of m bytes
abbrev pub output_by : Result (Unit {0}) Refusal → List ℕ → ℕ → List ℕ
output_by (Ok done) s m = padded m (day_of s)
output_by (Err refusal) s m = padded m []

unfoldable pub output : List ℕ → ℕ → List ℕ
output s m = output_by (answer s m) s m

-- all of this module, for `unfolding` where a closed call is to be computed
unfoldable pub computes : Unit {0}
unfolding leap month_length day_after date_after number_after number iso is_seconds day_of answer output
computes = tt
