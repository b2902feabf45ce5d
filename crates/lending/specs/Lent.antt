-- Document 01, "Lent memory and turned-back calls": what every operation that reads a text tests first.
--   number_of r            document 01's number of a refusal
--   sizes_right n lent     the lent sizes are right for a text of n bytes: refusal 2 where they are not
--   zero_or_return b        a byte 0 or 13: refusal 4 where one is present
--   checked text lent     the first of the refusals 1 to 4 that applies
-- Assumes nothing.
use Rattle.std.specs.Prelude.{ℕ, ◌*◌, ◌/◌, Bool, true, false, cond, ◌&&◌, ◌||◌, List, [], ◌∷◌, length, eqb, leb, Option, Some, None, Result, Ok, Err}
use Rattle.text.specs.Bounds.{text_most, out_most, work_size, numbers_size}
use Rattle.lending.specs.Utf8.{utf8}
use Rattle.lending.specs.declared.lent.Refusal.{Refusal}
use Rattle.lending.specs.declared.lent.Refusal.TheVariants.{TextTooLong, SizesWrong, NotUtf8, ZeroOrReturn, TooDeep, NoSpace, TooManyLosses, LossBytesShort, NotSeconds}
use Rattle.lending.specs.declared.lent.Lent.{Lent}

abbrev pub number_of : Refusal → ℕ
number_of TextTooLong = 1
number_of SizesWrong = 2
number_of NotUtf8 = 3
number_of ZeroOrReturn = 4
number_of TooDeep = 5
number_of NoSpace = 6
number_of TooManyLosses = 7
number_of LossBytesShort = 8
number_of NotSeconds = 9

-- marks alone is lent spans
abbrev pub spans_right : (n : ℕ) → Option ℕ → Bool
spans_right n None = true
spans_right n (Some spans) = leb (2 * (n / 3)) spans

unfoldable pub sizes_right : (n : ℕ) → Lent → Bool
sizes_right n lent =
    leb lent.out out_most
    && leb lent.out lent.origins
    && leb (work_size n lent.out) lent.work
    && leb (numbers_size n lent.out) lent.numbers
    && spans_right n lent.spans

unfoldable pub zero_or_return : ℕ → Bool
zero_or_return b = eqb b 0 || eqb b 13

unfoldable pub any_zero_or_return : List ℕ → Bool
any_zero_or_return [] = false
any_zero_or_return (b ∷ s) = zero_or_return b || any_zero_or_return s

unfoldable pub checked : List ℕ → Lent → Result (Unit {0}) Refusal
checked text lent =
    cond (leb (length text) text_most)
    (cond (sizes_right (length text) lent)
    (cond (utf8 text)
    (cond (any_zero_or_return text) (Err ZeroOrReturn) (Ok tt))
    (Err NotUtf8))
    (Err SizesWrong))
    (Err TextTooLong)

-- all of this module, for `unfolding` where a closed call is to be computed
unfoldable pub computes : Unit {0}
unfolding sizes_right zero_or_return any_zero_or_return checked
computes = tt
