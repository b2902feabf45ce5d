use mathlib.Core.Path.{sym, ◌∙◌}
use Prim.Native.Nat.{◌/◌}
use borrow.Author.Tests.{lt-ltb, le-ltb}
use Rattle.day.proofs.March.{civil, year_of_era, month_parameter, fits-365, fits-year, fits-era, fits_next, quarter}
use Rattle.day.proofs.date_after.Goals as goal

pub overflow_mul-day_of_year : goal.overflow_mul-day_of_year
overflow_mul-day_of_year c = let n = c.args.n in record { fits = fits-365 (year_of_era n) (civil n).below-400 }

pub overflow_add-day_of_year : goal.overflow_add-day_of_year
overflow_add-day_of_year c = let n = c.args.n in record { fits = fits-year (year_of_era n) (year_of_era n / 4) (civil n).below-400 (quarter (year_of_era n)) }

pub overflow_sub-day_of_year-2 : goal.overflow_sub-day_of_year-2
overflow_sub-day_of_year-2 c = (civil c.args.n).start

pub overflow_add-year : goal.overflow_add-year
overflow_add-year c = let n = c.args.n in
    record { fits = fits-era n (year_of_era n) c.requires (civil n).below-400 }

pub returns-then-month_parameter-lt10 : goal.returns-then-month_parameter-lt10
returns-then-month_parameter-lt10 c = let n = c.args.n in
    sym ((civil n).is ∙ rw (lt-ltb (month_parameter n) 10 c.if-month_parameter-lt10.true))

pub overflow_add-result-else-month_parameter-lt10 : goal.overflow_add-result-else-month_parameter-lt10
overflow_add-result-else-month_parameter-lt10 c = let n = c.args.n in
    record { fits = fits_next n (year_of_era n) c.requires (civil n).below-400 }

pub returns-else-month_parameter-lt10 : goal.returns-else-month_parameter-lt10
returns-else-month_parameter-lt10 c = let n = c.args.n in
    sym ((civil n).is ∙ rw (le-ltb (month_parameter n) 10 c.if-month_parameter-lt10.false))
