use borrow.Author.Rules.{rules}
use Rattle.std.proofs.Common.{ap, ◌∙◌}
use Rattle.day.specs.Day.{number_of_answer}
use Rattle.carve.specs.Counts.{day_counts}
use Rattle.carve.proofs.Bounds.{day-countable}
use Rattle.carve.proofs.Reporting.{mapped-countable, mapped-reported, day-same}
use Rattle.carve.proofs.carve_day.Goals as goal

pub report-requires : goal.report-requires
report-requires c = mapped-countable _ day_counts day-same c.unix_seconds_date-dated.result c.map-answer.result c.map-answer.ensures.cases (λ x y k. search rules) (day-countable c.unix_seconds_date-dated.result)

pub returns : goal.returns
returns c = let u = c.unix_seconds_date-dated in
    let p = mapped-reported _ day_counts day-same u.result c.map-answer.result c.map-answer.ensures.cases (λ x y k. search rules) c.report.ensures in
    (p.0 ∙ ap number_of_answer u.ensures.0, (u.ensures.1, p.1 ∙ ap day_counts u.ensures.0))
