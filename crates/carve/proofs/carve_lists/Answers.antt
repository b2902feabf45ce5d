use borrow.Author.Rules.{rules}
use Rattle.carve.specs.Counts.{lists_counts}
use Rattle.carve.proofs.Bounds.{lists-countable}
use Rattle.carve.proofs.Reporting.{mapped-countable, mapped-reported, lists-same}
use Rattle.carve.proofs.carve_lists.Goals as goal

pub report-requires : goal.report-requires
report-requires c = let u = c.convert_lists-listed in
    mapped-countable _ lists_counts lists-same u.result c.map-answer.result c.map-answer.ensures.cases (λ x y k. search rules) (lists-countable _ _ u.result u.ensures.answer)

pub returns : goal.returns
returns c = let u = c.convert_lists-listed in
    let p = mapped-reported _ lists_counts lists-same u.result c.map-answer.result c.map-answer.ensures.cases (λ x y k. search rules) c.report.ensures in
    record { answer = u.result; returned = p.0; counted = p.1; called = u.ensures }
