use borrow.Author.Rules.{rules}
use Rattle.carve.specs.Counts.{marks_counts}
use Rattle.carve.proofs.Bounds.{marks-countable}
use Rattle.carve.proofs.Reporting.{mapped-countable, mapped-reported, marks-same}
use Rattle.carve.proofs.carve_marks.Goals as goal

pub report-requires : goal.report-requires
report-requires c = let u = c.convert_marks-marked in
    mapped-countable _ marks_counts marks-same u.result c.map-answer.result c.map-answer.ensures.cases (λ x y k. search rules) (marks-countable _ _ u.result u.ensures.answer)

pub returns : goal.returns
returns c = let u = c.convert_marks-marked in
    let p = mapped-reported _ marks_counts marks-same u.result c.map-answer.result c.map-answer.ensures.cases (λ x y k. search rules) c.report.ensures in
    record { answer = u.result; returned = p.0; counted = p.1; called = u.ensures }
