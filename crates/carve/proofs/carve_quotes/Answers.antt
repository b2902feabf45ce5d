use Rattle.carve.proofs.Bounds.{quotes-countable}
use Rattle.carve.proofs.carve_quotes.Goals as goal

pub report-requires : goal.report-requires
report-requires c = quotes-countable _ _ _ _ _ c.convert_quotes-answer.ensures.answer
