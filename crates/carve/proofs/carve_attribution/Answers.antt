use Rattle.carve.proofs.Bounds.{attribution-countable}
use Rattle.carve.proofs.carve_attribution.Goals as goal

pub report-requires : goal.report-requires
report-requires c = attribution-countable _ _ _ _ _ c.format_attribution-answer.ensures.answer
