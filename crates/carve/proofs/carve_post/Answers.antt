use Rattle.carve.proofs.Bounds.{post-countable}
use Rattle.carve.proofs.carve_post.Goals as goal

pub report-requires : goal.report-requires
report-requires c = post-countable _ _ _ _ _ c.bbcode_to_carve-answer.ensures.0.answer
