use Rattle.attribution.proofs.Captioning.{gap-written, gap-none}
use Rattle.text.proofs.Writers.{wrote-as, wrote-none}
use Rattle.attribution.proofs.caption.put_gap.Goals as goal

pub returns-then-left-right : goal.returns-then-left-right
returns-then-left-right c = wrote-as (gap-written _ _ c.if-left-right.true) c.put_space.ensures

pub returns-else-left-right : goal.returns-else-left-right
returns-else-left-right c = wrote-as (gap-none _ _ c.if-left-right.false) (wrote-none _)
