use Rattle.list_blocks.proofs.Markers.{width-plain, width-ordered}
use Rattle.list_blocks.proofs.item.Kind.marker_width.Goals as goal

pub returns-then-self : goal.returns-then-self
returns-then-self c = width-ordered _ _ _ _ c.if-self.true c.digits.ensures.0

pub returns-else-self : goal.returns-else-self
returns-else-self c = width-plain _ _ _ c.if-self.false
