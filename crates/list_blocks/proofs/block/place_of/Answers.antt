use Rattle.list_blocks.proofs.BlockLaws.{head-here, head-none}
use Rattle.list_blocks.proofs.block.place_of.Goals as goal

pub returns-then-k-last : goal.returns-then-k-last
returns-then-k-last c = head-here _ _ _ _ c.if-k-last.true c.requires

pub returns-else-k-last : goal.returns-else-k-last
returns-else-k-last c = head-none _ _ _ _ c.if-k-last.false
