use Rattle.list_blocks.proofs.Values.{cells-bytes, begins-six, second-letter}
use Rattle.list_blocks.specs.Tags.{tag_at}
use Rattle.text.proofs.Decide.{asked}
use Rattle.list_blocks.proofs.tag.opener_at.Goals as goal

pub returns-then-begins_at : goal.returns-then-begins_at
unfolding tag_at
returns-then-begins_at c = rw (cells-bytes _ _ c.requires.0) (search asked)

pub valued_at-requires : goal.valued_at-requires
valued_at-requires c = (begins-six _ c.begins_at-else-begins_at.ensures c.if-begins_at-2.true, c.requires.0)

pub returns-then-begins_at-2 : goal.returns-then-begins_at-2
unfolding tag_at
returns-then-begins_at-2 c = rw (cells-bytes _ _ c.requires.0) (search asked)

pub returns-else-begins_at-2 : goal.returns-else-begins_at-2
returns-else-begins_at-2 c = let p = c.requires in
    second-letter _ _ p.0 p.1 c.begins_at.ensures c.if-begins_at.false c.begins_at-else-begins_at.ensures c.if-begins_at-2.false
