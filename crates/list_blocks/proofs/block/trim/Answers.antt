use Rattle.list_blocks.proofs.BlockLaws.{trim-part}
use Rattle.list_blocks.proofs.block.trim.Goals as goal

pub returns : goal.returns
returns c = let x = c.trim_start-start.ensures in
    let y = c.trim_end.ensures in
    record { order = (x.0, (y.0, y.1.0)); text = trim-part _ _ _ _ _ x.1.1 y.1.1 }
