use Rattle.text.specs.Cells.{cell}
use Rattle.text.proofs.Writers.{wrote-none}
use Rattle.list_blocks.proofs.Markers.{wrote-again}
use Rattle.list_blocks.proofs.item.put_blanks.Goals as goal

pub loop-init : goal.loop-init
loop-init c = wrote-none c.args.w.now

pub loop-preserved : goal.loop-preserved
loop-preserved c = wrote-again _ (cell c.args.b 1) c.loop.invariant c.put.ensures
