use Rattle.list_blocks.proofs.Values.{Passes}
use Rattle.text.specs.Cells.{cells}
use Rattle.list_blocks.proofs.tag.skip_blank.Given as goal

abbrev pub invariant-loop-r : goal.invariant-loop-r
invariant-loop-r l = Passes (cells l.src l.from) l.i l.r
