use lib.ListN.{replicate}
use Rattle.text.specs.Cells.{cell}
use Rattle.text.specs.Writers.{Wrote}
use Rattle.list_blocks.proofs.item.put_blanks.Given as goal

abbrev pub invariant-loop : goal.invariant-loop
invariant-loop l = Wrote l.initial.w l.w (replicate l.counter (cell l.b 1))
