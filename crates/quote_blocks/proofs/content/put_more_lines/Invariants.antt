use Prim.Native.Nat.{◌-◌}
use Rattle.text.specs.Cells.{cells, part}
use Rattle.text.proofs.Writers.{Writing}
use Rattle.quote_blocks.proofs.Blocks.{more_lines}
use Rattle.quote_blocks.proofs.content.put_more_lines.Given as goal

abbrev pub invariant-loop-i : goal.invariant-loop-i
invariant-loop-i l = Writing l.initial.w l.w (more_lines (part l.i l.e.0 (cells l.initial.w.bytes.now l.initial.w.numbers.now))) (more_lines (part l.initial.i l.e.0 (cells l.initial.w.bytes.now l.initial.w.numbers.now)))

abbrev pub decreases-loop-i : goal.decreases-loop-i
decreases-loop-i l = l.e.0 - l.i
