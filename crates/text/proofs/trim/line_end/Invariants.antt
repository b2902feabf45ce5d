use mathlib.Core.Path.{◌≡◌}
use Prim.Native.Nat.{◌-◌, ◌≤◌}
use Rattle.text.proofs.Trimming.{onto}
use Rattle.text.specs.Lines.{lines}
use Rattle.text.specs.Cells.{cells, part}
use Rattle.text.proofs.trim.line_end.Given as goal

abbrev pub invariant-loop-i : goal.invariant-loop-i
invariant-loop-i l = (l.initial.i ≤ l.i) × (l.i ≤ l.e.0) × (lines (part l.initial.i l.e.0 (cells l.src l.from)) ≡ onto (part l.initial.i l.i (cells l.src l.from)) (lines (part l.i l.e.0 (cells l.src l.from))))

abbrev pub decreases-loop-i : goal.decreases-loop-i
decreases-loop-i l = l.e.0 - l.i
