use mathlib.Core.Path.{◌≡◌}
use Rattle.text.specs.Lines.{trim_start}
use Rattle.text.specs.Cells.{cells, part}
use Rattle.text.proofs.trim.trim_start.Given as goal

abbrev pub invariant-loop-i : goal.invariant-loop-i
invariant-loop-i l = trim_start (part l.fn.a.0 l.e.0 (cells l.src l.from)) ≡ trim_start (part l.i l.e.0 (cells l.src l.from))
