use mathlib.Core.Path.{◌≡◌}
use Rattle.text.specs.Lines.{trim_end}
use Rattle.text.specs.Cells.{cells, part}
use Rattle.text.proofs.trim.trim_end.Given as goal

abbrev pub invariant-loop-i : goal.invariant-loop-i
invariant-loop-i l = trim_end (part l.a.0 l.fn.e.0 (cells l.src l.from)) ≡ trim_end (part l.a.0 l.i (cells l.src l.from))
