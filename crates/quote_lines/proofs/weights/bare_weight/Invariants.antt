use Rattle.quote_lines.proofs.Bared.{Weighing}
use Rattle.quote_lines.proofs.weights.bare_weight.Given as goal

abbrev pub invariant-loop-b : goal.invariant-loop-b
invariant-loop-b l = Weighing l.s l.n l.b-index
