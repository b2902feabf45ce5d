use Rattle.quote_lines.proofs.Tabling.{Weighing}
use Rattle.quote_lines.proofs.search.put_weights.Given as goal

abbrev pub invariant-loop-i : goal.invariant-loop-i
invariant-loop-i l = Weighing l.s l.initial.numbers l.numbers l.t l.count l.i
