use Prim.Native.Nat.{◌-◌}
use lib.ListN.{length}
use lib.Dec.{eqb}
use Rattle.text.proofs.Bytes.{Looks}
use Rattle.quote_lines.proofs.weights.next_number.Given as goal

abbrev pub invariant-loop-i : goal.invariant-loop-i
invariant-loop-i l = Looks (λ x. eqb x l.fn.n) l.numbers l.fn.at l.i

abbrev pub decreases-loop-i : goal.decreases-loop-i
decreases-loop-i l = length l.numbers - l.i

abbrev pub invariant-loop-k : goal.invariant-loop-k
invariant-loop-k l = Looks (λ x. eqb x l.fn.n) l.numbers l.fn.at l.k
