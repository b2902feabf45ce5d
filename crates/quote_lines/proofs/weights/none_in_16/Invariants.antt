use mathlib.Core.Path.{◌≡◌}
use Prim.Native.Nat.{◌-◌}
use lib.ListN.{drop}
use lib.Dec.{eqb, ltb}
use Rattle.text.specs.Ascii.{to_first}
use Rattle.quote_lines.proofs.weights.none_in_16.Given as goal

abbrev pub invariant-loop-k : goal.invariant-loop-k
invariant-loop-k l = l.stands ≡ ltb (to_first (λ x. eqb x l.n) (drop l.i l.numbers)) (l.k - l.i)
