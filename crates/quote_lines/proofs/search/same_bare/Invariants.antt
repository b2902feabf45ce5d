use Prim.Native.Nat.{◌-◌}
use lib.ListN.{length}
use Rattle.quote_lines.proofs.Bared.{Comparing}
use Rattle.quote_lines.proofs.search.same_bare.Given as goal

abbrev pub invariant-loop-i : goal.invariant-loop-i
invariant-loop-i l = Comparing l.s l.a l.i l.j

abbrev pub decreases-loop-i : goal.decreases-loop-i
decreases-loop-i l = length l.s - l.i
