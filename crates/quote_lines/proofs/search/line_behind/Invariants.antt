use Prim.Native.Nat.{◌-◌}
use Rattle.quote_lines.proofs.Tabling.{Behind}
use Rattle.quote_lines.proofs.search.line_behind.Given as goal

abbrev pub invariant-loop-i : goal.invariant-loop-i
invariant-loop-i l = Behind l.s l.a l.e l.line l.i l.feeds

abbrev pub decreases-loop-i : goal.decreases-loop-i
decreases-loop-i l = l.e - l.i
