use Prim.Native.Nat.{◌-◌}
use Rattle.attribution_losses.proofs.Joining.{Joining}
use Rattle.attribution_losses.proofs.join.join_texts.Given as goal

abbrev pub invariant-loop-pos : goal.invariant-loop-pos
invariant-loop-pos l = Joining l.initial.work l.a (l.e - l.a) l.at l.work l.pos l.to

abbrev pub decreases-loop-pos : goal.decreases-loop-pos
decreases-loop-pos l = l.e - l.a - l.pos
