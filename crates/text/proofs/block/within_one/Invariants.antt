use Prim.Native.Nat.{◌-◌}
use Rattle.text.proofs.Blocks.{Copying}
use Rattle.text.proofs.block.within_one.Given as goal

abbrev pub invariant-loop-from : goal.invariant-loop-from
invariant-loop-from g l = Copying l.fn.s l.fn.s l.a l.e l.at l.s l.from l.to

abbrev pub decreases-loop-from : goal.decreases-loop-from
decreases-loop-from g l = l.e - l.from
