use Prim.Native.Nat.{◌-◌}
use Rattle.mark_writing.proofs.Looking.{Here}
use Rattle.mark_writing.proofs.look.Items.next_of.Given as goal

abbrev pub invariant-loop-i : goal.invariant-loop-i
invariant-loop-i l = Here l.self.text.now l.self.nums.now l.self.k l.from l.depth l.i

abbrev pub decreases-loop-i : goal.decreases-loop-i
decreases-loop-i l = l.self.k - l.i
