use Prim.Native.Nat.{◌-◌}
use lib.ListN.{length}
use Rattle.quote_tags.specs.Masks.{NoMask}
use Rattle.quote_tags.proofs.Places.{Run}
use Rattle.quote_tags.proofs.mask.has_mask.Given as goal

abbrev pub invariant-loop-next : goal.invariant-loop-next
invariant-loop-next l = Run NoMask l.s 0 l.next.0

abbrev pub decreases-loop-next : goal.decreases-loop-next
decreases-loop-next l = length l.s - l.next.0
