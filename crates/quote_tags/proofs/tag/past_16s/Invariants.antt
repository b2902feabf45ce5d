use Prim.Native.Nat.{◌-◌, ◌≤◌}
use lib.ListN.{length, get_or}
use Rattle.quote_tags.specs.Tags.{NoQ}
use Rattle.quote_tags.proofs.Places.{Between}
use Rattle.quote_tags.proofs.tag.past_16s.Given as goal

abbrev pub invariant-loop-i : goal.invariant-loop-i
invariant-loop-i l = ((l.at ≤ l.i) × (l.i ≤ length l.s)) × Between (λ j. NoQ (get_or l.s j 0)) l.at l.i

abbrev pub decreases-loop-i : goal.decreases-loop-i
decreases-loop-i l = length l.s - l.i
