use Prim.Native.Nat.{◌-◌, ◌≤◌}
use lib.ListN.{length, drop}
use Rattle.quote_tags.specs.Tags.{NoTag}
use Rattle.quote_tags.proofs.Places.{Between}
use Rattle.quote_tags.proofs.tag.next_tag.Given as goal

abbrev pub invariant-loop-i : goal.invariant-loop-i
invariant-loop-i l = ((l.initial.i ≤ l.i) × (l.i ≤ length l.s)) × Between (λ j. NoTag (drop j l.s)) l.initial.i l.i

abbrev pub decreases-loop-i : goal.decreases-loop-i
decreases-loop-i l = length l.s - l.i
