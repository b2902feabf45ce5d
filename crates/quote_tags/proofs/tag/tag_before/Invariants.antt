use Prim.Native.Nat.{◌-◌, ◌≤◌}
use lib.ListN.{drop}
use Rattle.quote_tags.specs.Tags.{NoTag}
use Rattle.quote_tags.proofs.Places.{Between}
use Rattle.quote_tags.proofs.tag.tag_before.Given as goal

abbrev pub invariant-loop-i : goal.invariant-loop-i
invariant-loop-i l = ((l.at ≤ l.i) × (l.i ≤ l.e)) × Between (λ j. NoTag (drop j l.s)) l.at l.i

abbrev pub decreases-loop-i : goal.decreases-loop-i
decreases-loop-i l = l.e - l.i
