use mathlib.Core.Path.{◌≡◌}
use lib.ListN.{get_or}
use mathlib.Core.Bool.{false}
use Rattle.quote_tags.specs.Tags.{NoQ}
use Rattle.quote_tags.proofs.Places.{Between}
use Rattle.quote_tags.proofs.tag.q_in_16.Given as goal

abbrev pub invariant-loop-k : goal.invariant-loop-k
invariant-loop-k l = l.stands ≡ false → Between (λ j. NoQ (get_or l.s j 0)) l.i l.k
