use mathlib.Core.Path.{◌≡◌}
use Prim.Native.Nat.{◌+◌}
use mathlib.Core.Bool.{false}
use lib.ListN.{get_or}
use Rattle.quote_tags.proofs.Places.{Between}
use Rattle.quote_tags.proofs.mask.taken_among.Given as goal

abbrev pub invariant-loop-k : goal.invariant-loop-k
invariant-loop-k g l = l.taken ≡ false → Between (λ j. goal.P-post g l.takes (get_or l.s j 0) (get_or l.s (j + 1) 0) (get_or l.s (j + 2) 0) false) l.i l.k
