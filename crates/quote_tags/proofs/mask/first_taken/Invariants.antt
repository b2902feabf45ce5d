use Prim.Native.Nat.{◌+◌, ◌-◌, ◌≤◌}
use mathlib.Core.Bool.{false}
use lib.ListN.{length, get_or}
use Rattle.quote_tags.proofs.Places.{Between}
use Rattle.quote_tags.proofs.mask.first_taken.Given as goal

abbrev pub invariant-loop-i : goal.invariant-loop-i
invariant-loop-i g l = ((l.fn.at.0 ≤ l.i) × (l.i ≤ length l.s)) × Between (λ j. goal.P-post g l.takes (get_or l.s j 0) (get_or l.s (j + 1) 0) (get_or l.s (j + 2) 0) false) l.fn.at.0 l.i

abbrev pub decreases-loop-i : goal.decreases-loop-i
decreases-loop-i g l = length l.s - l.i

abbrev pub invariant-loop-k : goal.invariant-loop-k
invariant-loop-k g l = Between (λ j. goal.P-post g l.takes (get_or l.s j 0) (get_or l.s (j + 1) 0) (get_or l.s (j + 2) 0) false) l.fn.at.0 l.k
