use mathlib.Core.Path.{◌≡◌}
use lib.ListN.{length}
use Rattle.mark_items.proofs.Merging.{Merging}
use Rattle.mark_items.proofs.items.merge.Given as goal

abbrev pub invariant-loop-j : goal.invariant-loop-j
invariant-loop-j l = (length l.nums ≡ length l.initial.nums) × Merging l.initial.nums l.nums l.n l.k l.j l.state.mask l.state.depth
