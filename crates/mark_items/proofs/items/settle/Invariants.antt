use mathlib.Core.Path.{◌≡◌}
use lib.ListN.{length}
use Rattle.mark_items.proofs.Settling.{Settling}
use Rattle.mark_items.proofs.items.settle.Given as goal

abbrev pub invariant-loop-j : goal.invariant-loop-j
invariant-loop-j l = (length l.nums ≡ length l.initial.nums) × Settling l.initial.nums l.nums l.n l.k l.j l.closes
