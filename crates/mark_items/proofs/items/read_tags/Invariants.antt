use mathlib.Core.Path.{◌≡◌}
use Prim.Native.Nat.{◌-◌}
use lib.ListN.{length}
use Rattle.mark_items.proofs.Tabling.{Reading}
use Rattle.mark_items.proofs.items.read_tags.Given as goal

abbrev pub invariant-loop-i : goal.invariant-loop-i
invariant-loop-i l = (length l.nums ≡ length l.initial.nums) × Reading l.text l.initial.nums l.nums l.i l.j l.depth

abbrev pub decreases-loop-i : goal.decreases-loop-i
decreases-loop-i l = length l.text - l.i
