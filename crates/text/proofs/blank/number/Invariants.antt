use mathlib.Core.Path.{◌≡◌}
use Prim.Native.Nat.{◌-◌, ◌≤◌}
use lib.ListN.{length}
use Rattle.text.specs.Cells.{cells_of}
use Rattle.text.proofs.Numbering.{numbered}
use Rattle.text.proofs.blank.number.Given as goal

abbrev pub invariant-loop-i : goal.invariant-loop-i
invariant-loop-i l = (l.i ≤ length l.s) × (length l.nums ≡ length l.initial.nums) × (cells_of l.s ≡ numbered l.s l.i 0 l.nums)

abbrev pub decreases-loop-i : goal.decreases-loop-i
decreases-loop-i l = length l.s - l.i
