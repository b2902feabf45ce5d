use mathlib.Core.Path.{◌≡◌}
use lib.ListN.{length}
use Rattle.text.proofs.Numbering.{numbered}
use Rattle.text.proofs.blank.number_part.Given as goal

abbrev pub invariant-loop-j : goal.invariant-loop-j
invariant-loop-j l = (length l.nums ≡ length l.fn.nums) × (numbered l.s l.i 0 l.fn.nums ≡ numbered l.s l.j l.left l.nums)
