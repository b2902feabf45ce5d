use mathlib.Core.Path.{◌≡◌}
use Prim.Native.Nat.{◌+◌}
use lib.ListN.{length}
use Rattle.text.proofs.Numbering.{numbered}
use Rattle.text.proofs.blank.number_run.Given as goal

abbrev pub invariant-loop-k : goal.invariant-loop-k
invariant-loop-k l = (length l.nums ≡ length l.fn.nums) × (numbered l.s l.i 0 l.fn.nums ≡ numbered l.s (l.i + l.k) 0 l.nums) × (l.j ≡ l.i + l.k)
