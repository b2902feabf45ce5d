use mathlib.Core.Path.{◌≡◌}
use Prim.Native.Nat.{ℕ, ◌+◌, ◌<◌}
use lib.ListN.{length, get_or}
use mathlib.Core.Bool.{cond}
use Rattle.text.specs.Blanks.{blank1}
use Rattle.text.proofs.blank.set_flags.Given as goal

abbrev pub invariant-loop-k : goal.invariant-loop-k
invariant-loop-k l = (length l.flags ≡ length l.fn.flags) × ((j : ℕ) → j < l.k → get_or l.flags j 0 ≡ cond (blank1 (get_or l.s (l.i + j) 0)) 1 0)
