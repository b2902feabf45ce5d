use mathlib.Core.Path.{◌≡◌}
use lib.ListN.{length, take, drop}
use Rattle.text.proofs.block.read_16.Given as goal

abbrev pub invariant-loop-k : goal.invariant-loop-k
invariant-loop-k g l = (length l.block ≡ 16) × (take l.k l.block ≡ take l.k (drop l.from l.s))
