use mathlib.Core.Path.{◌≡◌}
use Prim.Native.Nat.{◌≤◌}
use lib.ListN.{length, drop}
use Rattle.text.specs.Ascii.{begins}
use Rattle.text.proofs.scan.begins_at.Given as goal

abbrev pub invariant-loop-k : goal.invariant-loop-k
invariant-loop-k l = (l.k ≤ length l.rest) × (begins l.word (drop l.fn.at.0 l.s) ≡ begins (drop l.k l.word) (drop l.k l.rest))
