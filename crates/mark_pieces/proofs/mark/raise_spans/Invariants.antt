use mathlib.Core.Path.{◌≡◌}
use mathlib.Core.List.{map}
use Prim.Native.Nat.{ℕ, ◌+◌, ◌≤◌}
use lib.ListN.{length, take, get_or}
use Rattle.mark_pieces.proofs.mark.raise_spans.Given as goal

abbrev pub invariant-loop-x : goal.invariant-loop-x
invariant-loop-x l = (length l.x-items ≡ length l.initial.x-items) × (take l.x-index l.x-items ≡ map (λ x. x + l.by) (take l.x-index l.initial.x-items)) × ((j : ℕ) → l.x-index ≤ j → get_or l.x-items j 0 ≡ get_or l.initial.x-items j 0)
