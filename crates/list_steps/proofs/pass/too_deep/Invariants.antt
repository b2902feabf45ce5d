use mathlib.Core.Path.{◌≡◌}
use Prim.Native.Nat.{◌-◌, ◌≤◌}
use lib.ListN.{length, drop}
use Rattle.list_blocks.specs.Tags.{tokens, deeper}
use Rattle.text.specs.Bounds.{deep_most}
use Rattle.text.specs.Cells.{cells}
use Rattle.list_steps.proofs.pass.too_deep.Given as goal

abbrev pub invariant-loop-i : goal.invariant-loop-i
invariant-loop-i l = (l.n ≡ length l.src) × (l.i ≤ l.n) × (l.depth ≤ deep_most) × (deeper l.fn.open (tokens 0 (cells l.src l.from)) ≡ deeper l.depth (tokens 0 (drop l.i (cells l.src l.from))))

abbrev pub decreases-loop-i : goal.decreases-loop-i
decreases-loop-i l = l.n - l.i
