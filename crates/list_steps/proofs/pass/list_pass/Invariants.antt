use mathlib.Core.Path.{◌≡◌}
use Prim.Native.Nat.{◌+◌, ◌-◌, ◌≤◌}
use lib.ListN.{length, take}
use Rattle.text.specs.Bounds.{deep_most}
use Rattle.text.specs.Cells.{cells, part}
use Rattle.list_blocks.specs.Tags.{tokens, pushes, deeper, too_deep}
use Rattle.list_steps.specs.Standing.{room_of, RunningIn, StaysIn}
use Rattle.list_steps.proofs.pass.list_pass.Given as goal

abbrev pub invariant-loop-i : goal.invariant-loop-i
invariant-loop-i l = ((length l.work ≡ length l.initial.work) × (length l.numbers ≡ length l.initial.numbers)) × (l.i ≤ l.e.0) × (l.st.at.0 ≤ l.areas.end.0) × (l.seen ≤ room_of l.areas)
    × (l.st.top.0 + pushes (tokens 0 (part l.i l.e.0 (take l.areas.base.0 (cells l.initial.work l.initial.numbers)))) ≤ length l.initial.numbers)
    × RunningIn (part l.initial.i l.e.0 (cells l.initial.work l.initial.numbers)) (take l.areas.base.0 (cells l.initial.work l.initial.numbers)) l.areas l.seen l.work l.numbers l.st (tokens 0 (part l.i l.e.0 (take l.areas.base.0 (cells l.initial.work l.initial.numbers))))
    × (l.depth ≤ deep_most) × (too_deep (part l.initial.i l.e.0 (cells l.initial.work l.initial.numbers)) ≡ deeper l.depth (tokens 0 (part l.i l.e.0 (take l.areas.base.0 (cells l.initial.work l.initial.numbers)))))
    × StaysIn l.areas l.initial.work l.initial.numbers l.work l.numbers

abbrev pub decreases-loop-i : goal.decreases-loop-i
decreases-loop-i l = l.e.0 - l.i
