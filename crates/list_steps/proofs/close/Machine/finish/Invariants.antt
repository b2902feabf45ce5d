use mathlib.Core.Path.{◌≡◌}
use Prim.Native.Nat.{◌≤◌}
use mathlib.Core.List.{List, []}
use lib.ListN.{length}
use Rattle.text.specs.Cells.{Cell}
use Rattle.list_steps.specs.Standing.{room_of, ReadyIn, RunningIn, StaysIn}
use Rattle.list_steps.proofs.close.Machine.finish.Given as goal

abbrev pub invariant-loop-self : goal.invariant-loop-self
invariant-loop-self l = ((length l.work ≡ length l.initial.work) × (length l.numbers ≡ length l.initial.numbers)) × (l.most ≤ room_of l.areas) × ReadyIn l.work l.numbers l.areas l.self
    × ((x before : List Cell) → length before ≡ l.areas.base.0 → RunningIn x before l.areas l.seen l.initial.work l.initial.numbers l.initial.self [] → RunningIn x before l.areas l.most l.work l.numbers l.self [])
    × StaysIn l.areas l.initial.work l.initial.numbers l.work l.numbers

abbrev pub decreases-loop-self : goal.decreases-loop-self
decreases-loop-self l = l.self.top.0
