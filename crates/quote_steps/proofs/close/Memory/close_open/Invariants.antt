use Prim.Native.Nat.{◌≤◌}
use lib.ListN.{length}
use Rattle.quote_steps.specs.Memories.{Same}
use Rattle.quote_steps.proofs.Passing.{ClosingAll}
use Rattle.quote_steps.proofs.close.Memory.close_open.Given as goal

abbrev pub invariant-loop-quote : goal.invariant-loop-quote
invariant-loop-quote l = record {
  same : Same l.initial.self l.self;
  place : (l.m.base.0 ≤ l.to.0) × (l.to.0 ≤ l.m.end.0);
  closing : ClosingAll l.initial.self l.initial.opened l.fn.from l.self l.to.0 l.opened l.need;
}

abbrev pub decreases-loop-quote : goal.decreases-loop-quote
decreases-loop-quote l = length l.opened
