use Prim.Native.Nat.{◌-◌, ◌≤◌}
use lib.ListN.{take}
use Rattle.quote_tags.specs.Tags.{NextBracket}
use Rattle.quote_steps.specs.Memories.{Same}
use Rattle.quote_steps.proofs.Passing.{RunningIn}
use Rattle.quote_steps.proofs.close.Memory.take_tokens.Given as goal

abbrev pub invariant-loop-taken : goal.invariant-loop-taken
invariant-loop-taken l = record {
  same : Same l.initial.self l.self;
  at : l.taken.at.0 ≤ l.m.text.0;
  place : (l.m.base.0 ≤ l.taken.to.0) × (l.taken.to.0 ≤ l.m.end.0);
  bracket : NextBracket (take l.m.text.0 l.self.work.now) l.taken.at.0 l.taken.bracket.0;
  runs : RunningIn l.initial.self l.self l.opened l.taken l.seen;
}

abbrev pub decreases-loop-taken : goal.decreases-loop-taken
decreases-loop-taken l = l.m.text.0 - l.taken.at.0
