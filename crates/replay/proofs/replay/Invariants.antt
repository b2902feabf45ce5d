use Rattle.std.proofs.Common.{◌+◌, ◌≤◌, length}
use Rattle.replay.proofs.replay.Given as goal

abbrev pub invariant-loop-case : goal.invariant-loop-case
invariant-loop-case g l = record {
  can_next : (goal.iterator-loop-case g).can_next l.case-iterator;
  is_finite : (goal.iterator-loop-case g).is_finite l.case-iterator;
  equal : l.equal ≤ l.cases;
  cases : l.cases + length l.case-iterator.0.now ≤ length l.file;
}
