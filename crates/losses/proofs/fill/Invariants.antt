use Rattle.std.proofs.Common.{◌≡◌, ◌*◌, ◌++◌, take, drop}
use Rattle.losses.specs.Records.{records_of}
use Rattle.losses.proofs.fill.Given as goal

abbrev pub invariant-loop-i : goal.invariant-loop-i
invariant-loop-i l = l.records ≡ records_of (take (5 * l.i) l.numbers) ++ drop l.i l.initial.records
