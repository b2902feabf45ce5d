use Rattle.std.proofs.Common.{length, ◌-◌, ◌≡◌}
use Rattle.attribution_reading.specs.Reads.{FoundAll}
use Rattle.attribution_reading.proofs.facts.with_parts.Given as goal

-- The reader stands where the part with the index `i` begins, and keeps the attribution.
abbrev pub invariant-loop-reader : goal.invariant-loop-reader
invariant-loop-reader l = (l.reader.attribution.now ≡ l.s) × FoundAll l.s l.i l.reader.next l.fields

abbrev pub decreases-loop-reader : goal.decreases-loop-reader
decreases-loop-reader l = length l.s - l.reader.next
