use Rattle.std.proofs.Common.{rules}
use Rattle.attribution_reading.proofs.Ids.{lead-is}
use Rattle.attribution_reading.proofs.facts.is_leading.Goals as goal

pub returns-then-p : goal.returns-then-p
returns-then-p c = let a = c.args in rw (lead-is a.s.now a.p) (search rules)

pub returns-else-p : goal.returns-else-p
returns-else-p c = let a = c.args in rw (lead-is a.s.now a.p) (search rules)
