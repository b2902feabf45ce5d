use native.Mathlib.Nat.{add-sub_cancel_left}
use Rattle.attribution_reading.specs.Places.{bytes}
use Rattle.attribution_reading.proofs.scan.Extent.of.Goals as goal

pub returns-clause-words : goal.returns-clause-words
unfolding bytes
returns-clause-words c = rw (add-sub_cancel_left c.args.self.from c.args.self.size)
