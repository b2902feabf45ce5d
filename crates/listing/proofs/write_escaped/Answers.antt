use native.Mathlib.Omega.{arith}
use Rattle.listing.specs.Listing.{escaped}
use Rattle.text.proofs.Writers.{wrote-none}
use Rattle.listing.proofs.Laws.{lists-escaped}
use Rattle.listing.proofs.write_escaped.Goals as goal

pub loop-b-init : goal.loop-b-init
unfolding escaped
loop-b-init c = wrote-none _

pub loop-b-preserved : goal.loop-b-preserved
loop-b-preserved c = lists-escaped _ _ (omega arith) c.loop-b.invariant c.put_byte.ensures
