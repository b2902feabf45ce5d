use native.Mathlib.Omega.{arith}
use Rattle.listing.proofs.Laws.{lists-byte}
use Rattle.listing.proofs.put_plain.Goals as goal

pub loop-b-preserved : goal.loop-b-preserved
loop-b-preserved c = lists-byte _ _ (omega arith) c.loop-b.invariant c.put_sign.ensures
