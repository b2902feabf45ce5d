use native.Mathlib.Omega.{arith}
use Rattle.listing.specs.Listing.{loss_lines}
use Rattle.text.proofs.Writers.{wrote-none}
use Rattle.listing.proofs.Laws.{lists-losses}
use Rattle.listing.proofs.put_losses.Goals as goal

pub loop-x-init : goal.loop-x-init
unfolding loss_lines
loop-x-init c = wrote-none _

pub loop-x-preserved : goal.loop-x-preserved
loop-x-preserved c = lists-losses _ _ _ (omega arith) c.loop-x.invariant c.put_loss.ensures
