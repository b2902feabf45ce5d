use lib.ListN.{take}
use Rattle.listing.specs.Listing.{Lists, loss_lines}
use Rattle.listing.proofs.put_losses.Given as goal

abbrev pub invariant-loop-x : goal.invariant-loop-x
invariant-loop-x l = Lists l.initial.to l.to (loss_lines l.words (take l.x-index l.records))
