use lib.ListN.{take}
use Rattle.listing.specs.Listing.{Lists}
use Rattle.listing.proofs.put_plain.Given as goal

abbrev pub invariant-loop-b : goal.invariant-loop-b
invariant-loop-b l = Lists l.initial.to l.to (take l.b-index l.src)
