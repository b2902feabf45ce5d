use lib.ListN.{take}
use Rattle.listing.specs.Listing.{Lists, escaped}
use Rattle.listing.proofs.write_escaped.Given as goal

abbrev pub invariant-loop-b : goal.invariant-loop-b
invariant-loop-b l = Lists l.initial.to l.to (escaped (take l.b-index l.src))
