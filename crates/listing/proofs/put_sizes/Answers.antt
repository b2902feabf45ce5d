use Rattle.listing.specs.Listing.{sizes}
use Rattle.std.proofs.lemmas.List.{map-append}
use Rattle.text.proofs.Writers.{wrote-then}
use Rattle.listing.proofs.put_sizes.Goals as goal

pub returns : goal.returns
unfolding sizes
returns c = simp map-append (wrote-then (wrote-then c.put_number.ensures c.put_number-2.ensures) c.put_number-3.ensures)
