use Rattle.listing.specs.Listing.{counts, listing}
use Rattle.std.proofs.lemmas.List.{map-append}
use Rattle.text.proofs.Writers.{wrote-then}
use Rattle.listing.proofs.write_listing.Goals as goal

pub returns : goal.returns
unfolding listing counts
returns c = rw (← c.count_copied.ensures.0) (simp map-append (wrote-then (wrote-then (wrote-then (wrote-then c.put_number.ensures c.put_sizes.ensures) c.put_number-2.ensures) c.put_losses.ensures) c.put_line.ensures))
