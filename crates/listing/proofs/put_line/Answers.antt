use Rattle.listing.specs.Listing.{line}
use Rattle.std.proofs.lemmas.List.{map-append}
use Rattle.text.proofs.Writers.{wrote-then}
use Rattle.listing.proofs.put_line.Goals as goal

pub returns : goal.returns
unfolding line
returns c = simp map-append (wrote-then (wrote-then c.put_plain.ensures c.write_escaped.ensures) c.put_sign.ensures)
