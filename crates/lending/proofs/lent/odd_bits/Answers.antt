use Rattle.lending.proofs.Lanes.{odd-lanes}
use Rattle.lending.proofs.lent.odd_bits.Goals as goal

pub returns : goal.returns
returns c = odd-lanes c.args.block c.fits-block.0
