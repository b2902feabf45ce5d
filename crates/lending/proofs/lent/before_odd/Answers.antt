use Rattle.std.proofs.Common.{arith}
use Rattle.lending.proofs.Lanes.{first-odd}
use Rattle.lending.proofs.lent.before_odd.Goals as goal

pub returns : goal.returns
returns c = let f = first-odd c.args.s.now c.args.i c.odd_bits-odd.result c.requires c.odd_bits-odd.ensures in
    (omega arith, omega (arith, f))
