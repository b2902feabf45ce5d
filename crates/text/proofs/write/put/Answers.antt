use native.Mathlib.Omega.{arith}
use Rattle.text.proofs.Areas.{area-whole}
use Rattle.text.proofs.write.put.Goals as goal

pub returns : goal.returns
returns c = let p = c.put_in-to in area-whole c.args.buf.now c.args.nums.now c.min-end.result (omega (arith, c.min-end.ensures)) (omega (arith, c.min-end.ensures)) c.min-end.ensures p.auto.buf p.auto.nums p.ensures
