use native.Mathlib.Omega.{arith}
use Rattle.text.proofs.Sources.{part-laid}
use Rattle.text.proofs.write.lay_part.Goals as goal

pub returns : goal.returns
returns c = let a = c.args in
    rw (part-laid a.src.now a.from.now a.a.0 a.e.0 (omega arith) (omega arith) (omega arith)) at c.lay_out.ensures
