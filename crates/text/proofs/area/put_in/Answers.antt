use native.Mathlib.Omega.{arith}
use Rattle.text.proofs.Areas.{appends_in-set}
use Rattle.text.proofs.area.put_in.Goals as goal

pub returns-then-at-end : goal.returns-then-at-end
returns-then-at-end c = let a = c.args in
    appends_in-set a.buf.now a.nums.now a.end (omega arith) (omega arith) a.at.0 a.b a.x (omega arith)
