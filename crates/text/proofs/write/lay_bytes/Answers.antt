use Rattle.std.proofs.Common.{arith, ◌≡◌, length, take}
use Rattle.std.proofs.lemmas.List.{length-take-le}
use Rattle.text.proofs.Clearing.{laid-filled}
use Rattle.text.proofs.write.lay_bytes.Goals as goal

pub returns : goal.returns
returns c = let l = c.loop-i in
    let a = c.args in
    let e : l.i ≡ a.n = omega arith in
    let k : length (take a.n a.src.now) ≡ a.n = length-take-le a.n a.src.now (omega arith) in
    laid-filled (take a.n a.src.now) _ _ a.n _ l.invariant.0 k (omega arith) (rw e at l.invariant.1) c.fill.ensures.after
