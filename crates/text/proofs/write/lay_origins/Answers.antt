use Rattle.std.proofs.Common.{arith, ◌≡◌}
use Rattle.text.proofs.Clearing.{laid-filled, length-mapped}
use Rattle.text.specs.Cells.{origin_of}
use Rattle.text.proofs.write.lay_origins.Goals as goal

pub returns : goal.returns
returns c = let l = c.loop-i in
    let a = c.args in
    let e : l.i ≡ a.n = omega arith in
    laid-filled _ _ _ a.n _ l.invariant.0 (length-mapped origin_of a.from.now a.n (omega arith)) (omega arith) (rw e at l.invariant.1) c.fill.ensures.after
