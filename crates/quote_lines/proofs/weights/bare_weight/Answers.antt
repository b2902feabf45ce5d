use native.Mathlib.Omega.{arith}
use Rattle.quote_lines.proofs.Bared.{weighing-on, weighing-over, weighing-end}
use Rattle.quote_lines.proofs.weights.bare_weight.Goals as goal

pub loop-b-preserved : goal.loop-b-preserved
loop-b-preserved c =
    let k = c.type_inv.s c.loop-b.b-index in
    let on = weighing-on _ _ _ c.loop-b.invariant (omega arith) (omega (arith, k)) in
    let over = weighing-over _ _ _ c.loop-b.invariant (omega arith) in
    grind (arith, on, over)

pub returns : goal.returns
returns c = weighing-end _ _ _ c.loop-b.invariant (omega arith)
