use native.Mathlib.Omega.{arith}
use lib.ListN.{drop}
use Rattle.text.specs.Cells.{cells}
use Rattle.list_steps.proofs.Steppings.{stray-closer, counting-closer}
use Rattle.list_steps.proofs.close.Machine.end_list.Goals as goal

pub returns-then-self-areas : goal.returns-then-self-areas
returns-then-self-areas c = let x = c.args in
    let k = c.keep.ensures in
    (stray-closer (drop x.i.0 (cells x.work.now x.numbers.now)) _ _ _ _ _ _ _ _ _ _ _ _ _ _ _ c.if-self-areas.true k.0, k.1, k.2)

pub returns : goal.returns
returns c = let p = c.requires in
    let x = c.args in
    let r = p.0.holds.reaches in
    let k = c.close_list.ensures.0 in
    (counting-closer (drop x.i.0 (cells x.work.now x.numbers.now)) _ _ _ _ _ _ _ _ _ _ _ _ _ _ _ (omega (arith, r.0, c.if-self-areas.false)) k.0, k.1, k.2)
