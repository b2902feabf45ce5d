use native.Mathlib.Omega.{arith}
use lib.ListN.{drop}
use Rattle.text.specs.Cells.{cells}
use Rattle.list_steps.proofs.Steppings.{ready-base, stray-item, counting-item}
use Rattle.list_steps.proofs.Outside.{stays-set}
use Rattle.list_steps.proofs.close.Machine.start_item.Goals as goal

pub returns-then-self-areas : goal.returns-then-self-areas
returns-then-self-areas c = let x = c.args in
    let k = c.keep.ensures in
    (stray-item (drop x.i.0 (cells x.work.now x.numbers.now)) _ _ _ _ _ _ _ _ _ _ _ _ _ _ _ c.if-self-areas.true k.0, omega (arith, k.1), k.2)

pub returns : goal.returns
returns c = let p = c.requires in
    let x = c.args in
    let r = p.0.holds.reaches in
    let b = ready-base _ _ _ _ _ _ _ _ _ p.0 in
    (counting-item (drop x.i.0 (cells x.work.now x.numbers.now)) _ _ _ _ _ _ _ _ _ (omega (arith, r.0, c.if-self-areas.false)) (omega (arith, p.1.1)) p.0.fits p.0.within.0, omega arith, stays-set _ _ _ (omega (arith, b, p.0.fits, p.0.holds.apart, r.0)) r.0)
