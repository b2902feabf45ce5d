use borrow.Author.Rules.{rules}
use native.Mathlib.Omega.{arith}
use Rattle.list_steps.proofs.Steppings.{ready-base, keeps-step}
use Rattle.text.proofs.Writing.{cells-le}
use Rattle.list_steps.proofs.Outside.{stays-appends}
use Rattle.list_steps.proofs.close.Machine.keep.Goals as goal

pub copy_within-self-requires : goal.copy_within-self-requires
copy_within-self-requires c = let p = c.requires in
    let b = ready-base _ _ _ _ _ _ _ _ _ p.0 in
    let f = p.0.fits in
    ((omega arith, omega (arith, b, p.1)), (omega (arith, b, p.1, f), (p.0.within.0, p.0.within.1.0)))

pub returns : goal.returns
returns c = let p = c.requires in
    let b = ready-base _ _ _ _ _ _ _ _ _ p.0 in
    let f = p.0.fits in
    let a = c.copy_within-self.ensures in
    (keeps-step _ _ _ _ _ _ _ _ _ _ _ _ _ _ (cells-le _ _ _ (omega (arith, b, p.1, f, p.0.within.0)) (omega (arith, b, p.1, f, p.0.within.1.0))) (search rules) a, omega arith, stays-appends b (omega arith) a)
