use borrow.Author.Rules.{rules}
use native.Mathlib.Omega.{arith}
use mathlib.Core.Path.{refl, ◌∙◌}
use Rattle.lending.proofs.Lending.{clean-past}
use Rattle.lending.proofs.lent.past_clean.Goals as goal

pub loop-i-init : goal.loop-i-init
loop-i-init c = (search rules, search rules, refl)

pub returns-then-n-lt16 : goal.returns-then-n-lt16
returns-then-n-lt16 c = let l = c.loop-i in
    let t = c.loop-i-test.true in
    let f = c.before_odd-n.ensures in
    (omega (arith, l.invariant.0), omega (arith, t, f.0), l.invariant.2 ∙ clean-past _ _ l.i (omega (arith, t, f.0)) f.1)

pub loop-i-preserved : goal.loop-i-preserved
loop-i-preserved c = let l = c.loop-i in
    let f = c.before_odd-n.ensures in
    (search rules, search rules, l.invariant.2 ∙ clean-past _ 16 l.i (omega arith) (omega (arith, f.1, c.if-n-lt16.false)))

pub returns : goal.returns
returns c = c.loop-i.invariant
