use borrow.Author.Rules.{rules}
use native.Mathlib.Omega.{arith}
use mathlib.Core.Path.{refl}
use Rattle.list_steps.proofs.Steppings.{ready-base}
use Rattle.list_steps.proofs.Runs.{ready-next, finish-turn, finish-over, none_open, ends-done}
use Rattle.list_steps.proofs.Outside.{stays_then}
use Rattle.list_steps.proofs.close.Machine.finish.Goals as goal

pub overflow_sub-self : goal.overflow_sub-self
overflow_sub-self c = let b = ready-base _ _ _ _ _ _ _ _ _ c.loop-self.invariant.2 in omega (arith, b)

pub returns-then-areas-self : goal.returns-then-areas-self
returns-then-areas-self c = let v = c.loop-self.invariant in
    let r = v.2 in
    let q = c.close_list.ensures in
    (λ x before lb w. (refl, finish-over x before _ _ _ _ _ _ _ _ _ _ (v.3 x before lb w) lb r.fits r.within.0 r.within.1.0 (omega (arith, c.loop-self-test.true)) _ _ _ _ _ _ q.0.0 (omega (arith, r.within.0)) (omega (arith, r.within.1.0)) c.if-areas-self.true), stays_then v.4 q.0.2)

pub loop-self-preserved : goal.loop-self-preserved
loop-self-preserved c = let v = c.loop-self.invariant in
    let r = v.2 in
    let q = c.close_list.ensures in
    let g = c.max-most.ensures in (
      (search rules, search rules),
      omega (arith, g, v.1, r.fits),
      ready-next _ _ _ _ _ _ _ _ _ _ _ _ _ _ _ r q.0.0 (omega (arith, c.if-areas-self.false)) (search rules) (search rules),
      λ x before lb w. finish-turn x before _ _ _ _ _ _ _ _ _ _ (v.3 x before lb w) lb r.fits r.within.0 r.within.1.0 (omega (arith, c.loop-self-test.true)) _ _ _ _ _ _ q.0.0 _ g,
      stays_then v.4 q.0.2,
    )

pub overflow_sub-self-2 : goal.overflow_sub-self-2
overflow_sub-self-2 c = let b = ready-base _ _ _ _ _ _ _ _ _ c.loop-self.invariant.2 in omega (arith, b)

pub returns : goal.returns
returns c = let v = c.loop-self.invariant in
    let r = v.2 in
    (λ x before lb w. let y = v.3 x before lb w in ends-done x before _ _ _ _ _ _ _ _ _ _ y (none_open _ _ _ _ _ _ _ _ _ _ y.holds (omega (arith, c.loop-self-test.false))) lb r.fits r.within.0 r.within.1.0 v.1 _ c.max.ensures, v.4)
