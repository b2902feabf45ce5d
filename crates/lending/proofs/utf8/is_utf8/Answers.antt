use Rattle.std.proofs.Common.{◌≡◌, refl, sym, ◌∙◌, arith}
use Rattle.lending.proofs.Characters.{utf8-bad, utf8-turn, utf8-end}
use Rattle.lending.proofs.Lending.{char-fits}
use Rattle.lending.proofs.utf8.is_utf8.Goals as goal

pub loop-i-init : goal.loop-i-init
loop-i-init c = (omega arith, refl)

pub returns-in_default : goal.returns-in_default
returns-in_default c = let l = c.loop-i in sym (l.invariant.1 ∙ utf8-bad _ l.i 0 c.loop-i-test.true (sym c.in_default.ensures) refl)

pub overflow_add-i : goal.overflow_add-i
overflow_add-i c = let w = char-fits _ c.loop-i.i c.in-Some.n c.loop-i-test.true c.in-Some.ensures.0 c.in-Some.ensures.1 in omega arith

pub loop-i-preserved : goal.loop-i-preserved
loop-i-preserved c = let l = c.loop-i in
    let n = c.in-Some.n in
    let e = c.in-Some.ensures in
    let h = c.loop-i-test.true in
    (char-fits _ l.i n h e.0 e.1, l.invariant.1 ∙ utf8-turn _ l.i n h e.0 (λ (z : n ≡ 0). omega (arith, z, e.1)))

pub returns : goal.returns
returns c = let l = c.loop-i in sym (l.invariant.1 ∙ utf8-end _ l.i (omega arith))
