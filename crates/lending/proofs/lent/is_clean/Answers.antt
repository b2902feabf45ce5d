use borrow.Author.Rules.{rules}
use native.Mathlib.Omega.{arith}
use mathlib.Core.Path.{◌≡◌, refl, sym, ◌∙◌}
use Rattle.lending.proofs.Lending.{clean_end, clean-odd, clean-one, clean-bad, char-fits, clean-char}
use Rattle.lending.proofs.lent.is_clean.Goals as goal

pub loop-i-init : goal.loop-i-init
loop-i-init c = (search rules, refl)

pub loop-i-preserved-then-e-i : goal.loop-i-preserved-then-e-i
loop-i-preserved-then-e-i c = let p = c.past_clean-i.ensures in
    (p.1, c.loop-i.invariant.1 ∙ p.2)

pub returns-then-is_zero_or_return : goal.returns-then-is_zero_or_return
returns-then-is_zero_or_return c = let l = c.loop-i in
    sym (l.invariant.1 ∙ clean-odd _ l.i (omega arith) (sym c.is_zero_or_return.ensures ∙ c.if-is_zero_or_return.true))

pub loop-i-preserved-then-b-lt128 : goal.loop-i-preserved-then-b-lt128
loop-i-preserved-then-b-lt128 c = let l = c.loop-i in
    (search rules, l.invariant.1 ∙ clean-one _ l.i (omega arith) c.if-b-lt128.true (sym c.is_zero_or_return.ensures ∙ c.if-is_zero_or_return.false))

pub returns-in_default : goal.returns-in_default
returns-in_default c = let l = c.loop-i in
    sym (l.invariant.1 ∙ clean-bad _ l.i 0 c.loop-i-test.true (sym c.in_default.ensures) refl)

pub overflow_add-i-else-b-lt128 : goal.overflow_add-i-else-b-lt128
overflow_add-i-else-b-lt128 c = let l = c.loop-i in
    let n = c.in-Some.n in
    let e = c.in-Some.ensures in
    let w = char-fits _ l.i n c.loop-i-test.true e.0 e.1 in
    omega arith

pub loop-i-smaller : goal.loop-i-smaller
loop-i-smaller c = let l = c.loop-i in
    let n = c.in-Some.n in
    let e = c.in-Some.ensures in
    let w = char-fits _ l.i n c.loop-i-test.true e.0 e.1 in
    omega arith

pub loop-i-preserved : goal.loop-i-preserved
loop-i-preserved c = let l = c.loop-i in
    let n = c.in-Some.n in
    let e = c.in-Some.ensures in
    let w = char-fits _ l.i n c.loop-i-test.true e.0 e.1 in
    (w, l.invariant.1 ∙ clean-char _ l.i n c.if-b-lt128.false e.0 (λ (z : n ≡ 0). omega (arith, z, e.1)))

pub returns : goal.returns
returns c = let l = c.loop-i in
    sym (l.invariant.1 ∙ clean_end _ l.i c.loop-i-test.false)
