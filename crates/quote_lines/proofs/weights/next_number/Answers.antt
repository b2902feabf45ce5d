use native.Mathlib.Omega.{arith}
use mathlib.Core.Path.{◌≡◌, sym, ◌∙◌}
use borrow.Author.Tests.{eq-eqb, ne_eqb}
use Rattle.text.proofs.Bytes.{look, look-here, look-on, look-past, look-end}
use Rattle.quote_lines.proofs.Finding.{first-missing}
use Rattle.quote_lines.proofs.weights.next_number.Goals as goal

pub returns-in_default : goal.returns-in_default
returns-in_default c = first-missing c.args.numbers.now c.args.at c.requires (λ k. let m = c.type_inv.numbers k in let n = c.in_default.ensures in omega (arith, m, n))

pub returns-then-numbers-at : goal.returns-then-numbers-at
returns-then-numbers-at c = let e : c.in-Ok.wanted ≡ c.args.n = omega (arith, c.in-Ok.ensures) in look-here _ _ _ _ (look _ _ _ c.requires) (omega arith) (eq-eqb _ _ (c.if-numbers-at.true ∙ e))

pub loop-i-preserved : goal.loop-i-preserved
loop-i-preserved c = let e : c.in-Ok.wanted ≡ c.args.n = omega (arith, c.in-Ok.ensures) in look-past _ _ _ _ 16 c.loop-i.invariant (omega arith) (rw e at (c.none_in_16.ensures c.if-none_in_16.true))

pub returns-then-numbers-k : goal.returns-then-numbers-k
returns-then-numbers-k c = let e : c.in-Ok.wanted ≡ c.args.n = omega (arith, c.in-Ok.ensures) in let l = c.loop-k in look-here _ _ _ l.k l.invariant c.loop-k-test.true (eq-eqb _ _ (c.if-numbers-k.true ∙ e))

pub loop-k-preserved : goal.loop-k-preserved
loop-k-preserved c = let e : c.in-Ok.wanted ≡ c.args.n = omega (arith, c.in-Ok.ensures) in let l = c.loop-k in look-on _ _ _ l.k l.invariant c.loop-k-test.true (ne_eqb _ _ (λ q. c.if-numbers-k.false (q ∙ sym e)))

pub returns : goal.returns
returns c = let l = c.loop-k in let z = look-end _ _ _ _ l.invariant (omega arith) in omega (arith, z)
