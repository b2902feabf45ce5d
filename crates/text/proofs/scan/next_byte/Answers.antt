use Rattle.std.proofs.Common.{arith, ◌+◌, ℕ, List, sym, ap, drop, length-drop, ◌∙◌}
use lib.Count.{count_trailing_zeros}
use lib.Dec.{eqb}
use Rattle.text.proofs.Digits.{binary-first, binary-past}
use Rattle.text.proofs.Bytes.{look-past}
use Rattle.text.proofs.scan.next_byte.Goals as goal

pub returns-then-found-ne0 : goal.returns-then-found-ne0
returns-then-found-ne0 c = let l = c.loop-i in
    let s : List ℕ = c.args.s.now in
    let e = c.equal_in_16-found.ensures in
    let d = length-drop l.i s in
    let f = binary-first (λ x. eqb x c.args.b) 16 (drop l.i s) (omega arith) (omega (arith, d)) (λ z. c.if-found-ne0.true (e ∙ z)) in
    ap (λ (x : ℕ). l.i + count_trailing_zeros 64 x) e ∙ ap (λ (x : ℕ). l.i + x) f.1 ∙ l.invariant.ends

pub loop-i-preserved : goal.loop-i-preserved
loop-i-preserved c = let l = c.loop-i in
    let s : List ℕ = c.args.s.now in
    let d = length-drop l.i s in
    look-past _ _ _ l.i 16 l.invariant (omega arith) (binary-past (λ x. eqb x c.args.b) 16 (drop l.i s) (omega (arith, d)) (sym c.equal_in_16-found.ensures ∙ c.if-found-ne0.false))
