use Rattle.std.proofs.Common.{arith, ◌≡◌, ◌+◌, ◌*◌, ℕ, List, refl, ap, ◌∙◌}
use lib.ListN.{set, length-set}
use Rattle.text.proofs.Numbering.{numbered, plain_turn}
use Rattle.text.proofs.Characters.{lead}
use Rattle.text.proofs.Bytes.{first-plain-at}
use Rattle.text.proofs.blank.number_run.Goals as goal

pub loop-k-preserved : goal.loop-k-preserved
loop-k-preserved c = let l = c.loop-k in
    let e = c.from.ensures ∙ c.set_flags.ensures l.k c.loop-k-test.true in
    let a = c.args in
    let next : List ℕ = set l.nums (a.i + l.k) (2 * (a.i + l.k + 1) + c.from.result) in
    let q : a.i + l.k + 1 ≡ a.i + (l.k + 1) = omega arith in
    let v : c.post_code.result ≡ 2 * (a.i + l.k + 1) + c.from.result = omega (arith, c.post_code.ensures, l.invariant.2) in
    (simp length-set (omega arith), rw v (l.invariant.1 ∙ plain_turn _ _ (a.i + l.k) (2 * (a.i + l.k + 1)) _ (omega arith) (omega arith) (first-plain-at lead a.s.now a.i (a.i + l.k) (omega arith) (omega arith) (omega arith)) refl e ∙ ap (λ (j : ℕ). numbered a.s.now j 0 next) q), omega (arith, l.invariant.2))
