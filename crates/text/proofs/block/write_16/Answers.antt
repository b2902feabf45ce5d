use native.Mathlib.Omega.{arith}
use mathlib.Core.Path.{sym, ap, ◌∙◌}
use Prim.Native.Nat.{ℕ, ◌+◌}
use lib.ListN.{get_or, set, length-set}
use lib.Seq.{paste, paste-suc}
use native.Mathlib.Numerals.{add-one}
use Rattle.text.proofs.block.write_16.Goals as goal

pub loop-k-preserved : goal.loop-k-preserved
loop-k-preserved g c = let l = c.loop-k in
    let a = c.args in
    let x = c.index-block-k.result in
    (length-set l.s (a.at + l.k) _ ∙ l.invariant.0, ap (λ v. set v (a.at + l.k) (get_or a.block l.k x)) l.invariant.1 ∙ paste-suc a.s.now a.at a.block l.k x (omega (arith, c.requires.0)) (omega (arith, c.requires.1)) ∙ ap (λ (j : ℕ). paste a.s.now a.at a.block j) (sym (add-one l.k)))
