use native.Mathlib.Omega.{arith}
use mathlib.Core.Path.{sym, ap, ◌∙◌}
use Prim.Native.Nat.{ℕ, ◌+◌}
use lib.ListN.{get_or, set, length-set}
use lib.Seq.{paste, paste-suc}
use native.Mathlib.Numerals.{add-one}
use Rattle.attribution_losses.proofs.put.put.Goals as goal

pub loop-k-preserved : goal.loop-k-preserved
loop-k-preserved g c = let l = c.loop-k in
    let a = c.args in
    let x = c.index-values-k.result in
    (length-set l.buf (a.at + l.k) _ ∙ l.invariant.0, ap (set l.buf (a.at + l.k)) c.index-values-k.is ∙ ap (λ v. set v (a.at + l.k) (get_or a.values.now l.k x)) l.invariant.1 ∙ paste-suc a.buf.now a.at a.values.now l.k x (omega arith) (omega arith) ∙ ap (λ (j : ℕ). paste a.buf.now a.at a.values.now j) (sym (add-one l.k)))
