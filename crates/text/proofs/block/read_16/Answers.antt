use native.Mathlib.Omega.{arith}
use mathlib.Core.Path.{◌≡◌, sym, ap, ◌∙◌}
use mathlib.Core.List.{◌∷◌, [], ◌++◌}
use Prim.Native.Nat.{ℕ}
use lib.ListN.{length, take, drop, length-drop, length-set}
use lib.Seq.{take_all, get_or-drop}
use Rattle.std.proofs.lemmas.List.{take_more, take_more_set}
use Rattle.text.proofs.block.read_16.Goals as goal

pub loop-k-preserved : goal.loop-k-preserved
loop-k-preserved g c = let l = c.loop-k in
    let x = c.index-s-from-in-loop-k in
    let s = drop c.args.from c.args.s.now in
    let n = length-drop c.args.from c.args.s.now in (
      length-set l.block l.k _ ∙ l.invariant.0,
      take_more_set l.block l.k x.result (omega (arith, l.invariant.0, c.loop-k-test.true)) ∙ ap (λ v. v ++ (x.result ∷ [])) l.invariant.1
          ∙ ap (λ y. take l.k s ++ (y ∷ [])) (x.is ∙ sym (get_or-drop c.args.from c.args.s.now l.k x.result))
          ∙ sym (take_more s l.k x.result (omega (arith, n, c.requires, c.loop-k-test.true))),
    )

pub returns : goal.returns
returns g c = let l = c.loop-k in
    let e : l.k ≡ 16 = omega (arith, l.auto.k-end, c.loop-k-test.false) in
    sym (take_all 16 l.block (omega (arith, l.invariant.0))) ∙ ap (λ (j : ℕ). take j l.block) (sym e) ∙ l.invariant.1 ∙ ap (λ (j : ℕ). take j (drop c.args.from c.args.s.now)) e
