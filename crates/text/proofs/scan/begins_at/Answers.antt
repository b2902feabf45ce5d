use Rattle.std.proofs.Common.{arith, ◌-◌, sym, ◌∙◌, List, ℕ, length, take, drop}
use Rattle.text.proofs.Bytes.{begins-end, begins-short, begins-other, begins-more}
use Rattle.text.proofs.scan.begins_at.Goals as goal
use Rattle.text.proofs.scan.begins_at.Goals.{then-rest-k-via-then-rest-k, then-rest-k-via-else-rest-k+then-small_of-word}

pub returns-then-rest-k : goal.returns-then-rest-k
returns-then-rest-k c = let l = c.loop-k in
    let a = c.args in
    let rest : List ℕ = take (length a.s.now - a.at.0) (drop a.at.0 a.s.now) in
    sym (l.invariant.1 ∙ elim c.then-rest-k.branch [
      | then-rest-k-via-then-rest-k w ↦ begins-short a.word.now rest l.k l.k (omega arith) (omega (arith, w.if-rest-k.true))
      | then-rest-k-via-else-rest-k+then-small_of-word w ↦
          begins-other a.word.now rest l.k l.k (omega arith) (omega (arith, w.if-rest-k.false)) (λ e. w.if-small_of-word.true (w.small_of.ensures ∙ e))
    ])

pub loop-k-preserved : goal.loop-k-preserved
loop-k-preserved c = let l = c.loop-k in
    let a = c.args in
    (omega arith, l.invariant.1 ∙ begins-more a.word.now _ l.k l.k (omega arith) (omega arith) (sym c.small_of.ensures ∙ c.if-small_of-word.false))

pub returns : goal.returns
returns c = let l = c.loop-k in sym (l.invariant.1 ∙ begins-end c.args.word.now _ l.k l.k (omega arith))
