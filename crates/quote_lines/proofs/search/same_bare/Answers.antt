use native.Mathlib.Omega.{arith}
use Rattle.quote_lines.proofs.Bared.{comparing, comparing-short, comparing-all, comparing-other, comparing-on}
use Rattle.quote_lines.proofs.search.same_bare.Goals as goal
use Rattle.quote_lines.proofs.search.same_bare.Goals.{then-a-j-via-then-a-j, then-a-j-via-else-a-j+then-s-i}

pub loop-i-init : goal.loop-i-init
loop-i-init c = comparing _ _ c.past_backslashes-i.ensures c.past_backslashes-j.ensures

pub returns-then-a-j : goal.returns-then-a-j
returns-then-a-j c = let l = c.loop-i in
    elim c.then-a-j.branch [
      | then-a-j-via-then-a-j w ↦ comparing-short _ _ _ _ l.invariant (omega arith) w.if-a-j.true
      | then-a-j-via-else-a-j+then-s-i w ↦ comparing-other _ _ _ _ l.invariant (omega arith) (omega (arith, w.if-a-j.false)) w.if-s-i.true
    ]

pub loop-i-preserved : goal.loop-i-preserved
loop-i-preserved c = let l = c.loop-i in comparing-on _ _ _ _ l.invariant (omega arith) (omega arith) c.if-s-i.false c.past_backslashes-i-in-loop-i.ensures c.past_backslashes-j-in-loop-i.ensures

pub returns : goal.returns
returns c = let l = c.loop-i in comparing-all _ _ _ _ l.invariant (omega arith)
