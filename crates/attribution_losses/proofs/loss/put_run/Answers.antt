use native.Mathlib.Omega.{arith}
use Rattle.attribution_losses.proofs.Losing.{run-done, run-turn, run_ends, run-ends-field, run-ends-quoted, as-quoted}
use Rattle.attribution_losses.proofs.loss.put_run.Goals as goal
use Rattle.attribution_losses.proofs.loss.put_run.Goals.{then-p-ne0-via-then-p-ne0, then-p-ne0-via-else-p-ne0+then-p}

pub returns-then-p-ne0 : goal.returns-then-p-ne0
returns-then-p-ne0 c =
    let s = c.args.s.now in
    let l = c.loop-run.invariant in
    run-done _ l (elim c.then-p-ne0.branch [
      | then-p-ne0-via-then-p-ne0 w ↦ run-ends-field s _ _ _ l.1.here.stands c.read_part-p.ensures w.if-p-ne0.true
      | then-p-ne0-via-else-p-ne0+then-p w ↦ run-ends-quoted s _ _ _ l.1.here.stands c.read_part-p.ensures (as-quoted s _ w.if-p-ne0.false w.if-p.true)
    ])

pub put-requires : goal.put-requires
put-requires c = let l = c.loop-run.invariant.1 in let h = c.read_part-p.ensures in omega (arith, c.put-e.ensures.end, c.of.ensures.size, l.here.room, h.starts, h.ends, h.grows, h.inside)

pub loop-run-preserved : goal.loop-run-preserved
loop-run-preserved c =
    let a = c.args in
    let l = c.loop-run.invariant in
    (l.0, run-turn a.s.now a.first a.start a.buf.now a.before _ _ _ _ l.1 _ c.read_part-p.ensures c.if-p-ne0.false c.if-p.false _ _ _ _ c.put-e.ensures (rw c.of.ensures.words at c.put.ensures))

pub returns : goal.returns
returns c = run-done _ c.loop-run.invariant (run_ends c.args.s.now _ _ c.loop-run-test.false)
