use native.Mathlib.Omega.{arith}
use Rattle.attribution_losses.proofs.Losing.{lose-start, lose-turn, lose-end}
use Rattle.attribution_losses.proofs.loss.put_groups.Goals as goal

pub loop-at-init : goal.loop-at-init
loop-at-init c = let a = c.args in lose-start a.s.now a.first a.start a.quote.number a.quote.line a.records.now a.before.losses a.loss_bytes.now a.before.bytes c.requires.1.1

pub put_group-g-requires : goal.put_group-g-requires
put_group-g-requires c = (c.loop-at-test.true, (c.requires.1.0, c.loop-at.invariant.here))

pub close_loss-requires : goal.close_loss-requires
close_loss-requires c = let l = c.loop-at.invariant in let g = c.put_group-g.ensures in let pre = c.requires.0 in (omega (arith, l.count_small, l.here.slow, g.slow, g.index, g.stands.inside, pre), (omega (arith, g.puts.end), omega (arith, g.small, l.here.room, g.stands.inside)))

pub loop-at-preserved : goal.loop-at-preserved
loop-at-preserved c = let a = c.args in lose-turn a.s.now a.first a.start a.quote.number a.quote.line a.records.now a.before.losses a.loss_bytes.now a.before.bytes _ _ _ _ _ _ c.loop-at.invariant _ _ _ _ c.put_group-g.ensures c.close_loss.ensures

pub returns : goal.returns
returns c = let a = c.args in lose-end a.s.now a.first a.start a.quote.number a.quote.line a.records.now a.before.losses a.loss_bytes.now a.before.bytes _ _ _ _ _ _ c.loop-at.invariant c.loop-at-test.false
