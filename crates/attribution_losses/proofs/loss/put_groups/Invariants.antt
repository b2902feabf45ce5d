use Prim.Native.Nat.{◌-◌}
use lib.ListN.{length}
use Rattle.attribution_losses.proofs.Losing.{Losing}
use Rattle.attribution_losses.proofs.loss.put_groups.Given as goal

abbrev pub invariant-loop-at : goal.invariant-loop-at
invariant-loop-at l = Losing l.s l.first l.start l.quote.number l.quote.line l.initial.records l.fn.before.losses l.initial.loss_bytes l.fn.before.bytes l.i l.at l.records l.listed.losses l.loss_bytes l.listed.bytes

abbrev pub decreases-loop-at : goal.decreases-loop-at
decreases-loop-at l = length l.s - l.at
