use Rattle.listing.proofs.Laws.{lists-loss}
use Rattle.listing.proofs.put_loss.Goals as goal

pub returns : goal.returns
returns c = lists-loss c.args.x _ _ _ c.min-start.ensures c.min-end.ensures c.put_number.ensures c.put_number-2.ensures c.put_number-3.ensures c.put_line.ensures
