use Rattle.post_listing.proofs.Laws.{done-listed}
use Rattle.post_listing.proofs.put_answer.Goals as goal

pub returns-in-Ok : goal.returns-in-Ok
returns-in-Ok c = rw c.in-Ok.is (done-listed c.in-Ok.done _ _ _ c.args.out.now c.args.origins.now c.args.records.now c.args.loss_bytes.now c.requires.same_length c.min-size.ensures c.min-losses.ensures c.min-bytes.ensures c.write_listing.ensures)
