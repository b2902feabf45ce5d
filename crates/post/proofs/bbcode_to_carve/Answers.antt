use mathlib.Core.Path.{sym, ap, ◌∙◌}
use Prim.Native.Nat.{ℕ, ◌*◌}
use lib.ListN.{length, take}
use Rattle.losses.specs.Records.{records_lent}
use Rattle.text.proofs.Clearing.{fill_cleared}
use Rattle.post.proofs.Calling.{filled-done, with-copied}
use Rattle.post.proofs.bbcode_to_carve.Goals as goal

pub returns-in-Ok : goal.returns-in-Ok
returns-in-Ok c = let a = c.convert-answer in
    let e = c.in-Ok.is in
    let l = rw e at a.ensures.0.left in
    let k = rw e at c.losses_by.ensures in
    with-copied (record {
      answer = sym e ∙ a.ensures.0.answer;
      filled = filled-done c.in-Ok.done a.new.loss_bytes l a.auto.loss_bytes (fill_cleared _ _ _ l.1.0 c.fill-in-Ok.ensures.after);
      listed = c.fill.ensures ∙ ap (λ (n : ℕ). records_lent (length c.args.records.now) (take (5 * n) a.new.numbers)) k ∙ ap (records_lent (length c.args.records.now)) (rw e at a.ensures.1.there);
    })

pub returns-in-Err : goal.returns-in-Err
returns-in-Err c = let a = c.convert-answer in
    let e = c.in-Err.is in
    let k = rw e at c.losses_by.ensures in
    let r = c.refuse.ensures in
    rw r.0 (with-copied (record {
      answer = sym e ∙ a.ensures.0.answer;
      filled = rw (a.auto.out, a.auto.origins, a.auto.loss_bytes) at r.1;
      listed = c.fill.ensures ∙ ap (λ (n : ℕ). records_lent (length c.args.records.now) (take (5 * n) a.new.numbers)) k;
    }))
