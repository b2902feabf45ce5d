use mathlib.Core.Path.{sym, ap, ◌∙◌}
use Prim.Native.Nat.{ℕ, ◌*◌}
use lib.ListN.{length, take}
use Rattle.losses.specs.Records.{records_lent}
use Rattle.text.proofs.Clearing.{fill_cleared, fill_cleared_all, cleared-all}
use Rattle.quotes.proofs.Conversion.{left-within, left-filled}
use Rattle.quotes.proofs.convert_quotes.Goals as goal

pub returns-in-Ok : goal.returns-in-Ok
returns-in-Ok c = let a = c.convert_listed-answer in
    let e = c.in-Ok.is in
    let l = rw e at a.ensures.0.left in
    let k = rw e at c.losses_by.ensures in
    record {
      answer = sym e ∙ a.ensures.0.answer;
      filled = left-filled c.args.text.now c.in-Ok.done l a.auto.loss_bytes (fill_cleared _ _ _ (left-within c.args.text.now c.in-Ok.done l) c.fill-in-Ok.ensures.after);
      listed = c.fill.ensures ∙ ap (λ (n : ℕ). records_lent (length c.args.records.now) (take (5 * n) a.new.numbers)) k ∙ ap (records_lent (length c.args.records.now)) (rw e at a.ensures.1.there);
    }

pub returns-in-Err : goal.returns-in-Err
returns-in-Err c = let a = c.convert_listed-answer in
    let e = c.in-Err.is in
    let k = rw e at c.losses_by.ensures in
    rw e (record {
      answer = sym e ∙ a.ensures.0.answer;
      filled = record {
        laid = rw (a.auto.out, a.auto.origins) at c.lay_nothing.ensures;
        spelled = rw (← a.auto.loss_bytes) (fill_cleared_all _ _ c.fill-in-Err.ensures.after ∙ cleared-all _);
      };
      listed = c.fill.ensures ∙ ap (λ (n : ℕ). records_lent (length c.args.records.now) (take (5 * n) a.new.numbers)) k;
    })
