use Rattle.std.proofs.Common.{sym, ◌∙◌}
use Rattle.text.proofs.Clearing.{fill_cleared_all}
use Rattle.attribution.proofs.Formatting.{all-zero, held-nothing, held}
use Rattle.attribution.proofs.format_attribution.Goals as goal
use Rattle.attribution.proofs.format_attribution.Goals.{then-is_err, else-is_err}

pub returns : goal.returns
returns c =
    let f = c.format-answer in
    record {
      answer = f.ensures.answer;
      holds = elim c.if-is_err.branch [
        | then-is_err w ↦ rw (w.out-is, w.origins-is, w.loss_bytes-is)
            (held-nothing _ _ _ _ _ (sym c.is_err.ensures.value ∙ w.if-is_err.true)
            (rw (f.auto.out, f.auto.origins, f.auto.loss_bytes) at (all-zero _ _ _ w.lay_nothing.ensures (fill_cleared_all _ _ w.fill.ensures.after))))
        | else-is_err w ↦ rw (w.out-is, w.origins-is, w.loss_bytes-is) (held _ _ _ _ _ (sym c.is_err.ensures.value ∙ w.if-is_err.false) f.ensures.holds)
      ];
      listed = c.fill-2.ensures ∙ rw (c.losses_by.ensures, f.ensures.noted.there);
    }
