use mathlib.Core.Path.{refl, sym, ◌∙◌}
use Rattle.std.proofs.lemmas.Result.{err_from_is_err_and}
use Rattle.lending.proofs.Sizes.{enough}
use Rattle.quotes.specs.Calls.{answered}
use Rattle.quotes.proofs.Conversion.{refused-noted}
use Rattle.quotes.proofs.convert_listed.Goals as goal

pub returns-in_err-check : goal.returns-in_err-check
unfolding answered
returns-in_err-check c = let e = err_from_is_err_and c.from_residual.result c.from_residual.ensures.1 in
    rw (e.1, e.2) (record { answer = rw (sym c.check.ensures ∙ c.in_err-check.was) refl; left = tt }, refused-noted _ _ _ _)

pub convert-requires : goal.convert-requires
convert-requires c = let h = enough _ _ (sym c.check.ensures ∙ c.in_ok-check.was) in
    (((h.text, h.out), (h.work, h.numbers)), h.origins)

pub returns : goal.returns
unfolding answered
returns c = let r = c.convert.ensures in
    (record { answer = r.0.answer ∙ rw (sym c.check.ensures ∙ c.in_ok-check.was) refl; left = r.0.left }, r.1)
