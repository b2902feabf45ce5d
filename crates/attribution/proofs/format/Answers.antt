use native.Mathlib.Omega.{arith}
use mathlib.Core.Path.{sym, ◌∙◌}
use Rattle.std.proofs.lemmas.Result.{err_from_is_err_and}
use Rattle.text.proofs.Clearing.{fill_cleared}
use Rattle.lending.proofs.Sizes.{enough}
use Rattle.attribution_losses.proofs.Losing.{listed-counts}
use Rattle.attribution.proofs.Formatting.{turned-back, too_many, bytes-short, caption-from, no-space, done, counted, all_listed}
use Rattle.attribution.proofs.format.Goals as goal

pub returns-in_err-check : goal.returns-in_err-check
returns-in_err-check c = let p = err_from_is_err_and c.from_residual.result c.from_residual.ensures.1 in
    rw (p.1, p.2) (turned-back _ _ _ _ _ _ _ _ (sym c.check.ensures ∙ c.in_err-check.was))

pub count_losses-counts-requires : goal.count_losses-counts-requires
count_losses-counts-requires c = let h = enough _ _ (sym c.check.ensures ∙ c.in_ok-check.was) in omega (arith, h.text)

pub returns-then-lent-counts : goal.returns-then-lent-counts
returns-then-lent-counts c = let n = c.count_losses-counts.ensures in
    too_many _ _ _ _ _ _ _ (sym c.check.ensures ∙ c.in_ok-check.was) _ _ n.0 n.1 c.if-lent-counts.true

pub returns-then-loss_bytes-counts : goal.returns-then-loss_bytes-counts
returns-then-loss_bytes-counts c = let n = c.count_losses-counts.ensures in
    bytes-short _ _ _ _ _ _ _ (sym c.check.ensures ∙ c.in_ok-check.was) _ _ n.0 n.1 c.if-lent-counts.false c.if-loss_bytes-counts.true

pub set_caption-to-requires : goal.set_caption-to-requires
set_caption-to-requires c = let h = enough _ _ (sym c.check.ensures ∙ c.in_ok-check.was) in ((h.text, h.out), (omega arith, omega arith))

pub returns-then-m-size : goal.returns-then-m-size
returns-then-m-size c = let n = c.count_losses-counts.ensures in
    no-space _ _ _ _ _ _ _ (sym c.check.ensures ∙ c.in_ok-check.was) _ _ n.0 n.1 c.if-lent-counts.false c.if-loss_bytes-counts.false c.set_caption-to.ensures c.if-m-size.true

pub lay_part-requires : goal.lay_part-requires
lay_part-requires c = let h = enough _ _ (sym c.check.ensures ∙ c.in_ok-check.was) in
    let q = c.set_caption-to in
    let f = caption-from c.args.text.now _ q.ensures in
    let z = c.if-m-size.false in
    ((f, (omega (arith, f, z, q.auto.work), omega (arith, f, z, q.auto.numbers))), (omega (arith, f, z), omega (arith, f, z)))

pub put_losses-listed-requires : goal.put_losses-listed-requires
put_losses-listed-requires c = let h = enough _ _ (sym c.check.ensures ∙ c.in_ok-check.was) in (omega (arith, h.text), omega (arith, h.text))

pub returns : goal.returns
returns c = let h = enough _ _ (sym c.check.ensures ∙ c.in_ok-check.was) in
    let s = c.args.text.now in
    let n = c.count_losses-counts.ensures in
    let t = c.set_caption-to in
    let q = c.put_losses-listed.ensures in
    let e = listed-counts _ q.0 in
    let small = c.if-loss_bytes-counts.false in
    done _ _ _ _ _ _ _ (sym c.check.ensures ∙ c.in_ok-check.was) _ _ n.0 n.1 c.if-lent-counts.false small t.ensures _ c.if-m-size.false (omega (arith, h.origins))
    (counted s _ q.0) c.lay_part.ensures
    (all_listed s 0 q.0 (omega (arith, n.1, small)) q.1.0 (fill_cleared _ _ _ (omega (arith, e.1, n.1, small, q.0.words.size)) c.fill.ensures.after)) (omega (arith, h.numbers, t.auto.numbers))
