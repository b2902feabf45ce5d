use native.Mathlib.Omega.{arith}
use mathlib.Core.Path.{sym, ◌∙◌}
use Prim.Native.Nat.{◌*◌}
use lib.ListN.{length}
use lib.Seq.{length-take-le}
use Rattle.std.proofs.lemmas.Result.{err_from_is_err_and}
use Rattle.text.specs.Cells.{cells_of}
use Rattle.text.proofs.Copying.{bytes-cells_of}
use Rattle.quote_losses.proofs.Recording.{back_long}
use Rattle.quotes.proofs.Conversion.{spelled-there, records-there, listed-counts, own-fine, own-refused, spaced-full, spaced-done, refused-noted, done-noted}
use Rattle.quotes.proofs.convert.Goals as goal

pub returns-in_err-refusal_of : goal.returns-in_err-refusal_of
returns-in_err-refusal_of c = let o = c.list_own-listed in
    let e = err_from_is_err_and c.from_residual.result c.from_residual.ensures.1 in
    rw (e.1, e.2) (record { answer = own-refused c.args.text.now o.ensures _ c.args.lent o.auto.loss_bytes (sym c.refusal_of.ensures ∙ c.in_err-refusal_of.was); left = tt }, refused-noted _ _ _ _)

pub write_quotes-requires : goal.write_quotes-requires
write_quotes-requires c = let p = c.requires in
    let o = c.list_own-listed in
    let n = back_long o.new.numbers (5 * length c.args.text.now) in
    let f = own-fine c.args.text.now o.ensures (length c.args.out.now) c.args.lent o.auto.loss_bytes (sym c.refusal_of.ensures ∙ c.in_ok-refusal_of.was) in
    (((p.0.0.0, (p.0.0.1, p.1)), (omega (arith, p.0.1.0, o.auto.work), omega (arith, p.0.1.1, o.auto.numbers, n))), f.1.0)

pub returns-in_err-size : goal.returns-in_err-size
returns-in_err-size c = let o = c.list_own-listed in
    let e = err_from_is_err_and c.from_residual-in_err-size.result c.from_residual-in_err-size.ensures.1 in
    let f = own-fine c.args.text.now o.ensures (length c.args.out.now) c.args.lent o.auto.loss_bytes (sym c.refusal_of.ensures ∙ c.in_ok-refusal_of.was) in
    let h = c.in_err-size.ensures in
    rw (e.1, e.2, h.1) (record { answer = spaced-full (cells_of c.args.text.now) _ h.0 ∙ f.0; left = tt }, refused-noted _ _ _ _)

pub returns : goal.returns
returns c = let p = c.requires in
    let t = c.args.text.now in
    let o = c.list_own-listed in
    let l = length-take-le (5 * length t) c.args.numbers.now (omega (arith, p.0.1.1)) in
    let n = listed-counts t _ _ _ _ _ _ _ o.ensures.0 (cells_of t) (bytes-cells_of t) in
    let f = own-fine t o.ensures (length c.args.out.now) c.args.lent o.auto.loss_bytes (sym c.refusal_of.ensures ∙ c.in_ok-refusal_of.was) in
    let h = c.in_ok-size.ensures in (
      record {
        answer = spaced-done (cells_of t) _ h.0.0 h.0.1 n.0 n.1 ∙ f.0;
        left = (h.1, spelled-there t _ _ _ _ _ _ _ o.ensures.0 (cells_of t) (bytes-cells_of t) (omega (arith, f.1.1.1, o.auto.loss_bytes)));
      },
      done-noted t _ (5 * length t) o.new.numbers _ f.1.1.0 (records-there t _ _ _ _ _ _ _ o.ensures.0 (cells_of t) (bytes-cells_of t) (omega (arith, o.ensures.0.few, l))) (omega (arith, o.ensures.0.few)) (omega (arith, p.0.1.1, o.auto.numbers)),
    )
