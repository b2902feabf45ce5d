use native.Mathlib.Omega.{arith}
use mathlib.Core.Path.{sym, ◌∙◌}
use Prim.Native.Nat.{ℕ}
use lib.ListN.{length}
use Rattle.std.proofs.lemmas.Result.{err_from_is_err_and}
use Rattle.lending.proofs.Sizes.{enough}
use Rattle.post.proofs.Calling.{ends_as, ends-finished, answered-refused, answered-fine, refused-noted, noted-longer, converted-full, converted-done, marks-few, marks-front}
use Rattle.text.proofs.Areas.{area-length}
use lib.Seq.{length-take-le, take-take}
use Rattle.text.specs.Cells.{cells}
use Rattle.post.proofs.convert.Goals as goal

pub returns-in_err-check : goal.returns-in_err-check
returns-in_err-check c = let p = err_from_is_err_and c.from_residual.result c.from_residual.ensures.1 in
    rw (p.1, p.2) (record { answer = answered-refused _ _ _ _ _ (sym c.in_err-check.was ∙ c.check.ensures); left = tt }, refused-noted _ _ _ _)

pub numbers_size-requires : goal.numbers_size-requires
numbers_size-requires c = let h = enough _ _ (sym c.check.ensures ∙ c.in_ok-check.was) in (h.text, h.out)

pub slice_bounds-numbers-end : goal.slice_bounds-numbers-end
slice_bounds-numbers-end c = let h = enough _ _ (sym c.check.ensures ∙ c.in_ok-check.was) in omega arith

pub slice_bounds-numbers-end-2 : goal.slice_bounds-numbers-end-2
slice_bounds-numbers-end-2 c = let h = enough _ _ (sym c.check.ensures ∙ c.in_ok-check.was) in
    sym (length-take-le c.numbers_size.result c.args.numbers.now (omega arith))

pub mark_post-k-requires : goal.mark_post-k-requires
mark_post-k-requires c = let h = enough _ _ (sym c.check.ensures ∙ c.in_ok-check.was) in
    let e = length-take-le c.numbers_size.result c.args.numbers.now (omega arith) in
    ((h.text, h.out), (h.work, omega arith))

pub returns-then-m-k : goal.returns-then-m-k
returns-then-m-k c = let x = c.args in
    let h = enough _ _ (sym c.check.ensures ∙ c.in_ok-check.was) in
    let e = length-take-le c.numbers_size.result x.numbers.now (omega arith) in
    let z = c.mark_post-k in
    let s = area-length z.new.work z.new.numbers (length x.out.now) (omega (arith, h.work, z.auto.work)) (omega (arith, z.auto.numbers)) in (
      record { answer = converted-full x.post.now _ (length x.out.now) _ _ _ z.ensures s c.if-m-k.true ∙ sym (answered-fine _ _ _ _ (sym c.in_ok-check.was ∙ c.check.ensures)); left = tt },
      refused-noted _ _ _ _,
    )

pub convert_marked-requires : goal.convert_marked-requires
convert_marked-requires c = let x = c.args in
    let h = enough _ _ (sym c.check.ensures ∙ c.in_ok-check.was) in
    let e = length-take-le c.numbers_size.result x.numbers.now (omega arith) in
    let z = c.mark_post-k in
    let s = area-length z.new.work z.new.numbers (length x.out.now) (omega (arith, h.work, z.auto.work)) (omega (arith, z.auto.numbers)) in
    let near = c.if-m-k.false in
    record {
      room = ((h.text, h.out), (omega (arith, h.work, z.auto.work), omega (arith, z.auto.numbers)));
      plainly = h.origins;
      small = omega (arith, z.auto.numbers, h.text, h.out);
      near = (near, marks-few x.post.now _ (length x.out.now) _ 0 0 z.ensures s near);
    }

pub returns : goal.returns
returns c = let x = c.args in
    let h = enough _ _ (sym c.check.ensures ∙ c.in_ok-check.was) in
    let l = length-take-le c.numbers_size.result x.numbers.now (omega arith) in
    let z = c.mark_post-k in
    let m : ℕ = length x.out.now in
    let s = area-length z.new.work z.new.numbers m (omega (arith, h.work, z.auto.work)) (omega (arith, z.auto.numbers)) in
    let near = c.if-m-k.false in
    let e = sym (take-take z.result.0 m (cells z.new.work z.new.numbers) near) ∙ marks-front x.post.now _ m _ 0 0 z.ensures s near in
    let d = converted-done x.post.now _ m _ x.lent (length x.loss_bytes.now) z.ensures s near in
    let p = ends-finished x.post.now _ e c.convert_marked.ensures in
    (ends_as p.0 (answered-fine _ _ _ _ (sym c.in_ok-check.was ∙ c.check.ensures) ∙ rw e d), noted-longer _ _ _ _ _ p.1)
