use native.Mathlib.Omega.{arith}
use mathlib.Core.Path.{refl, sym, ap, ◌∙◌}
use mathlib.Core.List.{List}
use lib.ListN.{length}
use lib.Seq.{length-take-le}
use Rattle.std.proofs.lemmas.Result.{err_from_is_err_and}
use Rattle.text.specs.Cells.{Cell}
use Rattle.list_blocks.specs.Lists.{lists}
use Rattle.lending.proofs.Sizes.{enough}
use Rattle.lists.specs.Calls.{converted}
use Rattle.lists.proofs.Conversion.{table_fits, at_front, written-end, converted-refused, converted-done, answered-refused, answered-fine}
use Rattle.lists.proofs.convert.Goals as goal

pub returns-in_err-check : goal.returns-in_err-check
returns-in_err-check c = let p = err_from_is_err_and c.from_residual.result c.from_residual.ensures.1 in
    rw (p.1, p.2) (record { answer = answered-refused _ _ _ (sym c.in_err-check.was ∙ c.check.ensures); laid = tt })

pub numbers_size-requires : goal.numbers_size-requires
numbers_size-requires c = let h = enough _ _ (sym c.check.ensures ∙ c.in_ok-check.was) in (h.text, h.out)

pub slice_bounds-numbers-end : goal.slice_bounds-numbers-end
slice_bounds-numbers-end c = let h = enough _ _ (sym c.check.ensures ∙ c.in_ok-check.was) in omega arith

pub slice_bounds-numbers-end-2 : goal.slice_bounds-numbers-end-2
slice_bounds-numbers-end-2 c = let h = enough _ _ (sym c.check.ensures ∙ c.in_ok-check.was) in
    sym (length-take-le c.numbers_size.result c.args.numbers.now (omega arith))

pub set_cells-requires : goal.set_cells-requires
set_cells-requires c = let h = enough _ _ (sym c.check.ensures ∙ c.in_ok-check.was) in
    let e = length-take-le c.numbers_size.result c.args.numbers.now (omega arith) in
    (h.text, (omega arith, omega arith))

pub list_pass-requires : goal.list_pass-requires
list_pass-requires c = let h = enough _ _ (sym c.check.ensures ∙ c.in_ok-check.was) in
    let e = length-take-le c.numbers_size.result c.args.numbers.now (omega arith) in
    ((omega arith, omega arith), (((omega arith, omega arith), (omega (arith, c.set_cells.auto.work), omega (arith, c.set_cells.auto.numbers))), table_fits _ _ _ _ _ (omega (arith, c.set_cells.auto.numbers))))

pub returns-in_err-passed : goal.returns-in_err-passed
returns-in_err-passed c = let p = err_from_is_err_and c.from_residual-in_err-passed.result c.from_residual-in_err-passed.ensures.1 in
    let q = c.in_err-passed.ensures.0 in
    let y = at_front _ _ _ c.set_cells.ensures in
    rw (p.1, p.2) (record {
      answer = converted-refused _ _ _ _ refl q.0 (λ f. let o = q.1 f in omega arith) ∙ ap (λ (x : List Cell). converted x (length c.args.out.now)) y ∙ sym (answered-fine _ _ (sym c.in_ok-check.was ∙ c.check.ensures));
      laid = tt;
    })

pub lay_part-requires : goal.lay_part-requires
lay_part-requires c = let h = enough _ _ (sym c.check.ensures ∙ c.in_ok-check.was) in
    let e = length-take-le c.numbers_size.result c.args.numbers.now (omega arith) in
    let w = written-end c.in_ok-passed.ensures.0.1 in
    ((w.0, (omega arith, omega arith)), (omega arith, omega arith))

pub returns : goal.returns
returns c = let q = c.in_ok-passed.ensures.0 in
    let y = at_front _ _ _ c.set_cells.ensures in
    record {
      answer = converted-done _ _ (length c.args.out.now) _ _ _ _ _ (omega arith) q.0 q.1 ∙ ap (λ (x : List Cell). converted x (length c.args.out.now)) y ∙ sym (answered-fine _ _ (sym c.in_ok-check.was ∙ c.check.ensures));
      laid = rw (← (q.1.text ∙ ap lists y)) c.lay_part.ensures;
    }
