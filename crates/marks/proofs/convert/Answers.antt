use native.Mathlib.Omega.{arith}
use mathlib.Core.Path.{sym, ◌∙◌}
use lib.ListN.{length}
use Rattle.lending.proofs.Sizes.{enough}
use Rattle.text.proofs.Clearing.{fill_cleared}
use Rattle.text.proofs.Areas.{area-length}
use Rattle.marks.proofs.Conversion.{front-left, of-text, converted-full, spans_fit, converted-done, area-laid, spans-enough, passed-on, attempted-refused, attempted-full, attempted-done}
use Rattle.marks.proofs.convert.Goals as goal

pub returns-in_err-check : goal.returns-in_err-check
returns-in_err-check c =
    rw (passed-on c.from_residual.result c.in_err-check.field-0.0 c.from_residual.ensures.1) (attempted-refused _ _ _ _ _ _ c.in_err-check.field-0.0 (sym c.check.ensures ∙ c.in_err-check.was))

pub set_cells-requires : goal.set_cells-requires
set_cells-requires c =
    let fine = sym c.check.ensures ∙ c.in_ok-check.was in
    let h = enough _ _ fine in
    let s = spans-enough _ _ _ _ _ _ fine in
    (omega arith, (omega arith, omega arith))

pub write_marks-went-requires : goal.write_marks-went-requires
write_marks-went-requires c =
    let fine = sym c.check.ensures ∙ c.in_ok-check.was in
    let h = enough _ _ fine in
    let s = spans-enough _ _ _ _ _ _ fine in
    ((omega arith, omega arith), ((omega arith, omega arith), (omega arith, omega arith)))

pub returns-then-m-went : goal.returns-then-m-went
returns-then-m-went c = let a = c.args in
    let fine = sym c.check.ensures ∙ c.in_ok-check.was in
    let h = enough _ _ fine in
    let s = spans-enough _ _ _ _ _ _ fine in
    let st = c.set_cells in
    let wm = c.write_marks-went in
    let b₀ = st.auto.work in
    let n₀ = st.auto.numbers in
    let b₁ = wm.auto.work in
    let n₁ = wm.auto.numbers in
    let ks = wm.auto.spans in
    let w = of-text st.ensures wm.ensures.wrote in
    let long = area-length wm.new.work wm.new.numbers (length a.out.now) (omega arith) (omega arith) in
    attempted-full a.text.now _ _ _ _ _ fine (converted-full a.text.now _ _ _ _ _ _ _ w long c.if-m-went.true)

pub lay_part-requires : goal.lay_part-requires
lay_part-requires c = let a = c.args in
    let fine = sym c.check.ensures ∙ c.in_ok-check.was in
    let h = enough _ _ fine in
    let s = spans-enough _ _ _ _ _ _ fine in
    let b₀ = c.set_cells.auto.work in
    let n₀ = c.set_cells.auto.numbers in
    let b₁ = c.write_marks-went.auto.work in
    let n₁ = c.write_marks-went.auto.numbers in
    let f = c.if-m-went.false in
    ((omega arith, (omega arith, omega arith)), (omega arith, omega arith))

pub offset_bounds-spans-went : goal.offset_bounds-spans-went
offset_bounds-spans-went c = let a = c.args in
    let fine = sym c.check.ensures ∙ c.in_ok-check.was in
    let h = enough _ _ fine in
    let s = spans-enough _ _ _ _ _ _ fine in
    let st = c.set_cells in
    let wm = c.write_marks-went in
    let b₀ = st.auto.work in
    let n₀ = st.auto.numbers in
    let b₁ = wm.auto.work in
    let n₁ = wm.auto.numbers in
    let ks = wm.auto.spans in
    let w = of-text st.ensures wm.ensures.wrote in
    let long = area-length wm.new.work wm.new.numbers (length a.out.now) (omega arith) (omega arith) in
    let fit = spans_fit a.text.now _ _ _ _ _ _ _ w long in
    omega arith

pub slice_bounds-fill-count : goal.slice_bounds-fill-count
slice_bounds-fill-count c = let a = c.args in
    let fine = sym c.check.ensures ∙ c.in_ok-check.was in
    let h = enough _ _ fine in
    let s = spans-enough _ _ _ _ _ _ fine in
    let st = c.set_cells in
    let wm = c.write_marks-went in
    let b₀ = st.auto.work in
    let n₀ = st.auto.numbers in
    let b₁ = wm.auto.work in
    let n₁ = wm.auto.numbers in
    let ks = wm.auto.spans in
    let w = of-text st.ensures wm.ensures.wrote in
    let long = area-length wm.new.work wm.new.numbers (length a.out.now) (omega arith) (omega arith) in
    let fit = spans_fit a.text.now _ _ _ _ _ _ _ w long in
    omega arith

pub slice_bounds-fill-start : goal.slice_bounds-fill-start
slice_bounds-fill-start c = let a = c.args in
    let fine = sym c.check.ensures ∙ c.in_ok-check.was in
    let h = enough _ _ fine in
    let s = spans-enough _ _ _ _ _ _ fine in
    let st = c.set_cells in
    let wm = c.write_marks-went in
    let b₀ = st.auto.work in
    let n₀ = st.auto.numbers in
    let b₁ = wm.auto.work in
    let n₁ = wm.auto.numbers in
    let ks = wm.auto.spans in
    let w = of-text st.ensures wm.ensures.wrote in
    let long = area-length wm.new.work wm.new.numbers (length a.out.now) (omega arith) (omega arith) in
    let fit = spans_fit a.text.now _ _ _ _ _ _ _ w long in
    omega arith

pub returns : goal.returns
returns c = let a = c.args in
    let fine = sym c.check.ensures ∙ c.in_ok-check.was in
    let h = enough _ _ fine in
    let s = spans-enough _ _ _ _ _ _ fine in
    let st = c.set_cells in
    let wm = c.write_marks-went in
    let b₀ = st.auto.work in
    let n₀ = st.auto.numbers in
    let b₁ = wm.auto.work in
    let n₁ = wm.auto.numbers in
    let ks = wm.auto.spans in
    let w = of-text st.ensures wm.ensures.wrote in
    let long = area-length wm.new.work wm.new.numbers (length a.out.now) (omega arith) (omega arith) in
    let f = c.if-m-went.false in
    let fit = spans_fit a.text.now _ _ _ _ _ _ _ w long in
    attempted-done a.text.now _ _ _ _ _ _ fine (converted-done a.text.now _ _ _ _ _ _ _ w long _ _ ks f (omega arith) (area-laid _ _ _ f c.lay_part.ensures)
    (front-left _ _ _ (omega arith) (fill_cleared _ _ _ (omega arith) c.fill.ensures.after)))
