use native.Mathlib.Omega.{arith}
use mathlib.Core.Path.{sym}
use Rattle.mark_tags.specs.Marks.{span_numbers}
use Rattle.text.proofs.Clearing.{fill_cleared_all}
use Rattle.marks.proofs.Conversion.{front-left, called-refused}
use Rattle.marks.proofs.convert_marks.Goals as goal

pub returns-then-is_err : goal.returns-then-is_err
unfolding span_numbers
returns-then-is_err c = let v = c.convert-answer in
    let b₀ = v.auto.out in
    let n₀ = v.auto.origins in
    let s₀ = v.auto.spans in
    let l = c.lay_nothing.ensures in
    let z = front-left v.new.spans _ 0 (omega arith) (fill_cleared_all v.new.spans c.fill.new.self c.fill.ensures.after) in
    called-refused _ _ _ _ _ _ _ (sym c.if-is_err.ensures.value) v.ensures (record { laid = rw (b₀, n₀) at l; listed = rw s₀ at z })
