use native.Mathlib.Omega.{arith}
use mathlib.Core.Path.{◌≡◌, refl}
use Prim.Native.Nat.{◌+◌, ◌-◌}
use lib.ListN.{length}
use Rattle.std.proofs.lemmas.Result.{err_from_is_err_and}
use Rattle.lists.proofs.Conversion.{written-end, converted-refused, converted-done}
use Rattle.post.proofs.Calling.{stays-in}
use native.Mathlib.Nat.{add-sub_cancel_left}
use Rattle.post.proofs.laying.lay_lists.Goals as goal

pub overflow_add-areas : goal.overflow_add-areas
overflow_add-areas c = let L = c.requires in omega (arith, L.areas, L.room, L.small)

pub list_pass-requires : goal.list_pass-requires
list_pass-requires c = let L = c.requires in ((L.order.0, omega arith), (((omega arith, omega (arith, L.areas.1)), (omega (arith, L.areas.0), L.small)), L.room))

pub returns-in_err-passed : goal.returns-in_err-passed
returns-in_err-passed c = let x = c.args in
    let k : x.e.0 + length x.out.now - x.e.0 ≡ length x.out.now = add-sub_cancel_left x.e.0 (length x.out.now) in
    let p = err_from_is_err_and c.from_residual.result c.from_residual.ensures.1 in
    let q = c.in_err-passed.ensures in
    rw (p.1, p.2) (record { answer = converted-refused _ _ _ _ refl q.0.0 (λ f. let o = q.0.1 f in omega (arith, o, k)); laid = tt }, stays-in _ x.table.0 _ _ _ _ (omega (arith, k)) (omega arith) q.1.numbers-behind)

pub lay_part-requires : goal.lay_part-requires
lay_part-requires c = let x = c.args in
    let L = c.requires in
    let k : x.e.0 + length x.out.now - x.e.0 ≡ length x.out.now = add-sub_cancel_left x.e.0 (length x.out.now) in
    let q = c.list_pass in
    let w = written-end (rw k at c.in_ok-passed.ensures.0.1) in
    ((w.0, (omega (arith, w.1, L.areas.0, q.auto.work), omega (arith, w.1, L.areas.1, L.room, q.auto.numbers))), (w.1, omega (arith, w.1, L.lendable.1)))

pub returns : goal.returns
returns c = let x = c.args in
    let k : x.e.0 + length x.out.now - x.e.0 ≡ length x.out.now = add-sub_cancel_left x.e.0 (length x.out.now) in
    let q = c.in_ok-passed.ensures in (
      record { answer = converted-done _ _ (length x.out.now) _ _ _ _ _ (omega (arith, k)) q.0.0 q.0.1; laid = rw (← q.0.1.text) c.lay_part.ensures },
      stays-in _ x.table.0 _ _ _ _ (omega (arith, k)) (omega arith) q.1.numbers-behind,
    )
