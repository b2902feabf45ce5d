use native.Mathlib.Omega.{arith}
use mathlib.Core.Path.{sym, ap, ◌∙◌}
use Prim.Native.Nat.{ℕ}
use lib.ListN.{length}
use Rattle.std.proofs.lemmas.Result.{err_from_is_err_and}
use Rattle.post.proofs.Calling.{or-refused, or-done, spaced-full, spaced-done, lent-before, stays-behind, stays-in, quotable-room, quoted-there}
use Rattle.quotes.proofs.Conversion.{quoted-within}
use Rattle.quote_blocks.specs.Quotes.{too_deep}
use lib.Seq.{length-take-le}
use Rattle.post.proofs.laying.lay_quotes.Goals as goal

pub overflow_mul-table : goal.overflow_mul-table
overflow_mul-table c = let Q = c.requires in let h = quotable-room Q in omega (arith, h, Q.room, Q.small)

pub overflow_add-table : goal.overflow_add-table
overflow_add-table c = let Q = c.requires in let h = quotable-room Q in omega (arith, h, Q.room, Q.small)

pub overflow_add-areas : goal.overflow_add-areas
overflow_add-areas c = let Q = c.requires in omega (arith, Q.areas, Q.room, Q.small)

pub overflow_add-areas-2 : goal.overflow_add-areas-2
overflow_add-areas-2 c = let Q = c.requires in omega (arith, Q.areas, Q.room, Q.small)

pub overflow_add-areas-3 : goal.overflow_add-areas-3
overflow_add-areas-3 c = let Q = c.requires in omega (arith, Q.areas, Q.room, Q.small)

pub slice_bounds-quote_pass-end : goal.slice_bounds-quote_pass-end
slice_bounds-quote_pass-end c = let Q = c.requires in omega (arith, Q.room)

pub slice_bounds-quote_pass-end-2 : goal.slice_bounds-quote_pass-end-2
slice_bounds-quote_pass-end-2 c = let Q = c.requires in sym (length-take-le c.args.records.0 c.args.numbers.now (omega (arith, Q.room)))

pub quote_pass-requires : goal.quote_pass-requires
quote_pass-requires c = let x = c.args in
    let Q = c.requires in
    let l = length-take-le x.records.0 x.numbers.now (omega (arith, Q.room)) in
    (((omega arith, omega arith), ((omega (arith, Q.areas.0), omega (arith, l, Q.areas.1)), (omega arith, (omega arith, omega (arith, Q.near, Q.lendable.0))))), ap too_deep (lent-before x.k x.records.0 x.work.now x.numbers.now (omega (arith, Q.areas.1))) ∙ Q.shallow)

pub returns-in_err-passed : goal.returns-in_err-passed
returns-in_err-passed c = let x = c.args in
    let Q = c.requires in
    let q = c.quote_pass in
    let l = length-take-le x.records.0 x.numbers.now (omega (arith, Q.room)) in
    let o = or-refused q.result (sym c.ok_or.ensures.value ∙ c.in_err-passed.was) in
    let f = rw (lent-before x.k x.records.0 x.work.now x.numbers.now (omega (arith, Q.areas.1))) at (rw o.0 at q.ensures) in
    let p = err_from_is_err_and c.from_residual.result c.from_residual.ensures.1 in
    rw (p.1, p.2, ← o.1) (record { answer = spaced-full _ _ (omega (arith, f)); laid = tt }, stays-behind x.records.0 x.records.0 _ x.numbers.now q.new.numbers (q.auto.numbers ∙ l) (omega arith) (omega (arith, Q.room)))

pub lay_lists-requires : goal.lay_lists-requires
lay_lists-requires c = let x = c.args in
    let Q = c.requires in
    let m : ℕ = length x.out.now in
    let q = c.quote_pass in
    let l = length-take-le x.records.0 x.numbers.now (omega (arith, Q.room)) in
    let d = rw (or-done q.result _ (sym c.ok_or.ensures.value ∙ c.in_ok-passed.was)) at q.ensures in
    let w = quoted-within _ _ _ _ d.0.0 d.1.0 in
    let e = quoted-there x.k m x.records.0 _ x.work.now x.numbers.now _ _ (omega (arith, Q.areas.1)) (q.auto.numbers ∙ l) w.1 (omega (arith, Q.areas.1)) d.1.1 in
    let h = quotable-room Q in
    record {
      order = w;
      lendable = Q.lendable;
      areas = (omega (arith, w.1, Q.areas.0, q.auto.work), omega (arith, w.1, Q.areas.1));
      room = rw e (omega (arith, h, Q.room, q.auto.numbers));
      small = omega (arith, Q.small, q.auto.numbers);
    }

pub returns : goal.returns
returns c = let x = c.args in
    let Q = c.requires in
    let m : ℕ = length x.out.now in
    let q = c.quote_pass in
    let l = length-take-le x.records.0 x.numbers.now (omega (arith, Q.room)) in
    let b = lent-before x.k x.records.0 x.work.now x.numbers.now (omega (arith, Q.areas.1)) in
    let d = rw (or-done q.result _ (sym c.ok_or.ensures.value ∙ c.in_ok-passed.was)) at q.ensures in
    let w = quoted-within _ _ _ _ d.0.0 d.1.0 in
    let e = quoted-there x.k m x.records.0 _ x.work.now x.numbers.now _ _ (omega (arith, Q.areas.1)) (q.auto.numbers ∙ l) w.1 (omega (arith, Q.areas.1)) d.1.1 in
    let n = rw b at d.0.0 in
    let r = rw e at c.lay_lists.ensures.0 in (
      record { answer = r.answer ∙ spaced-done _ _ (omega (arith, n)); laid = r.laid },
      stays-in _ _ x.records.0 _ _ _ (omega (arith, w.1, Q.areas.1)) (omega arith) c.lay_lists.ensures.1
          ∙ stays-behind x.records.0 x.records.0 _ x.numbers.now q.new.numbers (q.auto.numbers ∙ l) (omega arith) (omega (arith, Q.room)),
    )
