use native.Mathlib.Omega.{arith}
use mathlib.Core.Path.{sym, ap, ◌∙◌}
use Prim.Native.Nat.{◌-◌, ◌≤◌}
use lib.ListN.{length}
use Rattle.std.proofs.lemmas.Result.{err_from_is_err_and}
use Rattle.post.proofs.Calling.{marked-refused, marked-fine, with-refused, with-done, refused-noted, few-losses, cells-kept, stays-taken}
use Rattle.quotes.proofs.Conversion.{spelled-there, records-there, listed-counts, within}
use Rattle.quote_losses.proofs.Recording.{back_long}
use Rattle.text.proofs.Sources.{back_is}
use Rattle.text.proofs.Clearing.{cells-bytes}
use Rattle.text.specs.Cells.{cells}
use lib.Seq.{length-take-le, take-take}
use lib.ListN.{take, drop}
use Prim.Native.Nat.{◌*◌}
use Rattle.post.proofs.convert_quoted.Goals as goal

pub work_size-first-requires : goal.work_size-first-requires
work_size-first-requires c = let M = c.requires in M.room.0

pub offset_bounds-numbers-first : goal.offset_bounds-numbers-first
offset_bounds-numbers-first c = let M = c.requires in omega (arith, c.work_size-first.ensures, M.room)

pub slice_bounds-list_lost-count : goal.slice_bounds-list_lost-count
slice_bounds-list_lost-count c = let M = c.requires in omega (arith, c.work_size-first.ensures, M.room)

pub slice_bounds-list_lost-start : goal.slice_bounds-list_lost-start
slice_bounds-list_lost-start c = let M = c.requires in omega (arith, c.work_size-first.ensures, M.room)

pub list_lost-lost-requires : goal.list_lost-lost-requires
list_lost-lost-requires c = let a = c.args in
    let M = c.requires in
    let s = c.work_size-first.ensures in
    let l = back_long a.numbers.now c.work_size-first.result in
    ((M.room.0.0, (omega (arith, M.room.1.0), omega (arith, l, s, M.room.1.1))), (M.near.0, M.room.0.1))

pub returns-in_err-refusal_of : goal.returns-in_err-refusal_of
returns-in_err-refusal_of c = let a = c.args in
    let M = c.requires in
    let p = c.list_lost-lost in
    let hb : a.k ≤ length a.work.now = omega (arith, M.near, M.room) in
    let hn : a.k ≤ length a.numbers.now = omega (arith, M.near, M.room) in
    let x = take a.k (cells a.work.now a.numbers.now) in
    let e = cells-bytes a.k a.work.now a.numbers.now hb hn in
    let n = listed-counts a.post.now _ _ _ _ _ _ _ p.ensures.0.0 x e in
    let r = err_from_is_err_and c.from_residual.result c.from_residual.ensures.1 in
    rw (r.1, r.2) (
      record { answer = marked-refused x _ _ _ _ _ _ _ p.auto.loss_bytes (sym (p.ensures.0.1 x e)) n.0 n.1 _ (sym c.refusal_of.ensures ∙ c.in_err-refusal_of.was); left = tt },
      refused-noted _ _ _ _,
    )

pub lay_quotes-requires : goal.lay_quotes-requires
lay_quotes-requires c = let a = c.args in
    let M = c.requires in
    let p = c.list_lost-lost in
    let s = c.work_size-first.ensures in
    let hb : a.k ≤ length a.work.now = omega (arith, M.near, M.room) in
    let hn : a.k ≤ length a.numbers.now = omega (arith, M.near, M.room) in
    let x = take a.k (cells a.work.now a.numbers.now) in
    let e = cells-bytes a.k a.work.now a.numbers.now hb hn in
    let w = within p.result.deep a.lent _ _ _ (sym c.refusal_of.ensures ∙ c.in_ok-refusal_of.was) in
    let n = listed-counts a.post.now _ _ _ _ _ _ _ p.ensures.0.0 x e in
    let kept = cells-kept a.k (length a.out.now) c.work_size-first.result a.work.now a.numbers.now p.new.work p.new.numbers M.near.0 (omega (arith, s, M.near)) (omega (arith, s, M.room.1.1)) p.ensures.1 in
    record {
      near = M.near.0;
      lendable = (M.room.0.1, M.plainly);
      areas = (omega (arith, M.near, M.room.1.0, p.auto.work), omega (arith, s, M.near));
      room = omega (arith, s, M.near, M.room.1.1, p.auto.numbers);
      small = omega (arith, M.small, p.auto.numbers);
      shallow = rw kept (p.ensures.0.1 x e ∙ w.0);
      lost = rw kept n.0;
    }

pub returns-in_err-size : goal.returns-in_err-size
returns-in_err-size c = let a = c.args in
    let M = c.requires in
    let p = c.list_lost-lost in
    let s = c.work_size-first.ensures in
    let hb : a.k ≤ length a.work.now = omega (arith, M.near, M.room) in
    let hn : a.k ≤ length a.numbers.now = omega (arith, M.near, M.room) in
    let x = take a.k (cells a.work.now a.numbers.now) in
    let e = cells-bytes a.k a.work.now a.numbers.now hb hn in
    let n = listed-counts a.post.now _ _ _ _ _ _ _ p.ensures.0.0 x e in
    let f = sym c.refusal_of.ensures ∙ c.in_ok-refusal_of.was in
    let kept = cells-kept a.k (length a.out.now) c.work_size-first.result a.work.now a.numbers.now p.new.work p.new.numbers M.near.0 (omega (arith, s, M.near)) (omega (arith, s, M.room.1.1)) p.ensures.1 in
    let g = rw kept at c.lay_quotes.ensures.0 in
    let r = err_from_is_err_and c.from_residual-in_err-size.result c.from_residual-in_err-size.ensures.1 in
    rw (r.1, r.2) (
      record { answer = with-refused _ _ g.answer c.in_err-size.was ∙ marked-fine x _ _ _ _ _ _ _ p.auto.loss_bytes (sym (p.ensures.0.1 x e)) n.0 n.1 f; left = tt },
      refused-noted _ _ _ _,
    )

pub overflow_mul-losses : goal.overflow_mul-losses
overflow_mul-losses c = let a = c.args in
    let M = c.requires in
    let hb : a.k ≤ length a.work.now = omega (arith, M.near, M.room) in
    let few = few-losses a.k a.work.now hb c.list_lost-lost.ensures.0.0.few in
    omega (arith, few, M.near, M.room, M.small)

pub move_front-requires : goal.move_front-requires
move_front-requires c = let a = c.args in
    let M = c.requires in
    let p = c.list_lost-lost in
    let hb : a.k ≤ length a.work.now = omega (arith, M.near, M.room) in
    let few = few-losses a.k a.work.now hb p.ensures.0.0.few in
    omega (arith, few, c.work_size-first.ensures, M.near, M.room, p.auto.numbers, c.lay_quotes.auto.numbers)

pub returns : goal.returns
returns c = let a = c.args in
    let M = c.requires in
    let p = c.list_lost-lost in
    let s = c.work_size-first.ensures in
    let hb : a.k ≤ length a.work.now = omega (arith, M.near, M.room) in
    let hn : a.k ≤ length a.numbers.now = omega (arith, M.near, M.room) in
    let x = take a.k (cells a.work.now a.numbers.now) in
    let e = cells-bytes a.k a.work.now a.numbers.now hb hn in
    let n = listed-counts a.post.now _ _ _ _ _ _ _ p.ensures.0.0 x e in
    let lb = p.auto.loss_bytes in
    let losses = p.result.counts.losses in
    let f = sym c.refusal_of.ensures ∙ c.in_ok-refusal_of.was in
    let w = within p.result.deep a.lent (length p.new.loss_bytes) p.result.counts.losses p.result.counts.bytes f in
    let there = spelled-there a.post.now _ _ _ _ _ _ _ p.ensures.0.0 x e (omega (arith, w.1.1, lb)) in
    let few = few-losses a.k a.work.now hb p.ensures.0.0.few in
    let first = c.work_size-first.result in
    let hf : first ≤ length a.numbers.now = omega (arith, s, M.room.1.1) in
    let kept = cells-kept a.k (length a.out.now) first a.work.now a.numbers.now p.new.work p.new.numbers M.near.0 (omega (arith, s, M.near)) hf p.ensures.1 in
    let g = rw kept at c.lay_quotes.ensures in
    let b = back_is a.numbers.now p.new.numbers first hf in
    let z = back_long a.numbers.now first in
    let i = length-take-le (5 * length a.post.now) (take (length a.numbers.now - first) (drop first a.numbers.now)) (omega (arith, z, s, M.room.1.1)) in (
      record {
        answer = with-done _ _ g.0.answer c.in_ok-size.was ∙ marked-fine x _ _ _ _ _ _ _ lb (sym (p.ensures.0.1 x e)) n.0 n.1 f;
        left = (rw c.in_ok-size.was at g.0.laid, (w.1.1, there.words-there));
      },
      record {
        room = omega (arith, few, s, M.near, M.room.1.1, p.auto.numbers, c.lay_quotes.auto.numbers, c.move_front.auto.numbers);
        few = w.1.0;
        there = c.move_front.ensures ∙ stays-taken first _ _ _ g.1 ∙ ap (take (5 * losses)) b ∙ sym (take-take (5 * losses) (5 * length a.post.now) p.new.numbers (omega (arith, few, M.near)))
            ∙ records-there a.post.now _ _ _ _ _ _ _ p.ensures.0.0 x e (omega (arith, few, i, M.near));
      },
    )
