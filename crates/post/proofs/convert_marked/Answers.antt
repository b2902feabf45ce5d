use native.Mathlib.Omega.{arith}
use mathlib.Core.Path.{sym, ◌∙◌}
use Prim.Native.Nat.{◌≤◌}
use lib.ListN.{length}
use Rattle.std.proofs.lemmas.Result.{err_from_is_err_and}
use Rattle.post.proofs.Unchanged.{marked-none, unquoted-left, unquoted-noted}
use Rattle.post.proofs.Calling.{part-size, with-refused, with-done, refused-noted}
use Rattle.list_blocks.proofs.Pushes.{pushes-length}
use Rattle.text.proofs.Clearing.{cells-bytes}
use Rattle.text.proofs.Areas.{area-length}
use Rattle.text.specs.Cells.{cells, part}
use lib.Seq.{length-take-le}
use lib.ListN.{take}
use Rattle.post.proofs.convert_marked.Goals as goal

pub slice_bounds-no_quotes-end : goal.slice_bounds-no_quotes-end
slice_bounds-no_quotes-end c = let M = c.requires in omega (arith, M.near, M.room)

pub slice_bounds-no_quotes-end-2 : goal.slice_bounds-no_quotes-end-2
slice_bounds-no_quotes-end-2 c = let x = c.args in
    let M = c.requires in
    sym (length-take-le x.k x.work.now (omega (arith, M.near, M.room)))

pub work_size-requires : goal.work_size-requires
work_size-requires c = let M = c.requires in M.room.0

pub lay_unquoted-requires : goal.lay_unquoted-requires
lay_unquoted-requires c = let x = c.args in
    let M = c.requires in
    let s = c.work_size.ensures in
    let hb : x.k ≤ length x.work.now = omega (arith, M.near, M.room) in
    let hn : x.k ≤ length x.numbers.now = omega (arith, M.near, M.room) in
    let l = part-size 0 x.k x.work.now x.numbers.now (omega arith) hb hn in
    let h = pushes-length (part 0 x.k (cells x.work.now x.numbers.now)) in
    record {
      order = (omega arith, omega (arith, M.near.0));
      lendable = (M.room.0.1, M.plainly);
      areas = (omega (arith, M.near, M.room.1.0), omega (arith, s, M.near));
      room = omega (arith, s, h, l, M.near, M.room.1.1);
      small = M.small;
    }

pub returns-in_err-size : goal.returns-in_err-size
returns-in_err-size c = let x = c.args in
    let M = c.requires in
    let hb : x.k ≤ length x.work.now = omega (arith, M.near, M.room) in
    let hn : x.k ≤ length x.numbers.now = omega (arith, M.near, M.room) in
    let l = area-length x.work.now x.numbers.now x.k hb hn in
    let t = marked-none (take x.k (cells x.work.now x.numbers.now)) (take x.k x.work.now) (length x.out.now) (cells-bytes x.k x.work.now x.numbers.now hb hn) (omega (arith, l, M.near.0)) (c.no_quotes.ensures c.if-no_quotes.true) x.lent (length x.loss_bytes.now) in
    let r = err_from_is_err_and c.from_residual.result c.from_residual.ensures.1 in
    rw (r.1, r.2) (record { answer = with-refused 0 0 c.lay_unquoted.ensures.answer c.in_err-size.was ∙ t; left = tt }, refused-noted _ _ _ _)

pub returns-then-no_quotes : goal.returns-then-no_quotes
returns-then-no_quotes c = let x = c.args in
    let M = c.requires in
    let hb : x.k ≤ length x.work.now = omega (arith, M.near, M.room) in
    let hn : x.k ≤ length x.numbers.now = omega (arith, M.near, M.room) in
    let l = area-length x.work.now x.numbers.now x.k hb hn in
    let y = take x.k (cells x.work.now x.numbers.now) in
    let s = take x.k x.work.now in
    let m = length x.out.now in
    let e = cells-bytes x.k x.work.now x.numbers.now hb hn in
    let near : length y ≤ m = omega (arith, l, M.near.0) in
    let u = c.no_quotes.ensures c.if-no_quotes.true in (
      record {
        answer = with-done 0 0 c.lay_unquoted.ensures.answer c.in_ok-size.was ∙ marked-none y s m e near u x.lent (length x.loss_bytes.now);
        left = unquoted-left y s m e near u c.in_ok-size.size _ (rw c.in_ok-size.was at c.lay_unquoted.ensures.laid);
      },
      unquoted-noted y s m e near u x.post.now x.lent _,
    )

pub convert_quoted-requires : goal.convert_quoted-requires
convert_quoted-requires c = c.requires

pub returns : goal.returns
returns c = c.convert_quoted.ensures
