use native.Mathlib.Omega.{arith}
use mathlib.Core.Path.{sym}
use lib.ListN.{length}
use Rattle.post.proofs.Unchanged.{unlisted-ends}
use Rattle.text.proofs.Clearing.{cells-bytes}
use Rattle.text.proofs.Areas.{area-length}
use Rattle.text.specs.Cells.{cells, part}
use lib.Seq.{length-take-le}
use lib.ListN.{take}
use Rattle.post.proofs.laying.lay_unquoted.Goals as goal

pub slice_bounds-no_lists-end : goal.slice_bounds-no_lists-end
slice_bounds-no_lists-end c = let L = c.requires in omega (arith, L.areas)

pub slice_bounds-no_lists-end-2 : goal.slice_bounds-no_lists-end-2
slice_bounds-no_lists-end-2 c = let L = c.requires in sym (length-take-le c.args.k c.args.work.now (omega (arith, L.areas)))

pub lay_part-requires : goal.lay_part-requires
lay_part-requires c = let L = c.requires in ((omega arith, (omega (arith, L.areas), omega (arith, L.areas, L.room))), (L.order.1, omega (arith, L.order.1, L.lendable.1)))

pub returns-then-no_lists : goal.returns-then-no_lists
unfolding part
returns-then-no_lists c = let x = c.args in
    let L = c.requires in
    let l = area-length x.work.now x.numbers.now x.k (omega (arith, L.areas)) (omega (arith, L.areas, L.room)) in
    unlisted-ends (take x.k (cells x.work.now x.numbers.now)) (take x.k x.work.now) (length x.out.now) (cells-bytes x.k x.work.now x.numbers.now (omega (arith, L.areas)) (omega (arith, L.areas, L.room)))
    (omega (arith, l, L.order.1)) (c.no_lists.ensures c.if-no_lists.true) (omega (arith, l)) c.lay_part.ensures

pub lay_lists-requires : goal.lay_lists-requires
lay_lists-requires c = c.requires

pub returns : goal.returns
unfolding part
returns c = c.lay_lists.ensures.0
