use native.Mathlib.Omega.{arith}
use mathlib.Core.Path.{refl}
use Rattle.mark_writing.proofs.Inwards.{table-in, text-places, text_in}
use Rattle.mark_writing.proofs.slot.write_text.Goals as goal

pub in_work-a-requires : goal.in_work-a-requires
in_work-a-requires c = let a = c.args in
    let p = text-places a.text a.w.now a.from c.requires.0 c.requires.1 c.bound_at.ensures refl in
    omega (arith, c.requires.0.1.near, p.0, p.1)

pub in_work-e-requires : goal.in_work-e-requires
in_work-e-requires c = let a = c.args in
    let p = text-places a.text a.w.now a.from c.requires.0 c.requires.1 c.bound_at.ensures c.bound_at-2.ensures in
    omega (arith, c.requires.0.1.near, p.1)

pub copy_back-requires : goal.copy_back-requires
copy_back-requires c = let a = c.args in
    let p = text-places a.text a.w.now a.from c.requires.0 c.requires.1 c.bound_at.ensures c.bound_at-2.ensures in
    let ls = c.requires.0.1 in
    let rm = (table-in a.text a.w.now c.requires.0).room in
    let u = c.in_work-a.ensures in
    let v = c.in_work-e.ensures in
    ((omega (arith, u, v, p.0), omega (arith, u, ls.behind)), (omega (arith, v, p.1, ls.inside), omega (arith, v, p.1, rm)))

pub returns : goal.returns
returns c = let a = c.args in text_in a.text a.from _ _ _ _ a.count c.requires.0 c.requires.1 c.bound_at.ensures c.bound_at-2.ensures c.in_work-a.ensures c.in_work-e.ensures c.copy_back.ensures
