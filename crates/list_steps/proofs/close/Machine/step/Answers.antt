use native.Mathlib.Omega.{arith}
use mathlib.Core.List.{[]}
use Rattle.list_steps.proofs.Steppings.{ready-base, ready-first, room_of_lem}
use Rattle.list_steps.proofs.close.Machine.step.Goals as goal

pub open_list-requires : goal.open_list-requires
open_list-requires c = let p = c.requires in
    let f = ready-first _ _ _ _ _ _ _ _ _ p.0 in
    let w = p.0.within in
    (omega (arith, p.0.fits, w.1.0, w.1.1), (omega (arith, f, w.1.1), (room_of_lem _ _ c.in-Opener.is 0 0 _ _ p.1.1.0, w.1.1)))

pub returns-in-Opener : goal.returns-in-Opener
returns-in-Opener c = let p = c.requires in
    let o = c.open_list.ensures in
    let b = ready-base _ _ _ _ _ _ _ _ _ p.0 in
    let r = p.0.holds.reaches in
    let q = o.0 0 c.args.areas _ [] p.0.fits p.0.within.0 (omega (arith, b, p.0.fits, p.0.holds.apart, r.0)) r.0 in
    rw c.in-Opener.is (q.0, omega (arith, o.1), q.1)
