use native.Mathlib.Omega.{arith}
use Prim.Native.Nat.{◌/◌}
use Rattle.day.specs.Day.{day_of}
use Rattle.day.proofs.Laws.{seconds-are, date-small}
use Rattle.day.proofs.write_day.Goals as goal

pub seconds_of-requires : goal.seconds_of-requires
seconds_of-requires c = seconds-are _ c.requires.0

pub iso-requires : goal.iso-requires
iso-requires c = let n = c.seconds_of.result / 86400 in
    let h = date-small n (let q = c.seconds_of.ensures.1 in omega arith) in
    let e = c.date_after.ensures in
    (rw e h.year, rw e h.month, rw e h.day)

pub returns : goal.returns
unfolding day_of
returns c = rw (c.copy_from_slice.ensures.after, c.iso.ensures, c.date_after.ensures, c.seconds_of.ensures.0)
