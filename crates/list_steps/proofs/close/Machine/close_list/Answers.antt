use borrow.Author.Rules.{rules}
use native.Mathlib.Omega.{arith}
use mathlib.Core.Path.{ap}
use mathlib.Core.Bool.{not}
use Rattle.list_steps.proofs.Closes.{ready-framed, ready-start}
use Rattle.list_steps.proofs.Within.{left, closes-full-in, closes-done-in}
use Rattle.list_steps.proofs.Outside.{stays_then, stays-appends}
use Rattle.list_steps.proofs.close.Machine.close_list.Goals as goal

pub frame_at-frame-requires : goal.frame_at-frame-requires
frame_at-frame-requires c = let p = c.requires in
    let fr = ready-framed _ _ _ _ _ _ _ _ _ p.0 p.1.0 in
    (omega (arith, fr.inner.1, fr.fits.1.1), fr.short)

pub put_closing-requires : goal.put_closing-requires
put_closing-requires c = let p = c.requires in
    (ready-framed _ _ _ _ _ _ _ _ _ p.0 p.1.0, ((p.0.fits, omega arith), p.1.1.0.1))

pub returns-then-built-limit : goal.returns-then-built-limit
returns-then-built-limit c = let p = c.requires in
    let fr = ready-framed _ _ _ _ _ _ _ _ _ p.0 p.1.0 in
    let f = c.frame_at-frame.ensures in
    let z = p.1.1 in
    let r = p.0.holds.reaches in
    let a = c.copy_back-self.ensures in
    let b = ready-start _ _ _ _ _ _ _ _ _ p.0 p.1.0 in
    rw f.outer-is (
      (
        closes-done-in p.0 p.1.0 z.0.1 (omega (arith, z.0.0)) z.1.0 (omega (arith, z.0.1, r)) (omega arith) (search rules) (left c.put_closing.ensures (search rules) (search rules)) _ (ap not f.second-is) _ _ _ (search rules) c.if-built-limit.true (rw f.lead-is at a),
        omega (arith, fr.inner.1),
        stays_then (stays-appends z.0.0 (omega arith) (left c.put_closing.ensures (search rules) (search rules))) (stays-appends b (omega arith) (rw f.lead-is at a)),
      ),
      omega (arith, fr.inner.1),
    )

pub returns-else-built-limit : goal.returns-else-built-limit
returns-else-built-limit c = let p = c.requires in
    let fr = ready-framed _ _ _ _ _ _ _ _ _ p.0 p.1.0 in
    let f = c.frame_at-frame.ensures in
    let z = p.1.1 in
    let r = p.0.holds.reaches in
    rw f.outer-is (
      (
        closes-full-in p.0 p.1.0 z.0.1 (omega (arith, z.0.0)) z.1.0 (omega (arith, z.0.1, r)) (search rules) (search rules) (left c.put_closing.ensures (search rules) (search rules)) _ (ap not f.second-is) 18446744073709551615 c.if-built-limit.false
            (omega (arith, p.0.within.1.0, p.0.within.1.1)),
        omega (arith, fr.inner.1),
        stays-appends z.0.0 (omega arith) (left c.put_closing.ensures (search rules) (search rules)),
      ),
      omega (arith, fr.inner.1),
    )
