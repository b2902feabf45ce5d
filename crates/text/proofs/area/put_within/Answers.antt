use Rattle.std.proofs.Common.{arith, rules, refl}
use Rattle.text.proofs.Areas.{WritingIn, start_in, more_in, done_in, within_text, within-text-start, within-text-end}
use Rattle.text.proofs.area.put_within.Goals as goal

pub loop-i-init : goal.loop-i-init
loop-i-init c = (refl, refl, rw within-text-start (start_in _ _ _ _ _))

pub loop-i-preserved : goal.loop-i-preserved
loop-i-preserved c = let l = c.loop-i in
    let w : WritingIn _ _ _ _ _ _ _ _ _ = l.invariant.2 in
    (search rules, search rules, more_in w (within_text _ _ _ l.i c.args.e w.wrote (λ q. let z = c.requires.0.1 q in omega (arith, z)) (omega arith) (omega (arith, c.requires.0.0, l.invariant.0)) c.place_at-p.ensures) c.put_in-to.ensures)

pub returns : goal.returns
returns c = let l = c.loop-i in
    done_in l.invariant.2 (within-text-end _ l.i c.args.e _ (omega arith))
