use Rattle.std.proofs.Common.{arith, rules, refl}
use Rattle.text.proofs.Numbering.{written_start, written-turn, from_end}
use Rattle.text.proofs.Areas.{start_in, more_in, done_in}
use Rattle.text.proofs.area.put_text_in.Goals as goal

pub loop-i-init : goal.loop-i-init
loop-i-init c = (refl, refl, rw written_start (start_in _ _ _ _ _))

pub loop-i-preserved : goal.loop-i-preserved
loop-i-preserved c = let l = c.loop-i in
    (search rules, search rules, more_in l.invariant.2 (written-turn _ _ _ l.i _ (omega arith) c.place_at-p.ensures) c.put_in-to.ensures)

pub returns : goal.returns
returns c = let l = c.loop-i in
    done_in l.invariant.2 (from_end _ _ _ l.i _ (omega arith))
