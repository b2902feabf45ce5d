use Rattle.std.proofs.Common.{arith, ◌≡◌, length, ◌∙◌}
use Rattle.text.proofs.Numbering.{numbered-turn, numbered-cut}
use lib.ListN.{length-set}
use Rattle.text.proofs.blank.number_part.Goals as goal

pub loop-j-preserved : goal.loop-j-preserved
loop-j-preserved c = let l = c.loop-j in
    (simp length-set (omega arith), rw c.post_code.ensures (l.invariant.1 ∙ numbered-turn _ _ l.j _ _ _ (omega arith) (omega arith) c.place_at-p.ensures))

pub returns : goal.returns
returns c = let l = c.loop-j in
    let s = c.args.s.now in
    let e : l.j ≡ length s = omega arith in
    (omega arith, omega arith, rw e at l.invariant.1 ∙ numbered-cut _ _ (length s) l.left (omega arith))
