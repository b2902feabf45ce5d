use native.Mathlib.Omega.{arith}
use Rattle.quote_tags.proofs.Moving.{moved_none, moved-within}
use Rattle.quote_tags.proofs.mask.move_down.Goals as goal
use Rattle.quote_tags.proofs.mask.move_down.Goals.{then-to-a, else-to-a}

pub returns : goal.returns
returns c = let x = c.args in
    let p = c.requires in
    elim c.if-to-a.branch [
      | then-to-a w ↦ rw (w.buf-is, w.copy_within.ensures.after) (moved-within x.buf.now x.a x.e x.to p.0 p.1.0 p.1.1)
      | else-to-a w ↦ rw w.buf-is (moved_none x.buf.now x.a x.e x.to (omega (arith, w.if-to-a.false, p.0)) p.1.0)
    ]
