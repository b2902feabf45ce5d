use native.Mathlib.Omega.{arith}
use mathlib.Core.Path.{◌∙◌}
use Rattle.post.proofs.Calling.{quotable-room, stays-taken, quoting-with}
use Rattle.post.proofs.Leaving.{left-ends}
use Rattle.post.proofs.quoted.write_noted.Goals as goal

pub overflow_mul-losses : goal.overflow_mul-losses
overflow_mul-losses c = let Q = c.requires.0 in let h = quotable-room Q in omega (arith, h, Q.room, Q.small)

pub move_front-requires : goal.move_front-requires
move_front-requires c = let Q = c.requires.0 in let h = quotable-room Q in omega (arith, h, Q.room, c.lay_quotes-laid.auto.numbers)

pub returns : goal.returns
returns c = let x = c.args in
    let q = c.lay_quotes-laid in
    (rw (quoting-with _ _ _ _) (left-ends x.losses _ _ _ q.ensures.0 q.auto.out q.auto.origins c.requires.1 c.leave.ensures), c.move_front.ensures ∙ stays-taken x.records.0 _ _ _ q.ensures.1)
