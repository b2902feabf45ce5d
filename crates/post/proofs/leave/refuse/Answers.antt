use mathlib.Core.Path.{refl}
use Rattle.text.proofs.Clearing.{fill_cleared_all}
use Rattle.post.proofs.Calling.{filled-none}
use Rattle.post.proofs.leave.refuse.Goals as goal

pub returns : goal.returns
returns c = (refl, filled-none c.args.loss_bytes.now c.lay_nothing.ensures refl (fill_cleared_all _ _ c.fill.ensures.after))
