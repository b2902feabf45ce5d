use native.Mathlib.Omega.{arith}
use mathlib.Core.Path.{refl, ◌∙◌}
use Rattle.text.proofs.Clearing.{fill_cleared}
use Rattle.post.proofs.Leaving.{cleared-within}
use Rattle.post.proofs.leave.leave.Goals as goal

pub returns-in-Ok : goal.returns-in-Ok
returns-in-Ok c = rw c.in-Ok.is (refl, (refl, (refl, fill_cleared _ _ _ (omega arith) c.fill.ensures.after ∙ cleared-within c.args.losses.bytes c.args.loss_bytes.now c.min-from.ensures)))
