use mathlib.Core.Path.{◌∙◌}
use native.Mathlib.Nat.{zero-add}
use Rattle.attribution_losses.proofs.Losing.{listed-counts}
use Rattle.attribution_losses.proofs.loss.count_losses.Goals as goal

pub returns : goal.returns
returns c = let h = listed-counts _ c.put_losses.ensures.0 in (h.0 ∙ zero-add _, h.1 ∙ zero-add _)
