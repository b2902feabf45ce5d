use mathlib.Core.Path.{◌∙◌}
use Rattle.text.proofs.Clearing.{fill_cleared_all, cleared-all}
use Rattle.text.proofs.write.lay_nothing.Goals as goal

pub returns : goal.returns
returns c = record { text = fill_cleared_all _ _ c.fill.ensures.after ∙ cleared-all _; from = fill_cleared_all _ _ c.fill-2.ensures.after ∙ cleared-all _ }
