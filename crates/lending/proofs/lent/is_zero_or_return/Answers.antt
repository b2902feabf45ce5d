use mathlib.Core.Path.{refl}
use Rattle.lending.specs.Lent.{zero_or_return}
use Rattle.lending.proofs.lent.is_zero_or_return.Goals as goal

pub returns : goal.returns
unfolding zero_or_return
returns c = refl
