use Rattle.std.proofs.Common.{refl}
use Rattle.quote_steps.specs.Stack.{topmost}
use Rattle.quote_steps.proofs.stack.Stack.new.Goals as goal

pub returns : goal.returns
unfolding topmost
returns c = refl
