use Rattle.std.proofs.Common.{sym, ◌∙◌}
use Rattle.quote_steps.proofs.Stacking.{topmost-pop}
use Rattle.quote_steps.specs.Stack.{topmost}
use Rattle.quote_steps.proofs.stack.Stack.pop.Goals as goal

pub returns-then-self-eq0 : goal.returns-then-self-eq0
unfolding topmost
returns-then-self-eq0 c = let e = rw c.if-self-eq0.true at c.self.view_is in (sym e, sym e)

pub returns : goal.returns
returns c = sym c.self.view_is ∙ topmost-pop c.self.inside.depth c.self.inside.places c.if-self-eq0.false
