use Rattle.std.proofs.Common.{List, ◌∷◌, arith, rules, ap, ◌∙◌}
use Rattle.quote_steps.specs.declared.stack.Opened.{Opened}
use Rattle.quote_steps.proofs.Stacking.{depth-below, topmost-push}
use Rattle.quote_steps.proofs.stack.Stack.push.Goals as goal

pub bounds-self-inside-self-inside : goal.bounds-self-inside-self-inside
bounds-self-inside-self-inside c = depth-below _ _ c.self.view_is c.requires

pub invariant_of-self : goal.invariant_of-self
invariant_of-self c = omega (arith, depth-below _ _ c.self.view_is c.requires)

pub returns : goal.returns
returns c = let h = depth-below _ _ c.self.view_is c.requires in
    topmost-push c.self.inside.depth c.self.inside.places c.args.quote (search rules) ∙ ap (λ (os : List Opened). c.args.quote ∷ os) c.self.view_is
