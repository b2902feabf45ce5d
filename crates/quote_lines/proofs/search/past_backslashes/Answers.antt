use borrow.Author.Rules.{rules}
use lib.Dec.{eqb}
use mathlib.Core.Bool.{not}
use Rattle.quote_lines.proofs.Bared.{past-first}
use Rattle.quote_lines.proofs.search.past_backslashes.Goals as goal

pub returns : goal.returns
returns c = past-first c.args.s.now c.args.at c.requires (c.first_from.ensures.first (λ b. not (eqb b 92)) (λ b t p. search rules))
