use native.Mathlib.Omega.{arith}
use mathlib.Core.Path.{◌∙◌}
use Rattle.quote_lines.proofs.Finding.{found, failed, line-there}
use Rattle.quote_lines.proofs.search.Tags.line_of.Goals as goal

pub returns-then-i-self : goal.returns-then-i-self
returns-then-i-self c = let i = c.find-i in
    found _ _ _ i.ensures (omega (arith, c.args.self.table.all)) (c.args.self.table.each i.result (omega arith)).line-is

pub returns-else-i-self : goal.returns-else-i-self
returns-else-i-self c = failed _ _ _ c.find-i.ensures (omega (arith, c.args.self.table.all)) (c.line.ensures ∙ line-there _ _ _ _ _ c.args.self.table)
