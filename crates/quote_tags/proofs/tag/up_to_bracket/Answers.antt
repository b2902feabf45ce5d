use native.Mathlib.Omega.{arith}
use Rattle.quote_tags.proofs.Tagging.{up-to-here, up-to-none}
use Rattle.quote_tags.proofs.tag.up_to_bracket.Goals as goal

pub returns-then-bracket-s : goal.returns-then-bracket-s
returns-then-bracket-s c = up-to-here c.args.s.now c.args.at.0 c.args.bracket.0 c.requires.0 c.requires.1 (omega arith)

pub returns-else-bracket-s : goal.returns-else-bracket-s
returns-else-bracket-s c = up-to-none c.args.s.now c.args.at.0 c.args.bracket.0 c.requires.0 c.requires.1 (omega arith)
