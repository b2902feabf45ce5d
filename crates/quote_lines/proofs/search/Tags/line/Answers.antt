use Rattle.quote_lines.proofs.Finding.{line-none, line-some}
use Rattle.quote_lines.proofs.search.Tags.line.Goals as goal

pub returns-then-self-eq0 : goal.returns-then-self-eq0
returns-then-self-eq0 c = line-none _ _ _ _ c.if-self-eq0.true

pub returns-else-self-eq0 : goal.returns-else-self-eq0
returns-else-self-eq0 c = line-some _ _ _ _ c.if-self-eq0.false c.min.ensures
