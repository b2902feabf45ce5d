use Rattle.post_steps.proofs.Unchanged.{unquoted}
use Rattle.post_steps.proofs.plain.no_quotes.Goals as goal

pub returns : goal.returns
returns c h = unquoted c.args.s.now c.next_tag.result.0 c.next_tag.ensures h
