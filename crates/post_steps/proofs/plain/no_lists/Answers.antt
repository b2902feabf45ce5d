use Rattle.post_steps.proofs.Unchanged.{unlisted}
use Rattle.post_steps.proofs.plain.no_lists.Goals as goal

pub returns : goal.returns
returns c h = unlisted c.args.s.now c.next_opener.result.0 c.next_opener.ensures h
