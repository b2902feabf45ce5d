use Rattle.marks.proofs.NoTags.{untagged}
use Rattle.marks.proofs.untagged.is_untagged.Goals as goal

pub returns : goal.returns
returns c h = untagged c.args.text.now c.next_byte-next.result.0 c.next_byte-next.ensures h
