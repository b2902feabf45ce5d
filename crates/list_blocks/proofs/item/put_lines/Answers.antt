use Rattle.list_blocks.proofs.Kept.{wrote-first}
use Rattle.list_blocks.proofs.item.put_lines.Goals as goal

pub returns : goal.returns
returns c = wrote-first c.args.w.now c.args.width c.args.a.0 c.args.e.0 c.requires.1.0 _ _ c.line_at.ensures c.copy_within.ensures c.put_later_lines.ensures
