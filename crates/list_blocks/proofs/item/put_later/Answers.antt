use Rattle.text.proofs.Writers.{wrote-as}
use Rattle.list_blocks.proofs.ItemWriting.{later-empty}
use Rattle.list_blocks.proofs.Kept.{wrote-later}
use Rattle.list_blocks.proofs.item.put_later.Goals as goal

pub returns-then-a-e : goal.returns-then-a-e
returns-then-a-e c = wrote-later c.args.w.now c.args.width c.args.a.0 c.args.e.0 c.requires.1.0 c.if-a-e.true c.requires.1.1 c.put_feed.ensures c.put_blanks.ensures c.copy_within.ensures

pub returns-else-a-e : goal.returns-else-a-e
returns-else-a-e c = wrote-as (later-empty c.args.width c.args.a.0 c.args.e.0 _ c.if-a-e.false) c.put_feed.ensures
