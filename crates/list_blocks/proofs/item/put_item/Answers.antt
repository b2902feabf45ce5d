use Rattle.list_blocks.proofs.Kept.{wrote-item}
use Rattle.list_blocks.proofs.item.put_item.Goals as goal

pub returns : goal.returns
returns c = wrote-item c.args.w.now c.marker_width.result c.args.a.0 c.args.e.0 c.requires.1.0 _ c.marker_width.ensures c.requires.0 c.requires.1.1 c.put_marker.ensures c.put_lines.ensures
