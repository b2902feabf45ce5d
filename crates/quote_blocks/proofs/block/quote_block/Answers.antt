use Rattle.attribution.proofs.Speaking.{spoken-after}
use Rattle.text.proofs.Writers.{wrote-then, wrote-by, text-on}
use Rattle.quote_blocks.proofs.Kept.{block_in}
use Rattle.quote_blocks.proofs.block.quote_block.Goals as goal

pub put_caption_line-requires : goal.put_caption_line-requires
put_caption_line-requires c = spoken-after c.put_quoted.ensures c.requires.1

pub returns : goal.returns
returns c = let p = c.put_quoted.ensures in
    let q = wrote-then p c.put_caption_line.ensures in
    let r = wrote-then q c.put_feed.ensures in
    wrote-by (wrote-then r c.put_feed-2.ensures) (block_in _ c.requires.1 p.text (text-on p c.put_caption_line.ensures) (text-on q c.put_feed.ensures) (text-on r c.put_feed-2.ensures))
