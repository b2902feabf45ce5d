use native.Mathlib.Omega.{arith}
use mathlib.Core.Path.{ap}
use Rattle.text.proofs.Writers.{Writing, writing-start, writing-more, writing-done, wrote-then, wrote-as, wrote-grows, part-after}
use Rattle.quote_blocks.specs.Quotes.{quoted_line}
use Rattle.quote_blocks.proofs.Blocks.{more-end}
use Rattle.quote_blocks.proofs.Kept.{kept-lines}
use Rattle.quote_blocks.proofs.content.put_more_lines.Goals as goal

pub loop-i-init : goal.loop-i-init
loop-i-init c = writing-start _ _

pub put_line-requires : goal.put_line-requires
put_line-requires c = let v : Writing _ _ _ _ = c.loop-i.invariant in
    let j = c.line_end-j.ensures in
    let p = wrote-then v.wrote c.put_feed.ensures in
    let g = wrote-grows p in
    (j.0, (omega (arith, j.1.0, c.requires.0, g), omega (arith, j.1.0, c.requires.1, p.same.end)))

pub loop-i-preserved : goal.loop-i-preserved
loop-i-preserved c = let v : Writing _ _ _ _ = c.loop-i.invariant in
    let i = c.loop-i.i in
    let j = c.line_end-j.ensures in
    let p = wrote-then v.wrote c.put_feed.ensures in
    writing-more v (kept-lines v.wrote.text i c.line_end-j.result.0 c.args.e.0 c.requires.0 j.1.0 j.1.1) (wrote-then c.put_feed.ensures (wrote-as (ap quoted_line (part-after p i c.line_end-j.result.0 (omega (arith, j.1.0, c.requires.0)))) c.put_line.ensures))

pub returns : goal.returns
returns c = writing-done c.loop-i.invariant (more-end _ c.loop-i.i _ (omega arith))
