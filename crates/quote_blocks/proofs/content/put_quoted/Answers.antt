use native.Mathlib.Omega.{arith}
use Rattle.text.proofs.Writers.{wrote-then, wrote-by, text-on, wrote-grows}
use Rattle.quote_blocks.proofs.Kept.{quoted-in}
use Rattle.quote_blocks.proofs.content.put_quoted.Goals as goal

pub put_lines-requires : goal.put_lines-requires
put_lines-requires c = let t = c.trim_end-end.ensures in
    let p = wrote-then c.put_feed.ensures c.put_feed-2.ensures in
    let g = wrote-grows p in
    (t.0, (omega (arith, t.1.0, c.requires.1.0, g), omega (arith, t.1.0, c.requires.1.1, p.same.end)))

pub returns : goal.returns
returns c = let t = c.trim_end-end.ensures in
    let p = c.put_feed.ensures in
    let q = wrote-then p c.put_feed-2.ensures in
    wrote-by (wrote-then q c.put_lines.ensures) (quoted-in c.args.a.0 c.args.e.0 c.requires.1.0 c.trim_start-start.result.0 c.trim_end-end.result.0 t.1.0 c.trim_start-start.ensures.1.1 t.1.1 p.text (text-on p c.put_feed-2.ensures) (text-on q c.put_lines.ensures))
