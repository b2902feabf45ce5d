use native.Mathlib.Omega.{arith}
use Prim.Native.Nat.{◌+◌}
use Rattle.text.proofs.Areas.{lifts}
use Rattle.text.proofs.Writers.{wrote-then, wrote-by, text-on, wrote-grows}
use Rattle.quote_blocks.proofs.Blocks.{lines_none}
use Rattle.quote_blocks.proofs.Kept.{lines-first-in}
use Rattle.quote_blocks.proofs.content.put_lines.Goals as goal

pub returns-then-a-e : goal.returns-then-a-e
returns-then-a-e c = let p = c.put_sign.ensures in
    wrote-by p (lifts p.text (lines_none _ c.args.a.0 c.args.e.0 (omega arith) p.text.appends))

pub put_more_lines-requires : goal.put_more_lines-requires
put_more_lines-requires c = let p = c.put_line.ensures in
    let g = wrote-grows p in
    (omega (arith, c.requires.1.0, g), omega (arith, c.requires.1.1, p.same.end))

pub returns : goal.returns
returns c = let p = c.put_line.ensures in
    wrote-by (wrote-then p c.put_more_lines.ensures) (lines-first-in c.args.a.0 c.args.e.0 c.requires.1.0 c.line_end-j.result.0 (c.line_end-j.result.0 + 1) c.line_end-j.ensures.1.1 p.text (text-on p c.put_more_lines.ensures))
