use native.Mathlib.Omega.{arith}
use Rattle.text.proofs.Areas.{lifts}
use Rattle.text.proofs.Writers.{wrote-then, wrote-by, text-on, wrote-grows}
use Rattle.quote_blocks.proofs.Blocks.{line-blank}
use Rattle.quote_blocks.proofs.Kept.{line-other-in}
use Rattle.quote_blocks.proofs.content.put_line.Goals as goal

pub returns-then-blank : goal.returns-then-blank
returns-then-blank c = let p = c.put_sign.ensures in
    wrote-by p (lifts p.text (line-blank _ p.text.appends c.all_blank-blank.ensures c.if-blank.true))

pub copy_within-requires : goal.copy_within-requires
copy_within-requires c = let p = wrote-then c.put_sign.ensures c.put_space.ensures in
    let g = wrote-grows p in
    (c.requires.0, (omega (arith, c.requires.1.0, g), omega (arith, c.requires.1.1, p.same.end)))

pub returns : goal.returns
returns c = let p = c.put_sign.ensures in
    let q = wrote-then p c.put_space.ensures in
    wrote-by (wrote-then q c.copy_within.ensures) (line-other-in c.args.a.0 c.args.e.0 c.requires.1.0 c.all_blank-blank.ensures c.if-blank.false p.text (text-on p c.put_space.ensures) (text-on q c.copy_within.ensures))
