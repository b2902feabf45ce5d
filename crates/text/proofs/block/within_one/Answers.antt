use Rattle.std.proofs.Common.{arith}
use Rattle.text.proofs.Blocks.{copying, copying-on, copying-end, copying-apart}
use mathlib.Core.Path.{◌∙◌}
use Rattle.text.proofs.block.within_one.Goals as goal

pub loop-from-init : goal.loop-from-init
loop-from-init g c = copying _ _ _ _ _ c.requires.0.0

pub loop-from-preserved : goal.loop-from-preserved
loop-from-preserved g c =
    let l = c.loop-from in
    let p = c.requires in
    let t = c.loop-from-test.true in
    rw c.write_16.ensures (copying-on l.invariant p.1.0 t p.0.1 (c.read_16-block.ensures ∙ copying-apart l.invariant (omega (arith, p.1.0)) t p.1.1))

pub returns : goal.returns
returns g c = copying-end c.loop-from.invariant c.requires.1.0 (omega (arith, c.loop-from-test.false)) c.requires.0.0 (omega (arith, c.requires.0.1))
