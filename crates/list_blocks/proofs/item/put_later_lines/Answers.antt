use native.Mathlib.Omega.{arith}
use Rattle.text.proofs.Writers.{writing-start}
use Rattle.list_blocks.proofs.Kept.{wrote-line, wrote-lines}
use Rattle.list_blocks.proofs.item.put_later_lines.Goals as goal

pub loop-i-init : goal.loop-i-init
loop-i-init c = writing-start _ _

pub loop-i-preserved : goal.loop-i-preserved
loop-i-preserved c = wrote-line c.args.w.now c.loop-i.w c.args.width c.loop-i.i _ _ c.args.e.0 c.requires.0 c.line_at.ensures c.loop-i.invariant c.put_later.ensures

pub returns : goal.returns
returns c = wrote-lines _ c.loop-i.i _ _ (omega arith) c.loop-i.invariant
