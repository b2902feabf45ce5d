use native.Mathlib.Omega.{arith}
use mathlib.Core.Path.{sym, ◌∙◌}
use Rattle.quote_tags.proofs.Masking.{seek, seek-here, seek-on, seek-end}
use Rattle.quote_tags.proofs.mask.next_closer.Goals as goal

pub loop-i-init : goal.loop-i-init
loop-i-init c = seek _ _ _ c.requires

pub returns-then-begins_either : goal.returns-then-begins_either
returns-then-begins_either c = let l = c.loop-i in seek-here _ _ _ l.i l.invariant c.loop-i-test.true (sym c.begins_either.ensures ∙ c.if-begins_either.true)

pub loop-i-preserved : goal.loop-i-preserved
loop-i-preserved c = let l = c.loop-i in seek-on _ _ _ l.i l.invariant c.loop-i-test.true (sym c.begins_either.ensures ∙ c.if-begins_either.false)

pub returns : goal.returns
returns c = let l = c.loop-i in let z = seek-end _ _ _ _ l.invariant (omega arith) in omega (arith, z)
