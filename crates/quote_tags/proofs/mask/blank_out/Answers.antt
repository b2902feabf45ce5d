use Rattle.quote_tags.proofs.Masking.{blanked-by}
use Rattle.quote_tags.proofs.Moving.{moving, moving-on}
use Rattle.quote_tags.proofs.mask.blank_out.Goals as goal

pub loop-i-init : goal.loop-i-init
loop-i-init c = moving _ _ _ _ _ c.requires.1.0

pub loop-i-preserved : goal.loop-i-preserved
loop-i-preserved c = let l = c.loop-i in let p = c.requires in let y = blanked-by _ c.characters_by-t.ensures c.blank_for.ensures in moving-on l.invariant p.0 p.1.1 c.loop-i-test.true _ _ y
