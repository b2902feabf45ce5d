use native.Mathlib.Omega.{arith}
use Rattle.text.proofs.Bytes.{stands-turn}
use Rattle.text.proofs.Characters.{lead}
use Rattle.text.proofs.blank.has_lead_16.Goals as goal

pub loop-k-preserved : goal.loop-k-preserved
loop-k-preserved c = let l = c.loop-k in
    stands-turn lead c.args.s.now c.args.i l.k l.has (omega arith) l.invariant
