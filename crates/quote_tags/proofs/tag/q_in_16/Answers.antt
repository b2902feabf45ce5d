use lib.ListN.{get_or}
use Rattle.quote_tags.specs.Tags.{NoQ}
use Rattle.quote_tags.proofs.Places.{between_none, between-turn}
use Rattle.quote_tags.proofs.tag.q_in_16.Goals as goal

pub loop-k-init : goal.loop-k-init
loop-k-init c = λ _. between_none _ _

pub loop-k-preserved : goal.loop-k-preserved
loop-k-preserved c = let l = c.loop-k in
    let a = c.args in
    between-turn (λ j. NoQ (get_or a.s.now j 0)) a.i l.k l.stands _ l.invariant (λ q. q)
