use native.Mathlib.Omega.{arith}
use mathlib.Core.Path.{◌∙◌}
use lib.Dec.{eqb}
use lib.ListN.{get_or}
use Rattle.quote_lines.proofs.Tabling.{counted, behind-byte, behind-end}
use Rattle.quote_lines.proofs.search.feeds_in.Goals as goal

pub overflow_add-feeds : goal.overflow_add-feeds
overflow_add-feeds c = let w = c.loop-i.invariant 0 in let b = (counted (eqb (get_or c.args.s.now c.loop-i.i 0) 10)).1 in omega (arith, w.most, w.inside, w.order, c.requires.1.1, c.from-feeds.ensures, c.loop-i-test.true, b)

pub loop-i-preserved : goal.loop-i-preserved
loop-i-preserved c = λ line. behind-byte (c.loop-i.invariant line) c.loop-i-test.true c.requires.1.0 (c.from-feeds.ensures ∙ (counted _).0)

pub returns : goal.returns
returns c = let l = c.loop-i in
    (λ line. (behind-end (l.invariant line) (omega arith)).0, let z = (behind-end (l.invariant 0) (omega arith)).1 in omega (arith, z))
