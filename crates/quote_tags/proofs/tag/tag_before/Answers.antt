use native.Mathlib.Omega.{arith}
use lib.ListN.{drop}
use Rattle.quote_tags.specs.Tags.{NoTag}
use Rattle.quote_tags.proofs.Places.{between-one}
use Rattle.quote_tags.proofs.Plain.{run-to-bracket}
use Rattle.quote_tags.proofs.tag.tag_before.Goals as goal

pub returns-then-e-k : goal.returns-then-e-k
returns-then-e-k c = let r = run-to-bracket c.args.s.now c.loop-i.invariant.1 c.loop-i.invariant.0.1 c.requires.1 c.next_byte-k.ensures in
    ((omega (arith, c.loop-i.invariant.0, r.0), r.0.1), r.1)

pub loop-i-preserved : goal.loop-i-preserved
loop-i-preserved c = let r = run-to-bracket c.args.s.now c.loop-i.invariant.1 c.loop-i.invariant.0.1 c.requires.1 c.next_byte-k.ensures in
    let a = c.args in
    ((omega (arith, c.loop-i.invariant.0, r.0), omega (arith, c.if-e-k.false)), between-one (λ j. NoTag (drop j a.s.now)) a.at _ r.1 (c.may_begin.ensures c.if-may_begin.false))
