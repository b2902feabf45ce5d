use native.Mathlib.Omega.{arith}
use Prim.Native.Nat.{◌≤◌}
use lib.ListN.{length}
use Rattle.quote_steps.proofs.Joining.{joined_is, block-built, area-unjoined}
use Rattle.quote_steps.proofs.Within.{built-full}
use Rattle.attribution.proofs.Speaking.{spoken-there}
use lib.Seq.{length-take-le}
use Rattle.quote_steps.proofs.close.Memory.build_block.Goals as goal

pub returns-then-self-past-clause-block : goal.returns-then-self-past-clause-block
returns-then-self-past-clause-block c = let x = c.args in
    let s = x.self.now in
    let L = s.lent in
    let l = length-take-le s.areas.text.0 s.work.now (omega (arith, L)) in
    let E = rw c.text.ensures at c.attribution_of-name.ensures in
    let hb : c.attribution_of-name.result.to.0 ≤ s.areas.text.0 = omega (arith, l, E.0.1) in
    let J = c.join_texts-past.ensures in
    let he : s.areas.text.0 ≤ s.areas.top.0 = omega (arith, L) in
    let hv : s.areas.top.0 ≤ length s.work.now = omega (arith, L) in
    built-full J.keeps L.1.1.1.0 (area-unjoined s.work.now s.areas.text.0 s.areas.top.0 x.quote.tag.0 _ _ E.0.0 hb he hv E.1 J _ s.numbers.now s.areas.end.0 18446744073709551615 (omega (arith, J.size, c.if-self-past.true)) L.1.0.0 L.1.0.1 L.1.1.1.0 (omega (arith, L.1.1.1.1)))

pub put_block-requires : goal.put_block-requires
put_block-requires c = let x = c.args in
    let s = x.self.now in
    let L = s.lent in
    let p = c.requires.1 in
    let l = length-take-le s.areas.text.0 s.work.now (omega (arith, L)) in
    let E = rw c.text.ensures at c.attribution_of-name.ensures in
    let hb : c.attribution_of-name.result.to.0 ≤ s.areas.text.0 = omega (arith, l, E.0.1) in
    let J = c.join_texts-past.ensures in
    let he : s.areas.text.0 ≤ s.areas.top.0 = omega (arith, L) in
    let hv : s.areas.top.0 ≤ length s.work.now = omega (arith, L) in
    let k : c.join_texts-past.result ≤ length s.work.now = omega (arith, J.size, c.if-self-past.false) in record {
      reach = (omega (arith, J.size, L), L.1.0.1);
      content = (p.1.0, (p.1.1, omega (arith, p.1.1, L)));
      spoken = spoken-there _ _ _ E.0.0 (omega (arith, hb, L)) L.1.1.1.0 (omega (arith, J.end)) (omega (arith, k, J.size)) (joined_is s.work.now s.areas.text.0 s.areas.top.0 x.quote.tag.0 _ _ E.0.0 hb he hv E.1 J k);
    }

pub returns-clause-block : goal.returns-clause-block
returns-clause-block c = let x = c.args in
    let s = x.self.now in
    let L = s.lent in
    let l = length-take-le s.areas.text.0 s.work.now (omega (arith, L)) in
    let E = rw c.text.ensures at c.attribution_of-name.ensures in
    let hb : c.attribution_of-name.result.to.0 ≤ s.areas.text.0 = omega (arith, l, E.0.1) in
    let J = c.join_texts-past.ensures in
    let he : s.areas.text.0 ≤ s.areas.top.0 = omega (arith, L) in
    let hv : s.areas.top.0 ≤ length s.work.now = omega (arith, L) in
    block-built s.work.now s.areas.text.0 s.areas.top.0 x.quote.tag.0 _ _ E.0.0 hb he hv E.1 J s.numbers.now x.quote.start.0 x.to.0 s.areas.end.0 (omega (arith, c.requires.1.1.1, L)) L.1.1.1.0 c.put_block.ensures
