use borrow.Author.Rules.{rules}
use native.Mathlib.Omega.{arith}
use native.Mathlib.Decide.{dec_le}
use Prim.Native.Nat.{◌<◌}
use lib.ListN.{length}
use Rattle.quote_tags.proofs.Places.{between_none}
use Rattle.quote_tags.proofs.Plain.{run_past}
use Rattle.quote_tags.proofs.tag.next_tag.Goals as goal

pub loop-i-init : goal.loop-i-init
loop-i-init c = ((search rules, search rules), between_none _ _)

pub returns-then-k-e : goal.returns-then-k-e
returns-then-k-e c = let l = c.loop-i in
    let s = c.args.s.now in
    let p = c.past_16s-j.ensures in
    let e = c.block_end-e.ensures in
    let b = c.two_back.ensures in
    let t = c.tag_before-k.ensures in
    ((omega (arith, l.invariant.0, b.0, t.0), omega (arith, e.0, t.0)), run_past s l.invariant.1 p.1 b.1 t.1)

pub loop-i-smaller : goal.loop-i-smaller
loop-i-smaller c = let p = c.past_16s-j in
    let e = c.block_end-e.ensures in
    let n = length c.args.s.now in
    elim (dec_le n p.result) [
      | yes h ↦ omega (arith, h, p.ensures.0, e.0)
      | no h ↦ let g : p.result < n = omega (arith, h) in let f = e.1 g in omega (arith, f, p.ensures.0, e.0)
    ]

pub loop-i-preserved : goal.loop-i-preserved
loop-i-preserved c = let l = c.loop-i in
    let s = c.args.s.now in
    let p = c.past_16s-j.ensures in
    let e = c.block_end-e.ensures in
    let b = c.two_back.ensures in
    let t = c.tag_before-k.ensures in
    ((omega (arith, l.invariant.0, p.0, e.0), e.0.1), λ j h g. run_past s l.invariant.1 p.1 b.1 t.1 j h (omega (arith, g, c.if-k-e.false)))

pub returns : goal.returns
returns c = c.loop-i.invariant
