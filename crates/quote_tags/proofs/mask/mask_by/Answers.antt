use native.Mathlib.Omega.{arith}
use mathlib.Core.Path.{refl, sym, ◌∙◌}
use lib.Seq.{length-take-le}
use Rattle.quote_tags.proofs.Tagging.{sized-some, sized-none}
use Rattle.quote_tags.proofs.Masking.{begin, bracket-now, closer-now, known, finished}
use Rattle.quote_tags.proofs.Moving.{run_inside, region-inside, moved, moved-one, blanked-out, size-now}
use Rattle.quote_tags.proofs.mask.mask_by.Goals as goal

pub slice_bounds-next_bracket-end : goal.slice_bounds-next_bracket-end
slice_bounds-next_bracket-end c = c.requires.0

pub slice_bounds-next_bracket-end-2 : goal.slice_bounds-next_bracket-end-2
slice_bounds-next_bracket-end-2 c = let a = c.args in sym (length-take-le a.n a.buf.now c.requires.0)

pub next_bracket-bracket-requires : goal.next_bracket-bracket-requires
next_bracket-bracket-requires c = omega arith

pub loop-i-init : goal.loop-i-init
loop-i-init c = let a = c.args in begin _ a.buf.now a.n _ c.next_bracket-bracket.ensures

pub slice_bounds-next_opener-end : goal.slice_bounds-next_opener-end
slice_bounds-next_opener-end c = omega (arith, c.loop-i.invariant.same, c.requires.0)

pub slice_bounds-next_opener-end-in-loop-i : goal.slice_bounds-next_opener-end-in-loop-i
slice_bounds-next_opener-end-in-loop-i c = sym (size-now c.loop-i.invariant c.requires.0)

pub next_opener-next-requires : goal.next_opener-next-requires
next_opener-next-requires c = let k = size-now c.loop-i.invariant c.requires.0 in omega (arith, k, c.loop-i-test.true)

pub move_down-to-requires : goal.move_down-to-requires
move_down-to-requires c = let l = c.loop-i in let p = c.requires in let r = run_inside l.invariant p.0 p.1 c.next_opener-next.ensures in (l.invariant.order, (r.0, omega (arith, r.1, l.invariant.same, p.0)))

pub shape_of-buf-then-n-i : goal.shape_of-buf-then-n-i
shape_of-buf-then-n-i c = c.move_down-to.auto.buf ∙ c.loop-i.invariant.same

pub returns-then-n-i : goal.returns-then-n-i
returns-then-n-i c = let p = c.requires in let d = c.move_down-to in let w = moved c.loop-i.invariant p.0 p.1 c.next_opener-next.ensures d.ensures d.auto.buf in finished w c.if-n-i.true p.0

pub slice_bounds-region_at-end : goal.slice_bounds-region_at-end
slice_bounds-region_at-end c = let p = c.requires in let d = c.move_down-to in let w = moved c.loop-i.invariant p.0 p.1 c.next_opener-next.ensures d.ensures d.auto.buf in omega (arith, w.same, p.0)

pub slice_bounds-region_at-end-in-loop-i : goal.slice_bounds-region_at-end-in-loop-i
slice_bounds-region_at-end-in-loop-i c = let p = c.requires in let d = c.move_down-to in let w = moved c.loop-i.invariant p.0 p.1 c.next_opener-next.ensures d.ensures d.auto.buf in sym (size-now w p.0)

pub region_at-here-requires : goal.region_at-here-requires
region_at-here-requires c = let p = c.requires in let d = c.move_down-to in let w = moved c.loop-i.invariant p.0 p.1 c.next_opener-next.ensures d.ensures d.auto.buf in let k = size-now w p.0 in (omega (arith, k, c.if-n-i.false), (bracket-now w, closer-now w))

pub overflow_add-i : goal.overflow_add-i
overflow_add-i c = let p = c.requires in let d = c.move_down-to in let w = moved c.loop-i.invariant p.0 p.1 c.next_opener-next.ensures d.ensures d.auto.buf in let r = c.region_at-here.ensures in let k = sized-some r.0 c.in-Some.is in let h = region-inside w p.0 k.0 in omega (arith, h, p.0)

pub blank_out-to-requires : goal.blank_out-to-requires
blank_out-to-requires c = let p = c.requires in let d = c.move_down-to in let w = moved c.loop-i.invariant p.0 p.1 c.next_opener-next.ensures d.ensures d.auto.buf in let r = c.region_at-here.ensures in let k = sized-some r.0 c.in-Some.is in let h = region-inside w p.0 k.0 in (w.order, (omega arith, omega (arith, h, w.same, p.0)))

pub overflow_add-i-in-Some : goal.overflow_add-i-in-Some
overflow_add-i-in-Some c = let p = c.requires in let d = c.move_down-to in let w = moved c.loop-i.invariant p.0 p.1 c.next_opener-next.ensures d.ensures d.auto.buf in let r = c.region_at-here.ensures in let k = sized-some r.0 c.in-Some.is in let h = region-inside w p.0 k.0 in omega (arith, h, p.0)

pub loop-i-smaller-in-Some : goal.loop-i-smaller-in-Some
loop-i-smaller-in-Some c = let p = c.requires in let k = sized-some c.region_at-here.ensures.0 c.in-Some.is in let r = run_inside c.loop-i.invariant p.0 p.1 c.next_opener-next.ensures in omega (arith, r.0, c.if-n-i.false, k.1)

pub loop-i-preserved-in-Some : goal.loop-i-preserved-in-Some
loop-i-preserved-in-Some c = let p = c.requires in let d = c.move_down-to in let w = moved c.loop-i.invariant p.0 p.1 c.next_opener-next.ensures d.ensures d.auto.buf in let r = c.region_at-here.ensures in let k = sized-some r.0 c.in-Some.is in let v = known w (λ _. r.1.0) r.1.1 in let m = c.blank_out-to in blanked-out v p.0 k.0 k.1 m.ensures m.auto.buf

pub loop-i-smaller : goal.loop-i-smaller
loop-i-smaller c = let p = c.requires in let r = run_inside c.loop-i.invariant p.0 p.1 c.next_opener-next.ensures in omega (arith, r.0, c.if-n-i.false)

pub loop-i-preserved : goal.loop-i-preserved
loop-i-preserved c = let p = c.requires in let d = c.move_down-to in let w = moved c.loop-i.invariant p.0 p.1 c.next_opener-next.ensures d.ensures d.auto.buf in let r = c.region_at-here.ensures in let z = sized-none r.0 c.in-None.is in let v = known w (λ _. r.1.0) r.1.1 in let m = c.move_down-to-in-None in moved-one v p.0 (sym z) (omega (arith, c.if-n-i.false)) refl m.ensures m.auto.buf

pub returns : goal.returns
returns c = finished c.loop-i.invariant (omega arith) c.requires.0
