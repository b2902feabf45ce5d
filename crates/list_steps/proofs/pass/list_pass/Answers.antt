use borrow.Author.Rules.{rules}
use native.Mathlib.Omega.{arith}
use mathlib.Core.Path.{◌≡◌, refl, sym, ap, ◌∙◌}
use Prim.Native.Nat.{◌+◌}
use mathlib.Core.List.{List}
use lib.ListN.{take}
use Rattle.text.specs.Cells.{Cell, cells, part}
use Rattle.list_blocks.specs.Tags.{tokens, deeper}
use Rattle.list_steps.proofs.Depths.{deep-start, deep-over, deep-goes, deep-end}
use Rattle.list_steps.proofs.Runs.{base-within, room, part-before, before-length, running-start, running-end, running-ready, turn-size, turn-reads, turn-left, turn-pushes, turn-goes, turn-over, passes-stopped, passes-deep, passes-ends}
use Rattle.list_steps.proofs.Outside.{stays-none, stays_then, stays-cells}
use Rattle.list_steps.proofs.pass.list_pass.Goals as goal

pub loop-i-init : goal.loop-i-init
loop-i-init c = let p = c.requires in
    let x = c.args in
    let z = p.1.0 in
    let k = room x.areas.base.0 x.areas.end.0 x.areas.table.0 _ _ _ z.0.0 z.0.1 z.1.0 p.1.1 in (
      (refl, refl),
      p.0.0,
      z.0.0,
      omega arith,
      rw (part-before x.a.0 x.e.0 x.areas.base.0 (cells x.work.now x.numbers.now) p.0.1) p.1.1,
      running-start _ _ _ _ _ _ _ p.0.1 z.0.0 k.1.1.0 k.0 k.1.1.1,
      omega arith,
      deep-start _ _ _ _ p.0.1,
      stays-none _ _ _ _ _,
    )

pub returns-then-deep-gt-DEEP_MOST : goal.returns-then-deep-gt-DEEP_MOST
returns-then-deep-gt-DEEP_MOST c = let p = c.requires in
    let x = c.args in
    let l = c.loop-i in
    let v = l.invariant in
    let z = p.1.0 in
    let k = room x.areas.base.0 x.areas.end.0 x.areas.table.0 _ _ _ z.0.0 z.0.1 z.1.0 p.1.1 in
    let lb = before-length x.work.now x.numbers.now x.areas.base.0 x.areas.end.0 z.0.0 k.0 k.1.0 in
    let y = turn-reads _ _ _ _ x.areas.base.0 _ _ _ _ _ _ _ l.i _ v.5 lb v.2 (omega (arith, v.0.0, k.0)) (omega (arith, v.0.1, k.1.0)) c.loop-i-test.true p.0.1 _ c.tag_at-tag.ensures _ c.rest_of-n.ensures in
    (passes-deep (part x.a.0 x.e.0 (cells x.work.now x.numbers.now)) _ (v.7 ∙ deep-over (part l.i x.e.0 (take x.areas.base.0 (cells x.work.now x.numbers.now))) _ y.0 y.1.0 v.6 (omega (arith, c.if-deep-gt-DEEP_MOST.true, c.depth_after-deep.ensures))), v.8)

pub overflow_sub-st : goal.overflow_sub-st
overflow_sub-st c = let p = c.requires in
    let x = c.args in
    let l = c.loop-i in
    let v = l.invariant in
    let z = p.1.0 in
    let k = room x.areas.base.0 x.areas.end.0 x.areas.table.0 _ _ _ z.0.0 z.0.1 z.1.0 p.1.1 in
    let lb = before-length x.work.now x.numbers.now x.areas.base.0 x.areas.end.0 z.0.0 k.0 k.1.0 in
    let b = base-within _ _ _ _ x.areas.base.0 _ _ _ _ _ _ _ _ v.5 lb v.2 (omega (arith, v.0.0, k.0)) (omega (arith, v.0.1, k.1.0)) in
    omega (arith, b)

pub step-requires : goal.step-requires
step-requires c = let p = c.requires in
    let x = c.args in
    let l = c.loop-i in
    let v = l.invariant in
    let z = p.1.0 in
    let k = room x.areas.base.0 x.areas.end.0 x.areas.table.0 _ _ _ z.0.0 z.0.1 z.1.0 p.1.1 in
    let lb = before-length x.work.now x.numbers.now x.areas.base.0 x.areas.end.0 z.0.0 k.0 k.1.0 in
    let s = turn-size _ _ _ _ x.areas.base.0 _ _ _ _ _ _ _ l.i _ v.5 lb v.2 (omega (arith, v.0.0, k.0)) (omega (arith, v.0.1, k.1.0)) c.loop-i-test.true p.0.1 _ c.tag_at-tag.ensures _ c.rest_of-n.ensures in
    let t = turn-pushes _ _ _ _ x.areas.base.0 _ _ _ _ _ _ _ l.i _ v.5 lb v.2 (omega (arith, v.0.0, k.0)) (omega (arith, v.0.1, k.1.0)) c.loop-i-test.true p.0.1 _ c.tag_at-tag.ensures _ c.rest_of-n.ensures in
    (running-ready _ _ _ _ x.areas.base.0 _ _ _ _ _ _ _ _ v.5 lb v.2 (omega (arith, v.0.0, k.0)) (omega (arith, v.0.1, k.1.0)) (omega (arith, v.0.1, z.1.1)), ((omega (arith, s.0, p.0.1), s.1.0), (omega (arith, v.4, t, v.0.1), (z.0, (omega (arith, v.0.0, z.1.0), omega (arith, v.0.1, z.1.1))))))

pub returns-then-areas-st : goal.returns-then-areas-st
returns-then-areas-st c = let p = c.requires in
    let x = c.args in
    let l = c.loop-i in
    let v = l.invariant in
    let z = p.1.0 in
    let k = room x.areas.base.0 x.areas.end.0 x.areas.table.0 _ _ _ z.0.0 z.0.1 z.1.0 p.1.1 in
    let lb = before-length x.work.now x.numbers.now x.areas.base.0 x.areas.end.0 z.0.0 k.0 k.1.0 in
    let q = c.step.ensures in
    let d = turn-left _ _ _ _ x.areas.base.0 _ _ _ _ _ _ _ l.i _ v.5 lb v.2 (omega (arith, v.0.0, k.0)) (omega (arith, v.0.1, k.1.0)) c.loop-i-test.true p.0.1 _ c.tag_at-tag.ensures _ c.rest_of-n.ensures _ _ (stays-cells q.2) (omega (arith, v.0.0, c.step.auto.work, k.0)) (omega (arith, v.0.1, c.step.auto.numbers, k.1.0)) in (
      passes-stopped (part x.a.0 x.e.0 (cells x.work.now x.numbers.now)) _ _ _ (v.7 ∙ sym (ap (λ (w : List Cell). deeper l.depth (tokens 0 w)) d))
          (λ _. turn-over _ _ _ _ x.areas.base.0 _ _ _ _ _ _ _ l.i _ v.5 lb v.2 (omega (arith, v.0.0, k.0)) (omega (arith, v.0.1, k.1.0)) c.loop-i-test.true p.0.1 _ c.tag_at-tag.ensures _ c.rest_of-n.ensures _ _ _ _ _ _ q.0 (omega (arith, v.0.0, c.step.auto.work, k.0)) (omega (arith, v.0.1, c.step.auto.numbers, k.1.0)) c.if-areas-st.true)
          c.stopped.ensures,
      stays_then v.8 q.2,
    )

pub overflow_add-i : goal.overflow_add-i
overflow_add-i c = let p = c.requires in
    let x = c.args in
    let l = c.loop-i in
    let v = l.invariant in
    let z = p.1.0 in
    let k = room x.areas.base.0 x.areas.end.0 x.areas.table.0 _ _ _ z.0.0 z.0.1 z.1.0 p.1.1 in
    let lb = before-length x.work.now x.numbers.now x.areas.base.0 x.areas.end.0 z.0.0 k.0 k.1.0 in
    let s = turn-size _ _ _ _ x.areas.base.0 _ _ _ _ _ _ _ l.i _ v.5 lb v.2 (omega (arith, v.0.0, k.0)) (omega (arith, v.0.1, k.1.0)) c.loop-i-test.true p.0.1 _ c.tag_at-tag.ensures _ c.rest_of-n.ensures in
    omega (arith, s.0, p.0.1, z.0, p.1.1, z.1.1)

pub overflow_add-i-in-loop-i : goal.overflow_add-i-in-loop-i
overflow_add-i-in-loop-i c = let p = c.requires in
    let x = c.args in
    let l = c.loop-i in
    let v = l.invariant in
    let z = p.1.0 in
    let k = room x.areas.base.0 x.areas.end.0 x.areas.table.0 _ _ _ z.0.0 z.0.1 z.1.0 p.1.1 in
    let lb = before-length x.work.now x.numbers.now x.areas.base.0 x.areas.end.0 z.0.0 k.0 k.1.0 in
    let s = turn-size _ _ _ _ x.areas.base.0 _ _ _ _ _ _ _ l.i _ v.5 lb v.2 (omega (arith, v.0.0, k.0)) (omega (arith, v.0.1, k.1.0)) c.loop-i-test.true p.0.1 _ c.tag_at-tag.ensures _ c.rest_of-n.ensures in
    omega (arith, s.0, p.0.1, z.0, p.1.1, z.1.1)

pub loop-i-preserved : goal.loop-i-preserved
loop-i-preserved c = let p = c.requires in
    let x = c.args in
    let l = c.loop-i in
    let v = l.invariant in
    let z = p.1.0 in
    let k = room x.areas.base.0 x.areas.end.0 x.areas.table.0 _ _ _ z.0.0 z.0.1 z.1.0 p.1.1 in
    let lb = before-length x.work.now x.numbers.now x.areas.base.0 x.areas.end.0 z.0.0 k.0 k.1.0 in
    let s = turn-size _ _ _ _ x.areas.base.0 _ _ _ _ _ _ _ l.i _ v.5 lb v.2 (omega (arith, v.0.0, k.0)) (omega (arith, v.0.1, k.1.0)) c.loop-i-test.true p.0.1 _ c.tag_at-tag.ensures _ c.rest_of-n.ensures in
    let t = turn-pushes _ _ _ _ x.areas.base.0 _ _ _ _ _ _ _ l.i _ v.5 lb v.2 (omega (arith, v.0.0, k.0)) (omega (arith, v.0.1, k.1.0)) c.loop-i-test.true p.0.1 _ c.tag_at-tag.ensures _ c.rest_of-n.ensures in
    let y = turn-reads _ _ _ _ x.areas.base.0 _ _ _ _ _ _ _ l.i _ v.5 lb v.2 (omega (arith, v.0.0, k.0)) (omega (arith, v.0.1, k.1.0)) c.loop-i-test.true p.0.1 _ c.tag_at-tag.ensures _ c.rest_of-n.ensures in
    let d = c.depth_after-deep.ensures in
    let g = c.max-seen.ensures in
    let q = c.step.ensures in
    let e : l.i + (c.rest_of-n.result + 1) ≡ l.i + c.rest_of-n.result + 1 = omega arith in
    rw e (
      (search rules, search rules),
      omega (arith, s.0),
      omega (arith, c.if-areas-st.false),
      omega (arith, g, v.2, v.3),
      omega (arith, v.4, q.1, t),
      turn-goes _ _ _ _ x.areas.base.0 _ _ _ _ _ _ _ l.i _ v.5 lb v.2 (omega (arith, v.0.0, k.0)) (omega (arith, v.0.1, k.1.0)) c.loop-i-test.true p.0.1 _ c.tag_at-tag.ensures _ c.rest_of-n.ensures _ _ _ _ _ _ q.0 _ g,
      omega (arith, c.if-deep-gt-DEEP_MOST.false),
      v.7 ∙ rw d (deep-goes (part l.i x.e.0 (take x.areas.base.0 (cells x.work.now x.numbers.now))) _ y.0 y.1.0 y.1.1.0 y.1.1.1 (omega (arith, d, c.if-deep-gt-DEEP_MOST.false))),
      stays_then v.8 q.2,
    )

pub finish-requires : goal.finish-requires
finish-requires c = let p = c.requires in
    let x = c.args in
    let l = c.loop-i in
    let v = l.invariant in
    let z = p.1.0 in
    let k = room x.areas.base.0 x.areas.end.0 x.areas.table.0 _ _ _ z.0.0 z.0.1 z.1.0 p.1.1 in
    let lb = before-length x.work.now x.numbers.now x.areas.base.0 x.areas.end.0 z.0.0 k.0 k.1.0 in
    (running-ready _ _ _ _ x.areas.base.0 _ _ _ _ _ _ _ _ v.5 lb v.2 (omega (arith, v.0.0, k.0)) (omega (arith, v.0.1, k.1.0)) (omega (arith, v.0.1, z.1.1)), ((z.0, (omega (arith, v.0.0, z.1.0), omega (arith, v.0.1, z.1.1))), v.3))

pub returns : goal.returns
returns c = let p = c.requires in
    let x = c.args in
    let l = c.loop-i in
    let v = l.invariant in
    let z = p.1.0 in
    let k = room x.areas.base.0 x.areas.end.0 x.areas.table.0 _ _ _ z.0.0 z.0.1 z.1.0 p.1.1 in
    let lb = before-length x.work.now x.numbers.now x.areas.base.0 x.areas.end.0 z.0.0 k.0 k.1.0 in
    let r = c.finish.ensures in (
      passes-ends (part x.a.0 x.e.0 (cells x.work.now x.numbers.now)) _ _ _ _ c.finish.result (v.7 ∙ deep-end l.i _ _ _ c.loop-i-test.false)
          (r.0 (part x.a.0 x.e.0 (cells x.work.now x.numbers.now)) (take x.areas.base.0 (cells x.work.now x.numbers.now)) lb (running-end _ _ _ _ _ _ _ _ _ _ _ l.i _ c.loop-i-test.false v.5)),
      stays_then v.8 r.1,
    )
