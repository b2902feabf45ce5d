use native.Mathlib.Omega.{arith}
use mathlib.Core.Path.{◌≡◌, refl, sym, ◌∙◌}
use Prim.Native.Nat.{◌+◌}
use Rattle.list_steps.proofs.Depths.{depth-size, depth-over, depth-goes, depth-end}
use Rattle.list_steps.proofs.pass.too_deep.Goals as goal

pub returns-then-depth-gt-DEEP_MOST : goal.returns-then-depth-gt-DEEP_MOST
returns-then-depth-gt-DEEP_MOST c = let v = c.loop-i.invariant in sym (v.3 ∙ depth-over _ _ c.requires.0 c.loop-i.i _ c.loop-i-test.true _ c.tag_at-tag.ensures _ c.rest_of-size.ensures v.2 (omega (arith, c.if-depth-gt-DEEP_MOST.true, c.depth_after-depth.ensures)))

pub overflow_add-i : goal.overflow_add-i
overflow_add-i c = let s = depth-size c.args.src.now c.args.from.now c.requires.0 c.loop-i.i 0 c.loop-i-test.true c.tag_at-tag.result c.tag_at-tag.ensures c.rest_of-size.result c.rest_of-size.ensures in omega (arith, s)

pub overflow_add-i-in-loop-i : goal.overflow_add-i-in-loop-i
overflow_add-i-in-loop-i c = let s = depth-size c.args.src.now c.args.from.now c.requires.0 c.loop-i.i 0 c.loop-i-test.true c.tag_at-tag.result c.tag_at-tag.ensures c.rest_of-size.result c.rest_of-size.ensures in omega (arith, s)

pub loop-i-preserved : goal.loop-i-preserved
loop-i-preserved c = let v = c.loop-i.invariant in let s = depth-size c.args.src.now c.args.from.now c.requires.0 c.loop-i.i 0 c.loop-i-test.true c.tag_at-tag.result c.tag_at-tag.ensures c.rest_of-size.result c.rest_of-size.ensures in let d = c.depth_after-depth.ensures in let e : c.loop-i.i + (c.rest_of-size.result + 1) ≡ c.loop-i.i + c.rest_of-size.result + 1 = omega arith in rw e (refl, omega (arith, s), omega (arith, c.if-depth-gt-DEEP_MOST.false), v.3 ∙ rw d (depth-goes _ _ c.requires.0 c.loop-i.i _ c.loop-i-test.true _ c.tag_at-tag.ensures c.rest_of-size.result c.rest_of-size.ensures (omega (arith, d, c.if-depth-gt-DEEP_MOST.false))))

pub returns : goal.returns
returns c = let v = c.loop-i.invariant in sym (v.3 ∙ depth-end _ _ c.loop-i.i _ c.requires.0 (omega (arith, c.loop-i-test.false, v.0)))
