use native.Mathlib.Omega.{arith}
use mathlib.Core.Path.{sym, ◌∙◌}
use Prim.Native.Nat.{◌-◌}
use Rattle.attribution_reading.specs.Places.{bytes}
use Rattle.attribution_losses.proofs.Joining.{join-start, join-begins, join-named, join-turn, join-end}
use Rattle.attribution_losses.proofs.join.join_texts.Goals as goal

pub loop-pos-init : goal.loop-pos-init
unfolding bytes
loop-pos-init c = let x = c.args in join-start x.work.now x.a (x.e - x.a) x.at _ c.leading_id-lead.ensures

pub read_part-p-requires : goal.read_part-p-requires
unfolding bytes
read_part-p-requires c = let x = c.args in let l = c.loop-pos.invariant in let pre = c.requires in let b = join-begins x.work.now x.a (x.e - x.a) x.at _ _ _ l (omega (arith, pre.0.0, pre.0.1.0)) (omega (arith, pre.0.0, pre.0.1.1)) c.loop-pos-test.true in (b.0, b.1.begins b.0)

pub returns-then-is_name : goal.returns-then-is_name
unfolding bytes
returns-then-is_name c = let x = c.args in let l = c.loop-pos.invariant in let pre = c.requires in join-named x.work.now x.a (x.e - x.a) x.at _ _ _ l (omega (arith, pre.0.0, pre.0.1.0)) (omega (arith, pre.0.0, pre.0.1.1)) _ c.read_part-p.ensures (sym c.is_name.ensures ∙ c.if-is_name.true)

pub loop-pos-preserved : goal.loop-pos-preserved
unfolding bytes
loop-pos-preserved c = let x = c.args in let l = c.loop-pos.invariant in let pre = c.requires in join-turn x.work.now x.a (x.e - x.a) x.at _ _ _ l (omega (arith, pre.0.0, pre.0.1.0)) (omega (arith, pre.0.0, pre.0.1.1)) _ c.read_part-p.ensures _ _ (sym c.is_name.ensures ∙ c.if-is_name.false) c.put_more-to.ensures

pub returns : goal.returns
returns c = let x = c.args in let l = c.loop-pos.invariant in let pre = c.requires in join-end x.work.now x.a (x.e - x.a) x.at _ _ _ l (omega (arith, pre.0.0, pre.0.1.0)) (omega (arith, pre.0.0, pre.0.1.1)) c.loop-pos-test.false
