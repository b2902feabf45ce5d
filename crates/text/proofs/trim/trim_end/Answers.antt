use Rattle.std.proofs.Common.{arith, ◌≡◌, ◌+◌, ◌-◌, ◌≤◌, sym, ◌∙◌}
use Rattle.text.proofs.Writing.{part_none, part_end}
use Rattle.text.proofs.Trimming.{trim_end-blank, trim_end-other, trim_end-end}
use Rattle.text.proofs.trim.trim_end.Goals as goal

pub loop-i-preserved : goal.loop-i-preserved
loop-i-preserved c = c.loop-i.invariant ∙ trim_end-blank _ _ c.args.a.0 (c.loop-i.i - 1) c.loop-i.i (omega arith) (omega arith) (omega arith) (omega arith) (sym c.is_blank.ensures ∙ c.if-not-is_blank.false)

pub returns-then-not-is_blank : goal.returns-then-not-is_blank
returns-then-not-is_blank c =
    let e : c.loop-i.i - 1 + 1 ≡ c.loop-i.i = omega arith in
    let t = sym (c.loop-i.invariant ∙ trim_end-other _ _ c.args.a.0 (c.loop-i.i - 1) c.loop-i.i (omega arith) (omega arith) (omega arith) (omega arith) (sym c.is_blank.ensures ∙ c.if-not-is_blank.true)) in
    (omega arith, (omega arith, rw e t))

pub returns : goal.returns
returns c = let l = c.loop-i in
    let h : l.i ≤ c.args.a.0 = omega arith in
    (omega arith, (omega arith, part_none c.args.a.0 _ ∙ sym (l.invariant ∙ trim_end-end _ c.args.a.0 l.i h ∙ part_end c.args.a.0 l.i _ h)))
