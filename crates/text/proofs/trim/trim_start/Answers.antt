use Rattle.std.proofs.Common.{arith, ◌≡◌, sym, ◌∙◌}
use Rattle.text.proofs.Trimming.{trim_start-blank, trim_start-other, trim_start-end}
use Rattle.text.proofs.trim.trim_start.Goals as goal

pub loop-i-preserved : goal.loop-i-preserved
loop-i-preserved c = c.loop-i.invariant ∙ trim_start-blank _ _ c.loop-i.i c.args.e.0 (omega arith) (omega arith) (omega arith) (sym c.is_blank.ensures ∙ c.if-not-is_blank.false)

pub returns-then-not-is_blank : goal.returns-then-not-is_blank
returns-then-not-is_blank c =
    (omega arith, (omega arith, sym (c.loop-i.invariant ∙ trim_start-other _ _ c.loop-i.i c.args.e.0 (omega arith) (omega arith) (omega arith) (sym c.is_blank.ensures ∙ c.if-not-is_blank.true))))

pub returns : goal.returns
returns c =
    let e : c.loop-i.i ≡ c.args.e.0 = omega arith in
    (omega arith, (omega arith, sym (rw e at c.loop-i.invariant ∙ trim_start-end _ c.args.e.0 c.args.e.0 (omega arith))))
