use native.Mathlib.Omega.{arith}
use mathlib.Core.Path.{refl, sym, ◌∙◌}
use Rattle.day.specs.Day.{number}
use Rattle.day.proofs.Laws.{tens-top, tens-more, digit_at, number-turn, number-end}
use Rattle.day.proofs.seconds_of.Goals as goal

pub loop-b-init : goal.loop-b-init
unfolding number
loop-b-init c = (omega arith, c.requires.1, refl)

pub overflow_sub-b : goal.overflow_sub-b
overflow_sub-b c = let l = c.loop-b in (digit_at c.args.s.now l.b-index c.loop-b-test.true l.invariant.1).0

pub loop-b-preserved : goal.loop-b-preserved
loop-b-preserved c = let l = c.loop-b in
    let s = c.args.s.now in
    let d = digit_at s l.b-index c.loop-b-test.true l.invariant.1 in
    let t = tens-more l.b-index in
    (omega (arith, t, d.1, c.from.ensures), d.2, l.invariant.2 ∙ rw c.from.ensures (number-turn s l.b-index l.n c.loop-b-test.true))

pub returns : goal.returns
returns c = let l = c.loop-b in
    let t = tens-top l.b-index (omega arith) in
    (sym (l.invariant.2 ∙ number-end c.args.s.now l.b-index l.n (omega arith)), omega arith)
