use borrow.Author.Rules.{rules}
use mathlib.Core.Path.{refl, sym, ◌∙◌}
use Rattle.text.proofs.Numbering.{numbered-start, numbered-end}
use Rattle.text.proofs.blank.number.Goals as goal

pub loop-i-init : goal.loop-i-init
loop-i-init c = let a = c.args in (search rules, refl, numbered-start a.s.now a.nums.now)

pub loop-i-preserved : goal.loop-i-preserved
loop-i-preserved c = let part = c.number_part-i in
    let plain = c.number_plain in
    let l = c.loop-i in
    (part.ensures.1, search rules, l.invariant.2 ∙ plain.ensures ∙ part.ensures.2)

pub returns : goal.returns
returns c = let l = c.loop-i in
    numbered-end c.args.s.now _ l.i 0 c.loop-i-test.false ∙ sym l.invariant.2
