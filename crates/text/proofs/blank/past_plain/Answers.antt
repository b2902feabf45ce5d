use borrow.Author.Rules.{rules}
use native.Mathlib.Omega.{arith}
use mathlib.Core.Path.{sym, ◌∙◌}
use borrow.Author.Tests.{ltb-false}
use Rattle.text.proofs.Bytes.{look, look-past}
use Rattle.text.proofs.Characters.{lead}
use Rattle.text.proofs.blank.past_plain.Goals as goal

pub loop-i-init : goal.loop-i-init
loop-i-init c = (search rules, look lead _ _ c.requires)

pub returns-else-not-has_lead_16 : goal.returns-else-not-has_lead_16
returns-else-not-has_lead_16 c = let l = c.loop-i in (l.invariant.0, l.invariant.1.inside, omega (arith, l.invariant.1.ends))

pub loop-i-preserved : goal.loop-i-preserved
loop-i-preserved c = let l = c.loop-i in
    (search rules, look-past lead _ _ l.i 16 l.invariant.1 (omega arith) (ltb-false _ 16 (sym c.has_lead_16.ensures ∙ c.if-not-has_lead_16.true)))

pub returns-after-loop-i : goal.returns-after-loop-i
returns-after-loop-i c = let l = c.loop-i in (l.invariant.0, l.invariant.1.inside, omega (arith, l.invariant.1.ends))
