use mathlib.Core.Path.{sym, ◌∙◌}
use Rattle.attribution_reading.proofs.Fielding.{tells-text, tells-other, tells-usable, tells-unusable}
use Rattle.attribution_reading.proofs.facts.kind_of_part.Goals as goal

pub returns-then-p-eq0 : goal.returns-then-p-eq0
returns-then-p-eq0 c = tells-text c.args.s.now c.args.p c.if-p-eq0.true

pub returns-in_err-kind : goal.returns-in_err-kind
returns-in_err-kind c = let a = c.args in rw c.from_residual.ensures (tells-other a.s.now a.p c.if-p-eq0.false (rw (c.of.ensures.words, c.in_err-kind.was) at c.kind_of_key.ensures))

pub returns-then-is_usable : goal.returns-then-is_usable
returns-then-is_usable c = let a = c.args in tells-usable a.s.now a.p c.if-p-eq0.false _ (rw (c.of.ensures.words, c.in_ok-kind.was) at c.kind_of_key.ensures) (rw c.of-2.ensures.words at (sym c.is_usable.ensures ∙ c.if-is_usable.true))

pub returns-else-is_usable : goal.returns-else-is_usable
returns-else-is_usable c = let a = c.args in tells-unusable a.s.now a.p c.if-p-eq0.false _ (rw (c.of.ensures.words, c.in_ok-kind.was) at c.kind_of_key.ensures) (rw c.of-2.ensures.words at (sym c.is_usable.ensures ∙ c.if-is_usable.false))
