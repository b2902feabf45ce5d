use borrow.Author.Tests.{eq-eqb, ne_eqb}
use Rattle.attribution_losses.specs.Captions.{named}
use Rattle.attribution_reading.specs.Places.{bytes}
use Rattle.attribution.proofs.caption.name.Goals as goal

pub returns-then-value-eq0 : goal.returns-then-value-eq0
unfolding named
returns-then-value-eq0 c = rw (eq-eqb _ 0 c.if-value-eq0.true)

pub returns : goal.returns
unfolding named bytes
returns c = rw (ne_eqb c.args.value.size 0 c.if-value-eq0.false) c.of.ensures.words
