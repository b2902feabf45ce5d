use mathlib.Core.Path.{sym, ◌∙◌}
use Rattle.text.specs.Lines.{is_feed}
use Rattle.text.proofs.Decide.{decide}
use borrow.Author.Tests.{eq-eqb}
use Rattle.text.proofs.trim.is_feed.Goals as goal

pub returns-then-b-eq10 : goal.returns-then-b-eq10
unfolding is_feed
returns-then-b-eq10 c = c.is_blank.ensures ∙ sym (rw (eq-eqb _ _ c.if-b-eq10.true))

pub returns-else-b-eq10 : goal.returns-else-b-eq10
unfolding is_feed
returns-else-b-eq10 c = sym (search decide depth 12)
