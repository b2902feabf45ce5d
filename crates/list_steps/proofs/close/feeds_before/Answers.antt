use mathlib.Core.Path.{◌≡◌, refl, sym, ap, ◌∙◌}
use mathlib.Core.Bool.{Bool, true, false, cond}
use mir.Val.{bool_byte}
use Rattle.list_steps.specs.Standing.{feeds_before}
use Rattle.text.proofs.Decide.{decide}
use borrow.Author.Tests.{ne_eqb}
use Rattle.list_steps.proofs.close.feeds_before.Goals as goal

byte-of : (t : Bool) → bool_byte t ≡ cond t 1 0
byte-of true = refl
byte-of false = refl

pub returns-then-first-table : goal.returns-then-first-table
unfolding feeds_before
returns-then-first-table c = sym (search decide depth 12)

pub returns-else-first-table : goal.returns-else-first-table
unfolding feeds_before
returns-else-first-table c = rw (ne_eqb _ _ c.if-first-table.false) (c.from.ensures ∙ byte-of _ ∙ ap (λ (t : Bool). cond t 1 0) c.feed_at.ensures)
