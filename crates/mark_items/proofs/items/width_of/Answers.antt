use mathlib.Core.Path.{sym}
use Rattle.mark_tags.specs.Flat.{width_of}
use Rattle.text.proofs.Decide.{decide}
use Rattle.mark_items.proofs.items.width_of.Goals as goal

pub returns-then-tag-lt12 : goal.returns-then-tag-lt12
unfolding width_of
returns-then-tag-lt12 c = sym (search decide depth 12)

pub returns-else-tag-lt12 : goal.returns-else-tag-lt12
unfolding width_of
returns-else-tag-lt12 c = sym (search decide depth 12)
