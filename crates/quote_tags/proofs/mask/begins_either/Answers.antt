use mathlib.Core.Path.{sym, ◌∙◌}
use Rattle.quote_tags.proofs.Tagging.{any_here, any-later, any_last}
use Rattle.quote_tags.proofs.mask.begins_either.Goals as goal

pub returns-then-begins_at : goal.returns-then-begins_at
returns-then-begins_at c = let t = c.if-begins_at.true in t ∙ sym (any_here _ _ _ c.begins_at.ensures t)

pub returns-else-begins_at : goal.returns-else-begins_at
returns-else-begins_at c = sym (any-later _ _ _ c.begins_at.ensures c.if-begins_at.false (any_last _ _ c.begins_at-else-begins_at.ensures))
