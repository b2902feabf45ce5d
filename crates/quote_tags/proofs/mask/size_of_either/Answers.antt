use mathlib.Core.Path.{sym, ◌∙◌}
use Rattle.quote_tags.proofs.Tagging.{tag_is, tag-missing}
use Rattle.quote_tags.proofs.mask.size_of_either.Goals as goal

pub returns-then-begins_either : goal.returns-then-begins_either
returns-then-begins_either c = tag_is _ _ (sym c.begins_either.ensures ∙ c.if-begins_either.true) c.up_to_bracket.ensures

pub returns-else-begins_either : goal.returns-else-begins_either
returns-else-begins_either c = tag-missing _ _ (sym c.begins_either.ensures ∙ c.if-begins_either.false)
