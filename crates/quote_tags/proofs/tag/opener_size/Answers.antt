use mathlib.Core.Path.{sym, ◌∙◌}
use Rattle.quote_tags.proofs.Tagging.{tag_is, tag-missing}
use Rattle.quote_tags.specs.Tags.{opener_size}
use Rattle.quote_tags.proofs.tag.opener_size.Goals as goal

pub returns-then-opens_quote : goal.returns-then-opens_quote
unfolding opener_size
returns-then-opens_quote c = tag_is _ _ (sym c.opens_quote.ensures ∙ c.if-opens_quote.true) c.up_to_bracket.ensures

pub returns-else-opens_quote : goal.returns-else-opens_quote
unfolding opener_size
returns-else-opens_quote c = tag-missing _ _ (sym c.opens_quote.ensures ∙ c.if-opens_quote.false)
