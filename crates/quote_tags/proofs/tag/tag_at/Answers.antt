use mathlib.Core.Path.{refl, sym, ◌∙◌}
use borrow.Author.Rules.{rules}
use Rattle.quote_tags.specs.declared.tag.Kind.TheVariants.{Opener, Closer}
use Rattle.quote_tags.proofs.Plain.{openers-alone}
use Rattle.quote_tags.proofs.Tagging.{any_here, any-later, any_none, mapped, tag-opens, tag-closes, tag-neither, tag-sizes}
use Rattle.quote_tags.proofs.tag.tag_at.Goals as goal

pub returns-then-opens_quote : goal.returns-then-opens_quote
returns-then-opens_quote c = let kind = tag-opens _ c.up_to_bracket.ensures (sym c.opens_quote.ensures ∙ c.if-opens_quote.true) (mapped Opener _ c.map_or-kind.ensures (λ k p. search rules)) in
    record { next = (λ _. c.bracket_from-bracket.ensures, λ _. c.bracket_from-bracket.ensures); kind = kind; sizes = tag-sizes _ _ kind (openers-alone _) }

pub returns-then-begins_at : goal.returns-then-begins_at
returns-then-begins_at c =
    let kind = tag-closes _ c.up_to_bracket-then-begins_at.ensures (sym c.opens_quote.ensures ∙ c.if-opens_quote.false) (any_here _ _ _ c.begins_at.ensures c.if-begins_at.true)
    (mapped Closer _ c.map_or-kind-then-begins_at.ensures (λ k p. search rules)) in
    record { next = (λ _. c.bracket_from-bracket-then-begins_at.ensures, λ _. c.bracket_from-bracket-then-begins_at.ensures); kind = kind; sizes = tag-sizes _ _ kind (openers-alone _) }

pub returns-else-begins_at : goal.returns-else-begins_at
returns-else-begins_at c =
    let kind = tag-neither _ (sym c.opens_quote.ensures ∙ c.if-opens_quote.false) (any-later _ _ _ c.begins_at.ensures c.if-begins_at.false (any_none _)) in
    record { next = (c.requires.1, λ n. absurd (n refl)); kind = kind; sizes = tag-sizes _ _ kind (openers-alone _) }
