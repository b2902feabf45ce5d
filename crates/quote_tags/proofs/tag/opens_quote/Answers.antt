use mathlib.Core.Path.{◌≡◌, refl, sym, ◌∙◌}
use mathlib.Core.Bool.{true, false, true≢false}
use borrow.Author.Tests.{ne_eqb}
use lib.Seq.{get_or-drop}
use Rattle.quote_tags.proofs.Plain.{openers-not, openers-by}
use Rattle.quote_tags.proofs.tag.opens_quote.Goals as goal
use Rattle.quote_tags.proofs.tag.opens_quote.Goals.{then-small_of-eq113, else-small_of-eq113}

pub returns-then-begins_at : goal.returns-then-begins_at
returns-then-begins_at c = let a = c.args in
    let e = c.byte_at-b.ensures ∙ sym (get_or-drop a.at.0 a.s.now 6 0) in
    elim c.if-small_of-eq113.branch [
      | then-small_of-eq113 w ↦ let t : true ≡ w.begins_at.result = cc (c.if-begins_at.true, w.value-is) in openers-by _ (t ∙ w.begins_at.ensures) e
      | else-small_of-eq113 w ↦ absurd (true≢false (sym c.if-begins_at.true ∙ w.value-is ∙ ne_eqb c.small_of.result 113 w.if-small_of-eq113.false))
    ]

pub returns-else-begins_at : goal.returns-else-begins_at
returns-else-begins_at c = let a = c.args in
    c.if-begins_at.false ∙ elim c.if-small_of-eq113.branch [
      | then-small_of-eq113 w ↦ let t : false ≡ w.begins_at.result = cc (c.if-begins_at.false, w.value-is) in openers-by _ (t ∙ w.begins_at.ensures) refl
      | else-small_of-eq113 w ↦ openers-not a.s.now a.at.0 c.byte_at.ensures c.small_of.ensures w.if-small_of-eq113.false
    ]
