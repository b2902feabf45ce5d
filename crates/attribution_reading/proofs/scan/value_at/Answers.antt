use Rattle.std.proofs.Common.{rules, sym, ◌∙◌, eqb}
use Rattle.attribution_reading.proofs.Laws.{value-run, value-quoted, end-unquoted, other-unquoted, open-unquoted}
use Rattle.attribution_reading.proofs.scan.value_at.Goals as goal
use Rattle.attribution_reading.proofs.scan.value_at.Goals.{then-at-s+then-is_quote+else-close-s, else-at-s, else-at-s-via-then-at-s+else-is_quote, else-at-s-via-else-at-s}

pub returns-then-close-s : goal.returns-then-close-s
returns-then-close-s c = let a = c.args in
    value-quoted a.s.now a.at _ c.if-at-s.true (sym c.is_quote.ensures ∙ c.if-is_quote.true) (c.first_from-close.ensures.first (λ b. eqb b _) (λ b t h. search rules)) c.if-close-s.true

pub returns : goal.returns
returns c = let a = c.args in
    value-run a.s.now a.at _
    (elim c.if-at-s.branch [
      | then-at-s+then-is_quote+else-close-s w ↦ open-unquoted a.s.now a.at _ w.if-at-s.true (sym w.is_quote.ensures ∙ w.if-is_quote.true) (w.first_from-close.ensures.first (λ b. eqb b _) (λ b t h. search rules)) w.if-close-s.false
      | else-at-s w ↦ elim w.else-at-s.branch [
        | else-at-s-via-then-at-s+else-is_quote w' ↦ other-unquoted a.s.now a.at w'.if-at-s.true (sym w'.is_quote.ensures ∙ w'.if-is_quote.false)
        | else-at-s-via-else-at-s w' ↦ end-unquoted a.s.now a.at w'.if-at-s.false
      ]
    ])
    c.run_value.ensures
