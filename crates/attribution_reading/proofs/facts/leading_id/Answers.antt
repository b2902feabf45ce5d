use mathlib.Core.Path.{sym, ◌∙◌}
use Rattle.attribution_reading.proofs.Ids.{lead-end, lead-unquoted, lead-other, lead-found}
use Rattle.attribution_reading.proofs.facts.leading_id.Goals as goal
use Rattle.attribution_reading.proofs.facts.leading_id.Goals.{else-at-s-via-then-at-s+else-is_quote, else-at-s-via-else-at-s}

pub read_part-p-requires : goal.read_part-p-requires
read_part-p-requires c = let lt = c.if-at-s.true in (lt, c.first_at-at.ensures.begins lt)

pub returns-then-is_leading : goal.returns-then-is_leading
returns-then-is_leading c = let a = c.args in lead-found a.s.now _ c.first_at-at.ensures _ c.read_part-p.ensures (sym c.is_leading.ensures ∙ c.if-is_leading.true)

pub returns-else-is_leading : goal.returns-else-is_leading
returns-else-is_leading c = let a = c.args in lead-other a.s.now _ c.first_at-at.ensures _ c.read_part-p.ensures (sym c.is_leading.ensures ∙ c.if-is_leading.false)

pub returns-else-at-s : goal.returns-else-at-s
returns-else-at-s c = let a = c.args in elim c.else-at-s.branch [
  | else-at-s-via-then-at-s+else-is_quote w ↦ lead-unquoted a.s.now _ c.first_at-at.ensures w.if-at-s.true (sym w.is_quote.ensures ∙ w.if-is_quote.false)
  | else-at-s-via-else-at-s w ↦ lead-end a.s.now _ c.first_at-at.ensures w.if-at-s.false
]
