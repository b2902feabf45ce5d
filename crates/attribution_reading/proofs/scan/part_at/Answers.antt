use Rattle.std.proofs.Common.{rules, not, sym, ◌∙◌}
use Rattle.attribution_parts.specs.Parts.{in_key}
use Rattle.attribution_reading.proofs.Laws.{part-text, part_field, no_start, no_more, no-equals, value-run, key-run, key-unquoted}
use Rattle.attribution_reading.proofs.scan.part_at.Goals as goal
use Rattle.attribution_reading.proofs.scan.part_at.Goals.{then-end-s+then-s-end-eq61, else-end-s, else-end-s-via-then-end-s+else-s-end-eq61, else-end-s-via-else-end-s}

pub run_value-v-requires : goal.run_value-v-requires
run_value-v-requires c =
    let e = c.first_from-end.ensures in
    (e.inside.0, (e.inside.1, key-run _ _ _ (e.first (λ b. not (in_key b)) (λ b t h. search rules))))

pub returns-then-starts_key : goal.returns-then-starts_key
returns-then-starts_key c =
    let a = c.args in
    let b = sym c.starts_key.ensures ∙ c.if-starts_key.true in
    let e = c.first_from-end.ensures.first (λ b. not (in_key b)) (λ b t h. search rules) in
    elim c.if-end-s.branch [
      | then-end-s+then-s-end-eq61 w ↦ rw (w.key-is, w.v-is) (part_field a.s.now a.at _ _ c.requires b e w.if-s-end-eq61.true w.value_at-v.ensures)
      | else-end-s w ↦ rw (w.key-is, w.v-is) (part-text a.s.now a.at _
          (elim w.else-end-s.branch [
            | else-end-s-via-then-end-s+else-s-end-eq61 w' ↦ no-equals a.s.now a.at _ b e w'.if-s-end-eq61.false
            | else-end-s-via-else-end-s w' ↦ no_more a.s.now a.at _ b e w'.if-end-s.false
          ])
          (value-run a.s.now a.at _ (key-unquoted a.s.now a.at c.requires b) w.run_value-v.ensures))
    ]

pub returns : goal.returns
returns c = let a = c.args in part-text a.s.now a.at _ (no_start a.s.now a.at (sym c.starts_key.ensures ∙ c.if-starts_key.false)) c.value_at-v-2.ensures
