use mathlib.Core.Path.{sym, ◌∙◌}
use Rattle.attribution_reading.proofs.Fielding.{read-lead}
use Rattle.attribution_reading.proofs.NoFields.{no_fields_lem, read-nothing}
use Rattle.attribution_reading.proofs.facts.read_fields.Goals as goal

pub with_parts-requires : goal.with_parts-requires
with_parts-requires c = read-lead _ _ c.requires

pub returns-else-has_equals : goal.returns-else-has_equals
returns-else-has_equals c = read-nothing _ (no_fields_lem _ (sym c.has_equals.ensures ∙ c.if-has_equals.false))
