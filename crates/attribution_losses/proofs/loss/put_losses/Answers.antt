use mathlib.Core.Path.{sym, ◌∙◌}
use Rattle.attribution_losses.proofs.Losing.{groups-room, all_listed, none-listed}
use Rattle.attribution_losses.proofs.loss.put_losses.Goals as goal

pub returns-then-not-has_equals : goal.returns-then-not-has_equals
returns-then-not-has_equals c = let a = c.args in none-listed a.attribution.now (sym c.has_equals.ensures ∙ c.if-not-has_equals.true) a.quote a.line _ a.k _ a.at

pub put_groups-requires : goal.put_groups-requires
put_groups-requires c = let pre = c.requires in let a = c.args in let h = c.read_facts-facts.ensures in let g = groups-room a.attribution.now _ _ h.1.0 h.0 _ c.is_passed.ensures a.quote a.line a.k a.at _ _ _ _ _ c.put_passed-c.ensures pre.0 pre.1 in (g.0, (record { fields = h.0; seconds = c.is_day-day.ensures }, g.1))

pub returns : goal.returns
returns c = let a = c.args in let h = c.read_facts-facts.ensures in all_listed a.attribution.now _ _ h.1.0 h.0 _ c.is_passed.ensures a.quote a.line a.k a.at _ _ _ _ _ c.put_passed-c.ensures _ _ _ c.put_groups.ensures
