use mathlib.Core.Path.{sym, ◌∙◌}
use Rattle.lending.specs.Lent.{checked}
use Rattle.text.proofs.Decide.{decide}
use Rattle.lending.proofs.Lending.{clean-yes, clean-no}
use Rattle.lending.proofs.lent.check.Goals as goal

pub returns-then-is_clean : goal.returns-then-is_clean
unfolding checked
returns-then-is_clean c = let p = clean-yes c.args.text.now (sym c.is_clean.ensures ∙ c.if-is_clean.true) in
    let u = p.0 in
    let z = p.1 in
    sym (search decide depth 12)

pub returns-then-is_utf8 : goal.returns-then-is_utf8
unfolding checked
returns-then-is_utf8 c = let u = sym c.is_utf8.ensures ∙ c.if-is_utf8.true in
    let z = clean-no c.args.text.now (sym c.is_clean.ensures ∙ c.if-is_clean.false) u in
    sym (search decide depth 12)
