use mathlib.Core.Path.{ap, ◌∙◌}
use Rattle.attribution_reading.specs.Places.{Scanned}
use Rattle.attribution_reading.proofs.Fielding.{read-on, read_all}
use Rattle.attribution_reading.proofs.facts.with_parts.Goals as goal

pub loop-reader-preserved : goal.loop-reader-preserved
loop-reader-preserved c =
    let h = c.loop-reader.invariant in
    let e = c.next_part.ensures in
    let sc : Scanned c.args.s.now c.loop-reader.reader.next c.next_part.result = rw h.0 at e.0 in
    (ap (λ a. a.now) e.1.0 ∙ h.0, rw e.1.1 (read-on h.1 sc c.with_field-fields.ensures))

pub returns : goal.returns
returns c = read_all c.loop-reader.invariant.1 c.loop-reader-test.false
