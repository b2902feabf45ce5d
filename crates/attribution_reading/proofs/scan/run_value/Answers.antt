use native.Mathlib.Omega.{arith}
use Rattle.std.proofs.Common.{rules, refl, ◌∙◌}
use Rattle.attribution_parts.specs.Parts.{is_space}
use Rattle.attribution_reading.proofs.scan.run_value.Goals as goal

pub returns : goal.returns
returns c =
    let e = c.first_from-end.ensures.first is_space (λ b t h. search rules) in
    record { from = refl; size = omega (arith, e, c.requires); next = e ∙ c.requires.1.1; inside = c.first_from-end.ensures.inside.1 }
