use Rattle.std.proofs.Common.{rules, not}
use Rattle.attribution_parts.specs.Parts.{is_space}
use Rattle.attribution_reading.proofs.Laws.{scanned}
use Rattle.attribution_reading.proofs.scan.scan_at.Goals as goal

pub returns : goal.returns
returns c = let a = c.args in
    scanned a.s.now a.at _ _ c.requires.0 c.requires.1 c.part_at-p.ensures (c.first_from.ensures.first (λ b. not (is_space b)) (λ b t h. search rules)) c.first_from.ensures.inside.1
