use Rattle.std.proofs.Common.{rules, not}
use Rattle.attribution_parts.specs.Parts.{is_space}
use Rattle.attribution_reading.proofs.Laws.{begin}
use Rattle.attribution_reading.proofs.scan.first_at.Goals as goal

pub returns : goal.returns
returns c = begin c.args.s.now _ (c.first_from.ensures.first (λ b. not (is_space b)) (λ b t h. search rules)) c.first_from.ensures.inside.1
