use Rattle.std.proofs.Common.{arith}
use Rattle.std.proofs.lemmas.Grind.{common_steps}
use Rattle.std.proofs.lemmas.Bool.Decides.{nat_tests}
use Rattle.text.specs.Ascii.{inside}
use Rattle.text.proofs.scan.is_inside.Goals as goal

pub returns : goal.returns
unfolding inside
returns c = grind (arith, common_steps, nat_tests, c.new.ensures.start, c.new.ensures.end, c.new.ensures.exhausted)
