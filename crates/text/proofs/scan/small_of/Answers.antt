use Rattle.std.proofs.Common.{arith}
use Rattle.std.proofs.lemmas.Grind.{common_steps}
use Rattle.std.proofs.lemmas.Bool.Decides.{nat_tests}
use Rattle.text.specs.Ascii.{inside, small}
use Rattle.text.proofs.scan.small_of.Goals as goal

pub returns : goal.returns
unfolding inside small
returns c = grind (arith, common_steps, nat_tests)
