use native.Mathlib.Omega.{arith}
use Rattle.std.proofs.lemmas.Bool.Decides.{nat_tests}
use Rattle.text.specs.Ascii.{inside}
use Rattle.attribution_reading.proofs.scan.starts_key.Goals as goal

pub returns-then-is_ascii_alphabetic : goal.returns-then-is_ascii_alphabetic
unfolding inside
returns-then-is_ascii_alphabetic c = grind (arith, nat_tests, c.is_ascii_alphabetic.ensures.value)

pub returns-else-is_ascii_alphabetic : goal.returns-else-is_ascii_alphabetic
unfolding inside
returns-else-is_ascii_alphabetic c = grind (arith, nat_tests, c.is_ascii_alphabetic.ensures.value)
