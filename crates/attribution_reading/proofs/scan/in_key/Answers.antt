use native.Mathlib.Omega.{arith}
use Rattle.std.proofs.lemmas.Bool.Decides.{nat_tests}
use Rattle.text.specs.Ascii.{inside}
use Rattle.attribution_reading.proofs.scan.in_key.Goals as goal
use Rattle.attribution_reading.proofs.scan.in_key.Goals.{then-starts_key, else-starts_key}

pub returns-then-is_ascii_digit : goal.returns-then-is_ascii_digit
unfolding inside
returns-then-is_ascii_digit c = elim c.if-starts_key.branch [
  | then-starts_key w ↦ grind (arith, nat_tests, c.starts_key.ensures)
  | else-starts_key w ↦ grind (arith, nat_tests, c.starts_key.ensures, w.is_ascii_digit.ensures.value)
]

pub returns-else-is_ascii_digit : goal.returns-else-is_ascii_digit
unfolding inside
returns-else-is_ascii_digit c = elim c.if-starts_key.branch [
  | then-starts_key w ↦ grind (arith, nat_tests, c.starts_key.ensures)
  | else-starts_key w ↦ grind (arith, nat_tests, c.starts_key.ensures, w.is_ascii_digit.ensures.value)
]
