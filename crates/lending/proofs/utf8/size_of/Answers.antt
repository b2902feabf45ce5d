use Rattle.std.proofs.Common.{arith, sym}
use Rattle.lending.specs.Utf8.{size, utf8-1}
use Rattle.text.proofs.Decide.{asked}
use Rattle.lending.proofs.utf8.size_of.Goals as goal

pub returns-then-is_inside : goal.returns-then-is_inside
unfolding size utf8-1
returns-then-is_inside c = (search asked depth 24, omega arith)

pub returns-then-is_utf8_2 : goal.returns-then-is_utf8_2
unfolding size utf8-1
returns-then-is_utf8_2 c = (search asked depth 24, omega arith)

pub returns-then-is_utf8_3 : goal.returns-then-is_utf8_3
unfolding size utf8-1
returns-then-is_utf8_3 c = (search asked depth 24, omega arith)

pub returns-then-is_utf8_4 : goal.returns-then-is_utf8_4
unfolding size utf8-1
returns-then-is_utf8_4 c = (search asked depth 24, omega arith)

pub returns-else-is_utf8_4 : goal.returns-else-is_utf8_4
unfolding size utf8-1
returns-else-is_utf8_4 c = sym (search asked depth 24)
