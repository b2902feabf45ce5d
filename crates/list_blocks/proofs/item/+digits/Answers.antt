use Rattle.std.proofs.Common.{arith}
use Rattle.list_blocks.proofs.Markers.{one-digit, more-digits}
use Rattle.list_blocks.proofs.item.+digits.Goals as goal

pub returns-then-n-lt10 : goal.returns-then-n-lt10
returns-then-n-lt10 t c = (one-digit _ c.if-n-lt10.true, omega arith)

pub returns-else-n-lt10 : goal.returns-else-n-lt10
returns-else-n-lt10 t c = (more-digits _ _ (omega arith) c.digits.ensures.0, omega (arith, c.digits.ensures.1))
