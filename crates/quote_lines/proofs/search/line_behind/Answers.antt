use native.Mathlib.Omega.{arith}
use Rattle.quote_lines.proofs.Tabling.{behind-run, behind-end}
use Rattle.quote_lines.proofs.search.line_behind.Goals as goal

pub loop-i-preserved : goal.loop-i-preserved
loop-i-preserved c = let h = c.from-feeds.ensures in let k = behind-run c.loop-i.invariant (omega arith) (omega (arith, c.min.ensures, c.loop-i-test.true)) c.feeds_in.ensures in rw h k

pub returns : goal.returns
returns c = behind-end c.loop-i.invariant (omega arith)
