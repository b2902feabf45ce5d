use native.Mathlib.Omega.{arith}
use borrow.Author.Tests.{ne_eqb}
use Rattle.listing.proofs.Laws.{escaped-feed, escaped-backslash, escaped-other}
use Rattle.listing.proofs.put_byte.Goals as goal

pub returns-in-10 : goal.returns-in-10
returns-in-10 c = rw (escaped-feed c.args.b c.in-10.is) c.put_plain.ensures

pub returns-in-92 : goal.returns-in-92
returns-in-92 c = rw (escaped-backslash c.args.b c.in-92.is) c.put_plain-in-92.ensures

pub returns-in_default : goal.returns-in_default
returns-in_default c = rw (escaped-other c.args.b (ne_eqb _ 10 (λ e. omega arith)) (ne_eqb _ 92 (λ e. omega arith))) c.put_sign.ensures
