use native.Mathlib.Omega.{arith}
use mathlib.Core.Path.{sym}
use Rattle.quote_steps.proofs.Joining.{opener-inside, attribution-missing, attribution-there}
use Rattle.quote_tags.proofs.Tagging.{sized-some, sized-none}
use Rattle.quote_steps.proofs.close.attribution_of.Goals as goal

pub overflow_add-result-in-Some : goal.overflow_add-result-in-Some
overflow_add-result-in-Some c = let a = c.args in let k = sized-some c.opener_size.ensures c.in-Some.is in let w = opener-inside a.s.now a.tag.0 _ (omega arith) k.0 in omega (arith, w)

pub returns-in-Some : goal.returns-in-Some
returns-in-Some c = let a = c.args in let k = sized-some c.opener_size.ensures c.in-Some.is in let w = opener-inside a.s.now a.tag.0 _ (omega arith) k.0 in ((omega (arith, c.if-k-ge9.true), omega (arith, w)), attribution-there a.s.now a.tag.0 _ (omega arith) k.0 (omega (arith, c.if-k-ge9.true)))

pub returns-in_default : goal.returns-in_default
returns-in_default c = let a = c.args in let k = sized-some c.opener_size.ensures c.in-Some.is in ((omega arith, omega arith), attribution-missing a.s.now a.tag.0 _ (omega arith) k.0 (omega (arith, c.if-k-ge9.false)))

pub returns-in_default-2 : goal.returns-in_default-2
returns-in_default-2 c = let a = c.args in let z = sized-none c.opener_size.ensures c.in_default.is in ((omega arith, omega arith), attribution-missing a.s.now a.tag.0 0 (omega arith) (sym z) (omega arith))
