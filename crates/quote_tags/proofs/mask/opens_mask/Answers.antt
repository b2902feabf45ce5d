use native.Mathlib.Omega.{arith}
use mathlib.Core.Path.{sym, ◌∙◌}
use lib.ListN.{drop}
use Rattle.quote_tags.proofs.Plain.{second-not}
use Rattle.quote_tags.proofs.Unmasking.{no-mask}
use Rattle.quote_tags.proofs.mask.opens_mask.Goals as goal

pub returns-else-begins_at : goal.returns-else-begins_at
returns-else-begins_at c = λ z. let a = c.args in let s = a.s.now in let i = a.at.0 in let y = c.byte_at.ensures in let t = c.small_of.ensures in no-mask (drop i s) (sym c.begins_at.ensures ∙ c.if-begins_at.false) (sym c.begins_at-else-begins_at.ensures ∙ z) (second-not s i y t _ _ _ (λ q. omega (arith, q, c.in-99.is))) (second-not s i y t _ _ _ (λ q. omega (arith, q, c.in-99.is)))

pub returns-in-105 : goal.returns-in-105
returns-in-105 c = λ z. let a = c.args in let s = a.s.now in let i = a.at.0 in let y = c.byte_at.ensures in let t = c.small_of.ensures in no-mask (drop i s) (second-not s i y t _ _ _ (λ q. omega (arith, q, c.in-105.is))) (second-not s i y t _ _ _ (λ q. omega (arith, q, c.in-105.is))) (sym c.begins_at-in-105.ensures ∙ z) (second-not s i y t _ _ _ (λ q. omega (arith, q, c.in-105.is)))

pub returns-in-110 : goal.returns-in-110
returns-in-110 c = λ z. let a = c.args in let s = a.s.now in let i = a.at.0 in let y = c.byte_at.ensures in let t = c.small_of.ensures in no-mask (drop i s) (second-not s i y t _ _ _ (λ q. omega (arith, q, c.in-110.is))) (second-not s i y t _ _ _ (λ q. omega (arith, q, c.in-110.is))) (second-not s i y t _ _ _ (λ q. omega (arith, q, c.in-110.is))) (sym c.begins_at-in-110.ensures ∙ z)

pub returns-in_default : goal.returns-in_default
returns-in_default c = λ z. let a = c.args in let s = a.s.now in let i = a.at.0 in let y = c.byte_at.ensures in let t = c.small_of.ensures in no-mask (drop i s) (second-not s i y t _ _ _ (λ q. omega (arith, q))) (second-not s i y t _ _ _ (λ q. omega (arith, q))) (second-not s i y t _ _ _ (λ q. omega (arith, q))) (second-not s i y t _ _ _ (λ q. omega (arith, q)))
