use native.Mathlib.Omega.{arith}
use mathlib.Core.Path.{refl, sym}
use Prim.Native.Nat.{◌≤◌}
use lib.ListN.{length}
use Rattle.quote_tags.proofs.Tagging.{behind-within, sized-some, sized-none, some-sized, none-sized}
use Rattle.quote_tags.proofs.Masking.{region-none, region-here, region-unclosed, closer-place}
use Rattle.quote_tags.proofs.mask.region_at.Goals as goal

pub returns-in_default : goal.returns-in_default
returns-in_default c = let z = sized-none c.size_of_either.ensures c.in_default.is in (none-sized (region-none _ _ (sym z)), (c.bracket_from-bracket.ensures, c.requires.1.1))

pub overflow_add-at : goal.overflow_add-at
overflow_add-at c = let a = c.args in let k = sized-some c.size_of_either.ensures c.in-Some.is in let w = behind-within _ a.s.now a.at.0 (omega (arith, c.requires.0)) k.0 in omega (arith, w)

pub closer_from-closer-requires : goal.closer_from-closer-requires
closer_from-closer-requires c = let a = c.args in let k = sized-some c.size_of_either.ensures c.in-Some.is in let w = behind-within _ a.s.now a.at.0 (omega (arith, c.requires.0)) k.0 in ((omega arith, w), c.requires.1.1)

pub next_bracket-requires : goal.next_bracket-requires
next_bracket-requires c = let a = c.args in let i = a.at.0 in let s = a.s.now in let h : i ≤ length s = omega (arith, c.requires.0) in let k = sized-some c.size_of_either.ensures c.in-Some.is in let P = closer-place _ _ s i _ _ h k.0 c.closer_from-closer.ensures.0 in P.1.1

pub size_of_either-requires-2 : goal.size_of_either-requires-2
size_of_either-requires-2 c = let a = c.args in let i = a.at.0 in let s = a.s.now in let h : i ≤ length s = omega (arith, c.requires.0) in let k = sized-some c.size_of_either.ensures c.in-Some.is in let P = closer-place _ _ s i _ _ h k.0 c.closer_from-closer.ensures.0 in (P.1.1, c.next_bracket.ensures)

pub returns-in_default-size_of_either : goal.returns-in_default-size_of_either
returns-in_default-size_of_either c = let a = c.args in let i = a.at.0 in let s = a.s.now in let k = sized-some c.size_of_either.ensures c.in-Some.is in let z = sized-none c.size_of_either-2.ensures c.in_default-size_of_either.is in (none-sized (region-unclosed (record { opens = _; closes = _ }) s i _ _ _ k.0 c.closer_from-closer.ensures.0 (sym z) k.1 refl), (c.bracket_from-bracket.ensures, c.closer_from-closer.ensures.1))

pub overflow_add-result : goal.overflow_add-result
overflow_add-result c = let a = c.args in let i = a.at.0 in let s = a.s.now in let h : i ≤ length s = omega (arith, c.requires.0) in let k = sized-some c.size_of_either.ensures c.in-Some.is in let z = sized-some c.size_of_either-2.ensures c.in-Some-size_of_either.is in let P = closer-place _ _ s i _ _ h k.0 c.closer_from-closer.ensures.0 in let w = behind-within _ s _ P.1.1 z.0 in omega (arith, w, P.1.0)

pub returns : goal.returns
returns c = let a = c.args in let i = a.at.0 in let s = a.s.now in let k = sized-some c.size_of_either.ensures c.in-Some.is in let z = sized-some c.size_of_either-2.ensures c.in-Some-size_of_either.is in (some-sized (region-here (record { opens = _; closes = _ }) s i _ _ _ k.0 c.closer_from-closer.ensures.0 z.0 k.1 z.1) (λ q. z.1 (omega (arith, q))), (c.bracket_from-bracket.ensures, c.closer_from-closer.ensures.1))
