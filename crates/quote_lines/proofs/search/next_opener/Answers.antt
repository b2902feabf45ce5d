use native.Mathlib.Omega.{arith}
use mathlib.Core.Path.{refl}
use mathlib.Core.Path.{◌≡◌, subst}
use lib.ListN.{length, drop}
use Rattle.quote_tags.specs.Tags.{opener_size}
use Rattle.quote_tags.proofs.Plain.{bracket-past}
use Rattle.quote_tags.proofs.Tagging.{tag-opener, tag-other}
use Rattle.quote_lines.specs.Tables.{Untagged}
use Rattle.quote_lines.proofs.Tabling.{untagged, untagged-past, untagged-byte, opener-found}
use Rattle.quote_lines.proofs.search.next_opener.Goals as goal

pub loop-i-init : goal.loop-i-init
loop-i-init c = (untagged _ _ c.requires.0, c.requires.1)

pub tag_at-tag-requires : goal.tag_at-tag-requires
tag_at-tag-requires c = let l = c.loop-i in let e = c.next_tag-at.ensures in let u = untagged-past l.invariant.0 e in (u.inside, bracket-past _ l.i _ e.0.0 u.inside l.invariant.1)

pub returns-in-Opener : goal.returns-in-Opener
returns-in-Opener c = let l = c.loop-i in
    let E = c.tag_at-tag.ensures in
    let a = c.in-Opener in
    let k = tag-opener _ _ E.kind a.is in
    (opener-found (untagged-past l.invariant.0 c.next_tag-at.ensures) refl k.0 E.next.0 (λ _. E.next.1 (λ n. absurd (cc (n, a.is)))) k.1, k.1)

pub returns-then-s-at : goal.returns-then-s-at
returns-then-s-at c = let u = untagged-past c.loop-i.invariant.0 c.next_tag-at.ensures in let z : c.next_tag-at.result.0 ≡ length c.args.s.now = omega (arith, u.inside, c.if-s-at.true) in subst (λ p. Untagged c.args.s.now c.args.at.0 p) z u

pub loop-i-preserved : goal.loop-i-preserved
loop-i-preserved c = let l = c.loop-i in
    let E = c.tag_at-tag.ensures in
    let u = untagged-past l.invariant.0 c.next_tag-at.ensures in
    let z : opener_size (drop c.next_tag-at.result.0 c.args.s.now) ≡ 0 = tag-other _ _ E.kind c.in_default.not-Opener in
    let v = untagged-byte u c.if-s-at.false z in (v, bracket-past _ c.next_tag-at.result.0 _ (omega arith) v.inside E.next.0)
