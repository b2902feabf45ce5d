use borrow.Author.Rules.{rules}
use native.Mathlib.Omega.{arith}
use mathlib.Core.Path.{refl, sym, ◌∙◌}
use Rattle.quote_tags.proofs.Tagging.{tag-opener, tag-closer, tag-plain}
use Rattle.quote_steps.proofs.Taking.{opener-within, closer-within, token-opener, token-stray, token-closer, token-text}
use Rattle.quote_steps.proofs.close.Memory.take_token.Goals as goal

pub push-requires : goal.push-requires
push-requires c = let k = tag-opener _ _ (rw c.text.ensures at c.tag_at-tag.ensures.kind) c.in-Opener.is in c.requires.room (λ z. k.1 (k.0 ∙ z))

pub overflow_add-result : goal.overflow_add-result
overflow_add-result c = let k = tag-opener _ _ (rw c.text.ensures at c.tag_at-tag.ensures.kind) c.in-Opener.is in
    let w = opener-within c.requires k.0 in
    omega (arith, c.args.self.now.lent)

pub returns-in-Opener-clause-taken : goal.returns-in-Opener-clause-taken
returns-in-Opener-clause-taken c = let kind = rw c.text.ensures at c.tag_at-tag.ensures.kind in
    let next = rw c.text.ensures at c.tag_at-tag.ensures.next.0 in
    let k = tag-opener _ _ kind c.in-Opener.is in
    rw c.push.ensures (token-opener c.requires k.0 next k.1)

pub overflow_add-at : goal.overflow_add-at
overflow_add-at c = let k = tag-closer _ _ (rw c.text.ensures at c.tag_at-tag.ensures.kind) c.in-Closer.is in
    let w = closer-within c.requires (sym k.0) refl k.1.0 in
    omega (arith, c.args.self.now.lent)

pub returns-in_default-clause-taken : goal.returns-in_default-clause-taken
returns-in_default-clause-taken c = let kind = rw c.text.ensures at c.tag_at-tag.ensures.kind in
    let next = rw c.text.ensures at c.tag_at-tag.ensures.next.0 in
    let k = tag-closer _ _ kind c.in-Closer.is in
    let e = rw c.in_default.is at c.pop.ensures in
    rw (e.1 ∙ sym e.0) (token-stray c.requires (sym k.0) refl k.1.0 next k.1.1 e.0)

pub returns-in-Some-clause-taken : goal.returns-in-Some-clause-taken
returns-in-Some-clause-taken c = let kind = rw c.text.ensures at c.tag_at-tag.ensures.kind in
    let next = rw c.text.ensures at c.tag_at-tag.ensures.next.0 in
    let k = tag-closer _ _ kind c.in-Closer.is in
    token-closer c.requires (sym k.0) refl k.1.0 next k.1.1 (rw c.in-Some.is at c.pop.ensures) c.close_innermost-to.ensures.closed

pub returns-in-Plain-clause-taken : goal.returns-in-Plain-clause-taken
returns-in-Plain-clause-taken c = let kind = rw c.text.ensures at c.tag_at-tag.ensures.kind in
    let next = rw c.text.ensures at c.tag_at-tag.ensures.next.0 in
    let k = tag-plain _ _ kind c.in-Plain.is in
    token-text c.requires (sym k.0) refl (sym k.1) next refl (rw c.text-in-Plain.ensures at c.next_tag-at.ensures) c.copy_within-to.ensures (search rules) (search rules)
