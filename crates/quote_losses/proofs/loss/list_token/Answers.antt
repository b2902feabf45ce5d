use native.Mathlib.Omega.{arith}
use mathlib.Core.Path.{refl, sym}
use Rattle.quote_tags.specs.Tags.{closers, closer_size}
use Rattle.quote_tags.proofs.Tagging.{behind-within, tag-opener, tag-closer, tag-plain}
use Rattle.quote_losses.proofs.Recording.{attribution-part, opener-room, attribution-short, lists-opener, lists-closer, lists-text, front-listed}
use Rattle.quote_losses.proofs.Depths.{depth-opener, depth-closer, depth-text}
use Rattle.quote_losses.proofs.loss.list_token.Goals as goal

pub overflow_add-e : goal.overflow_add-e
overflow_add-e c = let k = tag-opener _ _ c.tag_at-tag.ensures.kind c.in-Opener.is in
    let room = opener-room c.args.source.now c.args.from.at.0 _ _ c.requires.0.0 k.0 k.1 c.attribution_size.ensures in
    omega (arith, room.0, room.1, c.requires.0.1)

pub slice_bounds-line_of-end : goal.slice_bounds-line_of-end
slice_bounds-line_of-end c = let k = tag-opener _ _ c.tag_at-tag.ensures.kind c.in-Opener.is in
    let room = opener-room c.args.source.now c.args.from.at.0 _ _ c.requires.0.0 k.0 k.1 c.attribution_size.ensures in
    omega (arith, room.0, room.1)

pub slice_bounds-put_losses-end : goal.slice_bounds-put_losses-end
slice_bounds-put_losses-end c = let k = tag-opener _ _ c.tag_at-tag.ensures.kind c.in-Opener.is in
    let room = opener-room c.args.source.now c.args.from.at.0 _ _ c.requires.0.0 k.0 k.1 c.attribution_size.ensures in
    omega (arith, room.0, room.1)

pub returns-in-Opener : goal.returns-in-Opener
returns-in-Opener c = let t = c.tag_at-tag.ensures in
    let k = tag-opener _ _ t.kind c.in-Opener.is in
    let lt = c.requires.0.0 in
    let h = attribution-short c.args.source.now c.args.from.at.0 _ _ lt k.0 k.1 c.attribution_size.ensures in
    let f = front-listed c.args.numbers.now _ c.args.base c.requires.1.1.1 c.put_losses-counts.auto.records
    (lists-opener c.args.source.now _ _ _ c.args.from.at.0 _ _ _ _ lt c.requires.1.0.1 _ t.next.0 _ k.0
    _ _ _ _ _ _ _ k.1 (attribution-part c.args.source.now c.args.from.at.0 _ _ k.0 c.attribution_size.ensures) (omega (arith, h)) c.line_of-found.ensures c.put_losses-counts.ensures) in
    (f.0, (f.1, (λ h. depth-opener c.args.source.now c.args.from.at.0 _ _ lt h k.0 k.1 (c.open_more.ensures.0 h), c.open_more.ensures.1)))

pub overflow_add-result-in-Closer : goal.overflow_add-result-in-Closer
unfolding closer_size
overflow_add-result-in-Closer c = let k = tag-closer _ _ c.tag_at-tag.ensures.kind c.in-Closer.is in
    let w = behind-within closers c.args.source.now c.args.from.at.0 (omega arith) k.1.0 in
    omega (arith, w, c.requires.0.1)

pub returns-in-Closer : goal.returns-in-Closer
returns-in-Closer c = let t = c.tag_at-tag.ensures in
    let k = tag-closer _ _ t.kind c.in-Closer.is in
    let lt = c.requires.0.0 in (
      lists-closer c.args.source.now _ _ _ c.args.from.at.0 _ _ _ _ lt c.requires.1.0.1 _ t.next.0 _ (sym k.0) refl _ k.1.0 k.1.1,
      (refl, (λ h. depth-closer c.args.source.now c.args.from.at.0 _ _ lt h (sym k.0) _ refl k.1.0 k.1.1 (c.open_less.ensures.0 h), c.open_less.ensures.1)),
    )

pub returns-in-Plain : goal.returns-in-Plain
returns-in-Plain c = let t = c.tag_at-tag.ensures in
    let k = tag-plain _ _ t.kind c.in-Plain.is in
    let lt = c.requires.0.0 in (
      lists-text c.args.source.now _ _ _ c.args.from.at.0 _ _ _ _ lt c.requires.1.0.1 _ t.next.0 _ (sym k.0) refl _ (sym k.1) refl c.next_tag.ensures,
      (refl, (λ h. depth-text c.args.source.now c.args.from.at.0 _ _ lt h (sym k.0) _ refl (sym k.1) refl c.next_tag.ensures, (λ h. refl, c.requires.1.0.0.1))),
    )
