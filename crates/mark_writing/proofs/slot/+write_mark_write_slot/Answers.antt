use native.Mathlib.Omega.{arith}
use mathlib.Core.Path.{refl, sym, ap, ◌∙◌}
use Rattle.mark_tags.specs.Marks.{delimiter}
use Rattle.mark_tags.proofs.TagNumbers.{bit-numbered}
use Rattle.mark_pieces.proofs.Areal.{kept-none, kept-then, wrote-kept, area-wide}
use Rattle.mark_writing.specs.declared.look.Seen.TheVariants.{End, Text, Skip, Mark}
use Rattle.mark_writing.specs.Laid.{source, table}
use Rattle.mark_writing.proofs.SlotWriting.{drawing-start, drawn-end, drawn-leave, drawn-mark}
use Rattle.mark_writing.proofs.SlotAsking.{ones-few, fresh-ready}
use Rattle.mark_writing.proofs.MarkWriting.{spans-few}
use Rattle.mark_writing.proofs.Inwards.{same_source, same-table, bytes_same, area_same, source-size, table-in, piece-area, lies-on, held-as, ready-as, looked-as, mark-ready-as, mark-written-as, piece_inside, drawn-skip, drawn-piece}
use Rattle.mark_writing.proofs.MarkEnding.{opened-held, slot-asked, slot-falls, body-asked, mark-done}
use Rattle.mark_writing.proofs.slot.+write_mark_write_slot.Goals as goal

pub write_mark-items_of-requires : goal.write_mark-items_of-requires
write_mark-items_of-requires t c =
    opened-held c.args.text c.requires refl (c.delimiter-d.ensures ∙ ap delimiter c.kind_at-kind.ensures) c.put_sign.ensures

pub write_mark-end_mark-requires : goal.write_mark-end_mark-requires
write_mark-end_mark-requires t c =
    let b = c.write_text-body in
    body-asked c.args.text c.requires refl (c.delimiter-d.ensures ∙ ap delimiter c.kind_at-kind.ensures) c.put_sign.ensures refl (b.ensures.0 c.args.spans.now) b.ensures.1

pub write_mark-returns-then-is_one_text : goal.write_mark-returns-then-is_one_text
write_mark-returns-then-is_one_text t c =
    let b = c.write_text-body in
    mark-done c.args.text c.requires refl (c.delimiter-d.ensures ∙ ap delimiter c.kind_at-kind.ensures) c.put_sign.ensures refl (b.ensures.0 c.args.spans.now) b.ensures.1 c.end_mark.ensures

pub write_mark-write_slot-body-requires : goal.write_mark-write_slot-body-requires
write_mark-write_slot-body-requires t c =
    let f = slot-falls c.args.text c.requires refl (c.delimiter-d.ensures ∙ ap delimiter c.kind_at-kind.ensures) c.put_sign.ensures (c.bit.ensures ∙ bit-numbered _ _ c.kind_at-kind.ensures) in
    (omega arith, slot-asked c.args.text c.requires refl (c.delimiter-d.ensures ∙ ap delimiter c.kind_at-kind.ensures) c.put_sign.ensures (c.bit.ensures ∙ bit-numbered _ _ c.kind_at-kind.ensures))

pub write_mark-end_mark-requires-2 : goal.write_mark-end_mark-requires-2
write_mark-end_mark-requires-2 t c =
    let b = c.write_slot-body in
    body-asked c.args.text c.requires refl (c.delimiter-d.ensures ∙ ap delimiter c.kind_at-kind.ensures) c.put_sign.ensures b.auto.spans b.ensures.0 b.ensures.1

pub write_mark-returns : goal.write_mark-returns
write_mark-returns t c =
    let b = c.write_slot-body in
    mark-done c.args.text c.requires refl (c.delimiter-d.ensures ∙ ap delimiter c.kind_at-kind.ensures) c.put_sign.ensures b.auto.spans b.ensures.0 b.ensures.1 c.end_mark-2.ensures

pub write_slot-overflow_sub-depth : goal.write_slot-overflow_sub-depth
write_slot-overflow_sub-depth t c = ones-few c.args.mask c.requires.0.small

pub write_slot-loop-i-init : goal.write_slot-loop-i-init
write_slot-loop-i-init t c = (drawing-start _ _ _ _ _ _ _ _ _ _ _ c.requires.0, kept-none _)

pub write_slot-items_of-requires : goal.write_slot-items_of-requires
write_slot-items_of-requires t c =
    let a = c.args in
    let bh = c.requires.1.behind in
    let l = c.loop-i in
    (held-as (sym (same_source a.text bh l.invariant.1)) (sym (same-table a.text bh l.invariant.1)) c.requires.0.table, lies-on c.requires.1 l.invariant.1)

pub write_slot-look-requires : goal.write_slot-look-requires
write_slot-look-requires t c =
    let a = c.args in
    let sl = c.requires.0 in
    let bh = c.requires.1.behind in
    let l = c.loop-i in
    let o = c.items_of.ensures in
    let n = o.1.1 in (
      ready-as (sym (o.0 ∙ same_source a.text bh l.invariant.1)) (sym (o.1.0 ∙ same-table a.text bh l.invariant.1)) (sym n)
          (fresh-ready (source a.text a.w.now.bytes.now) (table a.text a.w.now.numbers.now) a.text.items l.i a.mask sl.table l.invariant.0.up_to sl.small l.invariant.0.fresh),
      omega arith,
    )

pub write_slot-returns-in-End : goal.write_slot-returns-in-End
write_slot-returns-in-End t c =
    let a = c.args in
    let bh = c.requires.1.behind in
    let l = c.loop-i in
    let lk = looked-as l.i End (c.items_of.ensures.0 ∙ same_source a.text bh l.invariant.1) (c.items_of.ensures.1.0 ∙ same-table a.text bh l.invariant.1) c.items_of.ensures.1.1 c.in-End.ensures in
    (drawn-leave (source a.text a.w.now.bytes.now) (table a.text a.w.now.numbers.now) a.text.items a.from a.mask _ _ _ _ _ _ _ _ l.i l.before l.guarded l.invariant.0 (omega arith) lk, l.invariant.1)

pub write_slot-in_work-from-requires : goal.write_slot-in_work-from-requires
write_slot-in_work-from-requires t c =
    let a = c.args in
    let ls = c.requires.1 in
    let l = c.loop-i in
    let lk = looked-as l.i (Text c.in-Text.a c.in-Text.e c.in-Text.touches c.in-Text.last) (c.items_of.ensures.0 ∙ same_source a.text ls.behind l.invariant.1) (c.items_of.ensures.1.0 ∙ same-table a.text ls.behind l.invariant.1) c.items_of.ensures.1.1 c.in-Text.ensures in
    let n = source-size a.text a.w.now ls in
    let pc = lk in
    let q = piece_inside c.requires.0.table c.loop-i-test.true pc in
    let sm = pc.some in
    let nr = ls.near in
    omega arith

pub write_slot-in_work-behind-requires : goal.write_slot-in_work-behind-requires
write_slot-in_work-behind-requires t c =
    let a = c.args in
    let ls = c.requires.1 in
    let l = c.loop-i in
    let lk = looked-as l.i (Text c.in-Text.a c.in-Text.e c.in-Text.touches c.in-Text.last) (c.items_of.ensures.0 ∙ same_source a.text ls.behind l.invariant.1) (c.items_of.ensures.1.0 ∙ same-table a.text ls.behind l.invariant.1) c.items_of.ensures.1.1 c.in-Text.ensures in
    let n = source-size a.text a.w.now ls in
    let q = piece_inside c.requires.0.table c.loop-i-test.true lk in
    let nr = ls.near in
    omega arith

pub write_slot-write_piece-requires : goal.write_slot-write_piece-requires
write_slot-write_piece-requires t c =
    let a = c.args in
    let ls = c.requires.1 in
    let bh = ls.behind in
    let ins = ls.inside in
    let rm = (table-in a.text a.w.now (c.requires.0.table, ls)).room in
    let l = c.loop-i in
    let kp = l.invariant.1.same in
    let lk = looked-as l.i (Text c.in-Text.a c.in-Text.e c.in-Text.touches c.in-Text.last) (c.items_of.ensures.0 ∙ same_source a.text bh l.invariant.1) (c.items_of.ensures.1.0 ∙ same-table a.text bh l.invariant.1) c.items_of.ensures.1.1 c.in-Text.ensures in
    let n = source-size a.text a.w.now ls in
    let q = piece_inside c.requires.0.table c.loop-i-test.true lk in
    let sm = lk.some in
    let u = c.in_work-from.ensures in
    let v = c.in_work-behind.ensures in
    let kb = kp.bytes-size in
    let kn = kp.numbers-size in
    let ke = kp.end in
    ((omega (arith, sm, u, v), omega (arith, u, bh, ke)), (omega (arith, v, q, n, ins, kb), omega (arith, v, q, n, rm, kn)))

pub write_slot-loop-i-preserved-in-Text : goal.write_slot-loop-i-preserved-in-Text
write_slot-loop-i-preserved-in-Text t c =
    let a = c.args in
    let ls = c.requires.1 in
    let bh = ls.behind in
    let l = c.loop-i in
    let zs = same_source a.text bh l.invariant.1 in
    let zt = same-table a.text bh l.invariant.1 in
    let lk = looked-as l.i (Text c.in-Text.a c.in-Text.e c.in-Text.touches c.in-Text.last) (c.items_of.ensures.0 ∙ zs) (c.items_of.ensures.1.0 ∙ zt) c.items_of.ensures.1.1 c.in-Text.ensures in
    let n = source-size a.text a.w.now ls in
    let q = piece_inside c.requires.0.table c.loop-i-test.true lk in
    let p = c.write_piece.ensures in (
      rw c.from-before.ensures (drawn-piece (source a.text a.w.now.bytes.now) (table a.text a.w.now.numbers.now) a.text.items a.from a.mask _ _ _ _ _ _ _ _ l.i l.before l.guarded l.invariant.0 c.loop-i-test.true c.requires.0.table lk (area_same (wrote-kept p)) (area_same l.invariant.1)
          (piece-area a.text _ _ _ _ _ _ _ _ zs zt c.in_work-from.ensures c.in_work-behind.ensures (omega (arith, q, n)) p)),
      kept-then l.invariant.1 (wrote-kept p),
    )

pub write_slot-loop-i-preserved-in-Skip : goal.write_slot-loop-i-preserved-in-Skip
write_slot-loop-i-preserved-in-Skip t c =
    let a = c.args in
    let bh = c.requires.1.behind in
    let l = c.loop-i in
    let lk = looked-as l.i (Skip c.in-Skip.item) (c.items_of.ensures.0 ∙ same_source a.text bh l.invariant.1) (c.items_of.ensures.1.0 ∙ same-table a.text bh l.invariant.1) c.items_of.ensures.1.1 c.in-Skip.ensures in
    (drawn-skip (source a.text a.w.now.bytes.now) (table a.text a.w.now.numbers.now) a.text.items a.from a.mask _ _ _ _ _ _ _ _ l.i l.before l.guarded l.invariant.0 c.loop-i-test.true c.requires.0.table _ lk, l.invariant.1)

pub write_slot-write_mark-mark-requires : goal.write_slot-write_mark-mark-requires
write_slot-write_mark-mark-requires t c =
    let a = c.args in
    let sl = c.requires.0 in
    let ls = c.requires.1 in
    let bh = ls.behind in
    let l = c.loop-i in
    let zs = same_source a.text bh l.invariant.1 in
    let zt = same-table a.text bh l.invariant.1 in
    let lk = looked-as l.i Mark (c.items_of.ensures.0 ∙ zs) (c.items_of.ensures.1.0 ∙ zt) c.items_of.ensures.1.1 c.in-Mark.ensures in
    let x = bytes_same l.invariant.1 in
    let sh = sl.short in (
      omega arith,
      (
        mark-ready-as (sym zs) (sym zt) (record {
          slot = record { table = sl.table; up_to = l.invariant.0.up_to; small = sl.small; fresh = l.invariant.0.fresh; short = omega (arith, x, sh); wide = area-wide l.w; few = l.invariant.0.few };
          inside = c.loop-i-test.true;
          mark = lk.0;
          some = lk.1;
          small = l.invariant.0.small;
        }),
        lies-on ls l.invariant.1,
      ),
    )

pub write_slot-loop-i-preserved : goal.write_slot-loop-i-preserved
write_slot-loop-i-preserved t c =
    let a = c.args in
    let bh = c.requires.1.behind in
    let l = c.loop-i in
    let zs = same_source a.text bh l.invariant.1 in
    let zt = same-table a.text bh l.invariant.1 in
    let lk = looked-as l.i Mark (c.items_of.ensures.0 ∙ zs) (c.items_of.ensures.1.0 ∙ zt) c.items_of.ensures.1.1 c.in-Mark.ensures in
    let d = c.write_mark-mark in (
      drawn-mark (source a.text a.w.now.bytes.now) (table a.text a.w.now.numbers.now) a.text.items a.from a.mask _ _ _ _ _ _ _ _ l.i l.before l.guarded l.invariant.0 c.loop-i-test.true lk.0 _ _ _ _ _ _ _ (area_same d.ensures.1) (area_same l.invariant.1) d.auto.spans lk.1
          (spans-few _ _) (mark-written-as zs zt d.ensures.0),
      kept-then l.invariant.1 d.ensures.1,
    )

pub write_slot-returns : goal.write_slot-returns
write_slot-returns t c =
    let a = c.args in
    let l = c.loop-i in
    (drawn-end (source a.text a.w.now.bytes.now) (table a.text a.w.now.numbers.now) a.text.items a.from a.mask _ _ _ _ _ _ _ _ l.i l.before l.guarded l.invariant.0 (omega arith), l.invariant.1)
