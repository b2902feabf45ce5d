use native.Mathlib.Omega.{arith}
use mathlib.Core.Path.{refl, sym}
use Rattle.mark_pieces.proofs.Areal.{area-size, kept-none}
use Rattle.mark_writing.proofs.SlotAsking.{ones-few, behind-ready}
use Rattle.mark_writing.proofs.MarkWriting.{mark-full, mark-asks, mark-written}
use Rattle.mark_writing.proofs.Inwards.{bytes_same, numbers_same, ready-as, next-as}
use Rattle.mark_writing.proofs.slot.end_mark.Goals as goal

pub returns-then-w : goal.returns-then-w
returns-then-w c = let s = area-size c.args.w.now in
    let z = c.if-w.true in
    (λ b. mark-full b (omega (arith, s, z)), kept-none _)

pub overflow_sub-depth : goal.overflow_sub-depth
overflow_sub-depth c = let f = ones-few c.args.mark.mask c.requires.0.ready.slot.small in omega arith

pub next_of-next-requires : goal.next_of-next-requires
next_of-next-requires c = let m = c.requires.0 in let o = c.items_of.ensures in ready-as (sym o.0) (sym o.1.0) (sym o.1.1) (behind-ready m.ready _ m.body.up_to m.body.behind)

pub finish_mark-braces-requires : goal.finish_mark-braces-requires
finish_mark-braces-requires c = let s = area-size c.args.w.now in
    let z = c.if-w.false in
    mark-asks c.requires.0 (omega (arith, s, z)) _ c.byte.ensures.1

pub returns : goal.returns
returns c = let a = c.args in
    let s = area-size a.w.now in
    let z = c.if-w.false in
    let closed = c.finish_mark-braces in (
      λ b. mark-written b (omega (arith, s, z)) _ _ _ _ _ _ _ _ _ (bytes_same closed.ensures.kept) (numbers_same closed.ensures.kept) closed.auto.spans
          (next-as a.body.item c.items_of.ensures.0 c.items_of.ensures.1.0 c.items_of.ensures.1.1 c.next_of-next.ensures) c.byte.ensures.0 closed.ensures.finished c.last_of.ensures refl,
      closed.ensures.kept,
    )
