use borrow.Author.Rules.{rules}
use native.Mathlib.Omega.{arith}
use mathlib.Core.Path.{refl, sym, ap, ◌∙◌}
use Prim.Native.Nat.{ℕ, ◌+◌}
use mathlib.Core.List.{List, []}
use lib.ListN.{length}
use lib.ListN.{length-set}
use mathlib.Core.Path.{subst}
use Rattle.mark_tags.specs.Flat.{Tagged}
use Rattle.mark_tags.specs.Marks.{Kind}
use Rattle.mark_items.proofs.Tabling.{tagged-from}
use Rattle.mark_items.proofs.TagReading.{wide-three}
use Rattle.mark_tags.specs.Marks.{ends}
use Rattle.mark_tags.specs.Flat.{code_of, numbered_tag}
use Rattle.mark_items.proofs.TagReading.{tag-within, stack-kept, reading_step}
use Rattle.mark_items.proofs.Tabling.{reading-start, reading-past, reading-end}
use Rattle.mark_items.proofs.Scanning.{number-none}
use Rattle.mark_items.proofs.items.read_tags.Goals as goal

pub loop-i-init : goal.loop-i-init
loop-i-init c = let a = c.args in (refl, reading-start a.text.now a.nums.now (omega arith))

pub loop-i-smaller-then-tag-eq0 : goal.loop-i-smaller-then-tag-eq0
loop-i-smaller-then-tag-eq0 c = let n = c.next_byte-i.ensures in let t = c.loop-i-test in omega arith

pub loop-i-preserved-then-tag-eq0 : goal.loop-i-preserved-then-tag-eq0
loop-i-preserved-then-tag-eq0 c = let l = c.loop-i in
    let a = c.args in
    (search rules, reading-past a.text.now _ _ l.i l.j l.depth _ (omega arith) (number-none _ (sym c.tag_at-tag.ensures ∙ c.if-tag-eq0.true)) c.next_byte-i.ensures l.invariant.1)

pub code_of-code-requires : goal.code_of-code-requires
code_of-code-requires c = let l = c.loop-i in
    let a = c.args in
    let s = length-set a.nums.now (length a.text.now) 0 in
    let f = l.invariant.1.from in
    let g = l.invariant.1.few in
    let h = l.invariant.1.deep in
    search rules

pub put_item-requires : goal.put_item-requires
put_item-requires c = let l = c.loop-i in
    let a = c.args in
    let s = length-set a.nums.now (length a.text.now) 0 in
    let f = l.invariant.1.from in
    let g = l.invariant.1.few in
    let h = l.invariant.1.deep in
    search rules

pub overflow_add-i-else-tag-eq0 : goal.overflow_add-i-else-tag-eq0
overflow_add-i-else-tag-eq0 c = let l = c.loop-i in
    let a = c.args in
    let s = length-set a.nums.now (length a.text.now) 0 in
    let f = l.invariant.1.from in
    let g = l.invariant.1.few in
    let h = l.invariant.1.deep in
    let w = tag-within a.text.now _ _ l.i l.j l.depth (omega arith) l.invariant.1 c.tag_at-tag.result c.tag_at-tag.ensures c.if-tag-eq0.false in
    let y = c.width_of-w.ensures in
    omega arith

pub put_item-requires-else-tag-eq0 : goal.put_item-requires-else-tag-eq0
put_item-requires-else-tag-eq0 c = let l = c.loop-i in
    let a = c.args in
    let s = length-set a.nums.now (length a.text.now) 0 in
    let f = l.invariant.1.from in
    let g = l.invariant.1.few in
    let h = l.invariant.1.deep in
    let w = tag-within a.text.now _ _ l.i l.j l.depth (omega arith) l.invariant.1 c.tag_at-tag.result c.tag_at-tag.ensures c.if-tag-eq0.false in
    let y = c.width_of-w.ensures in
    search rules

pub stack_after-depth-requires : goal.stack_after-depth-requires
stack_after-depth-requires c = let l = c.loop-i in
    let a = c.args in
    let s = length-set a.nums.now (length a.text.now) 0 in
    let f = l.invariant.1.from in
    let g = l.invariant.1.few in
    let h = l.invariant.1.deep in
    let r = c.tag_at-tag.result in
    let k = stack-kept a.text.now _ l.nums l.i l.j l.depth (omega arith) l.invariant.1 r c.tag_at-tag.ensures c.if-tag-eq0.false
    c.code_of-code.result c.width_of-w.result 0 _ _ [] c.code_of-code.ensures c.width_of-w.ensures c.put_item.ensures c.put_item-else-tag-eq0.ensures (omega arith) in
    ((omega arith, c.code_of-code.ensures ∙ ap (λ (ks : List Kind). code_of r (ends (numbered_tag r) ks)) (sym k)), (omega arith, search rules))

pub overflow_add-i-else-tag-eq0-2 : goal.overflow_add-i-else-tag-eq0-2
overflow_add-i-else-tag-eq0-2 c = let l = c.loop-i in
    let a = c.args in
    let s = length-set a.nums.now (length a.text.now) 0 in
    let f = l.invariant.1.from in
    let g = l.invariant.1.few in
    let h = l.invariant.1.deep in
    let w = tag-within a.text.now _ _ l.i l.j l.depth (omega arith) l.invariant.1 c.tag_at-tag.result c.tag_at-tag.ensures c.if-tag-eq0.false in
    let y = c.width_of-w.ensures in
    omega arith

pub loop-i-smaller : goal.loop-i-smaller
loop-i-smaller c = let l = c.loop-i in
    let a = c.args in
    let s = length-set a.nums.now (length a.text.now) 0 in
    let f = l.invariant.1.from in
    let g = l.invariant.1.few in
    let h = l.invariant.1.deep in
    let w = tag-within a.text.now _ _ l.i l.j l.depth (omega arith) l.invariant.1 c.tag_at-tag.result c.tag_at-tag.ensures c.if-tag-eq0.false in
    let y = c.width_of-w.ensures in
    let t = wide-three c.tag_at-tag.result in
    omega arith

pub loop-i-preserved : goal.loop-i-preserved
loop-i-preserved c = let l = c.loop-i in
    let a = c.args in
    let s = length-set a.nums.now (length a.text.now) 0 in
    let f = l.invariant.1.from in
    let g = l.invariant.1.few in
    let h = l.invariant.1.deep in (
      search rules,
      reading_step a.text.now _ l.nums l.i l.j l.depth (omega arith) l.invariant.1 c.tag_at-tag.result c.tag_at-tag.ensures c.if-tag-eq0.false
          c.code_of-code.result c.width_of-w.result _ _ _ _ c.code_of-code.ensures c.width_of-w.ensures c.put_item.ensures c.put_item-else-tag-eq0.ensures (omega arith) c.stack_after-depth.ensures,
    )

pub put_item-requires-2 : goal.put_item-requires-2
put_item-requires-2 c = let l = c.loop-i in
    let a = c.args in
    let s = length-set a.nums.now (length a.text.now) 0 in
    let f = l.invariant.1.from in
    let g = l.invariant.1.few in
    let h = l.invariant.1.deep in
    let u = l.invariant.1.up_to in
    search rules

pub shape_of-nums : goal.shape_of-nums
shape_of-nums c = let l = c.loop-i in
    let a = c.args in
    let s = length-set a.nums.now (length a.text.now) 0 in
    let f = l.invariant.1.from in
    let g = l.invariant.1.few in
    let h = l.invariant.1.deep in
    search rules

pub returns : goal.returns
returns c = let l = c.loop-i in
    let a = c.args in
    let s = length-set a.nums.now (length a.text.now) 0 in
    let f = l.invariant.1.from in
    let g = l.invariant.1.few in
    let h = l.invariant.1.deep in
    subst (λ (ns : List ℕ). Tagged a.text.now a.nums.now ns (l.j + 1)) (sym c.put_item-2.ensures)
    (tagged-from a.text.now a.nums.now _ _ (reading-end a.text.now _ l.nums l.i l.j l.depth (omega arith) (omega arith) l.invariant.1))
