use borrow.Author.Rules.{rules}
use native.Mathlib.Omega.{arith}
use mathlib.Core.Path.{sym}
use Rattle.mark_writing.proofs.Looking.{here-start, look-end, look-leave, look-text, look-gone, look-nothing, mark-deep, mark-ready, mark-some, mark-empty}
use Rattle.mark_writing.proofs.Slotting.{bounds}
use Rattle.mark_tags.specs.Flat.{bound_at}
use Rattle.mark_writing.proofs.look.Items.next_of.Goals as goal

pub loop-i-init : goal.loop-i-init
loop-i-init c = here-start _ _ _ _ _ c.requires

pub returns-then-code-eq2 : goal.returns-then-code-eq2
returns-then-code-eq2 c = let l = c.loop-i in
    let a = c.args in
    sym (look-leave a.self.text.now a.self.nums.now a.self.k a.from a.depth l.i l.invariant (omega arith) (rw c.code-code.ensures at c.if-code-eq2.true)).1

pub byte-requires : goal.byte-requires
unfolding bound_at
byte-requires c = let l = c.loop-i in
    let a = c.args in
    let b = bounds a.self.text.now a.self.nums.now a.self.k l.i l.invariant.ready.table (omega arith) in
    let z = c.if-a-bound.true in
    let x = c.bound-a.ensures in
    let y = c.bound.ensures in
    omega arith

pub returns-then-a-bound : goal.returns-then-a-bound
unfolding bound_at
returns-then-a-bound c = let l = c.loop-i in
    let a = c.args in
    rw (c.byte.ensures, c.bound-a.ensures) (sym (look-text a.self.text.now a.self.nums.now a.self.k a.from a.depth l.i l.invariant (omega arith) (rw c.code-code.ensures at c.if-code-eq0.true) (rw (c.bound-a.ensures, c.bound.ensures) at c.if-a-bound.true)).1)

pub loop-i-smaller-then-code-eq0 : goal.loop-i-smaller-then-code-eq0
loop-i-smaller-then-code-eq0 c = let l = c.loop-i in let t' = l.invariant.ready.table in let sm = t'.small in let rm = t'.room in let fw = t'.few in let up = l.invariant.ready.up_to in search rules

pub loop-i-preserved-then-code-eq0 : goal.loop-i-preserved-then-code-eq0
unfolding bound_at
loop-i-preserved-then-code-eq0 c = let l = c.loop-i in
    let a = c.args in
    look-nothing a.self.text.now a.self.nums.now a.self.k a.from a.depth l.i l.invariant (omega arith) (rw c.code-code.ensures at c.if-code-eq0.true) (rw (c.bound-a.ensures, c.bound.ensures) at c.if-a-bound.false)

pub loop-i-smaller-then-code-lt4 : goal.loop-i-smaller-then-code-lt4
loop-i-smaller-then-code-lt4 c = let l = c.loop-i in let t' = l.invariant.ready.table in let sm = t'.small in let rm = t'.room in let fw = t'.few in let up = l.invariant.ready.up_to in search rules

pub loop-i-preserved-then-code-lt4 : goal.loop-i-preserved-then-code-lt4
loop-i-preserved-then-code-lt4 c = let l = c.loop-i in
    let a = c.args in
    look-gone a.self.text.now a.self.nums.now a.self.k a.from a.depth l.i l.invariant (omega arith) (rw c.code-code.ensures at c.if-code-eq0.false) (rw c.code-code.ensures at c.if-code-eq2.false) (rw c.code-code.ensures at c.if-code-lt4.true)

pub overflow_sub-depth : goal.overflow_sub-depth
overflow_sub-depth c = let l = c.loop-i in
    let a = c.args in
    let d = mark-deep a.self.text.now a.self.nums.now a.self.k a.from a.depth l.i l.invariant (omega arith) (rw c.code-code.ensures at c.if-code-lt4.false) in omega arith

pub content-requires : goal.content-requires
content-requires c = let l = c.loop-i in
    let a = c.args in
    mark-ready a.self.text.now a.self.nums.now a.self.k a.from a.depth l.i l.invariant (omega arith) (rw c.code-code.ensures at c.if-code-lt4.false)

pub returns-in-None : goal.returns-in-None
returns-in-None c = let l = c.loop-i in
    let a = c.args in
    sym (mark-some a.self.text.now a.self.nums.now a.self.k a.from a.depth l.i l.invariant (omega arith) (rw c.code-code.ensures at c.if-code-lt4.false) c.in-None.ensures).1

pub loop-i-smaller : goal.loop-i-smaller
loop-i-smaller c = let l = c.loop-i in
    let a = c.args in
    let f = c.in-Some.ensures.forward in
    omega arith

pub loop-i-preserved : goal.loop-i-preserved
loop-i-preserved c = let l = c.loop-i in
    let a = c.args in
    mark-empty a.self.text.now a.self.nums.now a.self.k a.from a.depth l.i l.invariant (omega arith) (rw c.code-code.ensures at c.if-code-lt4.false) _ c.in-Some.ensures

pub returns : goal.returns
returns c = let l = c.loop-i in
    let a = c.args in
    sym (look-end a.self.text.now a.self.nums.now a.self.k a.from a.depth l.i l.invariant (omega arith)).1
