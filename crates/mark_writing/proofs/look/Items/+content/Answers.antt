use native.Mathlib.Omega.{arith}
use Rattle.mark_writing.proofs.Looking.{here-start, look-end, look-leave, look-text, look-gone, look-nothing, mark-deep, mark-ready, mark-some, mark-empty}
use Rattle.mark_tags.specs.Flat.{bound_at}
use Rattle.mark_writing.proofs.look.Items.+content.Goals as goal

pub loop-i-init : goal.loop-i-init
loop-i-init t c = here-start _ _ _ _ _ c.requires

pub returns-then-code-eq2 : goal.returns-then-code-eq2
returns-then-code-eq2 t c = let l = c.loop-i in
    let a = c.args in
    (look-leave a.self.text.now a.self.nums.now a.self.k a.from a.depth l.i l.invariant (omega arith) (rw c.code-code.ensures at c.if-code-eq2.true)).0

pub returns-then-bound : goal.returns-then-bound
unfolding bound_at
returns-then-bound t c = let l = c.loop-i in
    let a = c.args in
    (look-text a.self.text.now a.self.nums.now a.self.k a.from a.depth l.i l.invariant (omega arith) (rw c.code-code.ensures at c.if-code-eq0.true) (rw (c.bound.ensures, c.bound-then-code-eq0.ensures) at c.if-bound.true)).0

pub loop-i-preserved-then-code-eq0 : goal.loop-i-preserved-then-code-eq0
unfolding bound_at
loop-i-preserved-then-code-eq0 t c = let l = c.loop-i in
    let a = c.args in
    look-nothing a.self.text.now a.self.nums.now a.self.k a.from a.depth l.i l.invariant (omega arith) (rw c.code-code.ensures at c.if-code-eq0.true) (rw (c.bound.ensures, c.bound-then-code-eq0.ensures) at c.if-bound.false)

pub loop-i-preserved-then-code-lt4 : goal.loop-i-preserved-then-code-lt4
loop-i-preserved-then-code-lt4 t c = let l = c.loop-i in
    let a = c.args in
    look-gone a.self.text.now a.self.nums.now a.self.k a.from a.depth l.i l.invariant (omega arith) (rw c.code-code.ensures at c.if-code-eq0.false) (rw c.code-code.ensures at c.if-code-eq2.false) (rw c.code-code.ensures at c.if-code-lt4.true)

pub overflow_sub-depth : goal.overflow_sub-depth
overflow_sub-depth t c = let l = c.loop-i in
    let a = c.args in
    let d = mark-deep a.self.text.now a.self.nums.now a.self.k a.from a.depth l.i l.invariant (omega arith) (rw c.code-code.ensures at c.if-code-lt4.false) in omega arith

pub content-requires : goal.content-requires
content-requires t c = let l = c.loop-i in
    let a = c.args in
    let d = mark-deep a.self.text.now a.self.nums.now a.self.k a.from a.depth l.i l.invariant (omega arith) (rw c.code-code.ensures at c.if-code-lt4.false) in
    (omega arith, mark-ready a.self.text.now a.self.nums.now a.self.k a.from a.depth l.i l.invariant (omega arith) (rw c.code-code.ensures at c.if-code-lt4.false))

pub returns-in_err-i : goal.returns-in_err-i
returns-in_err-i t c = let l = c.loop-i in
    let a = c.args in
    rw c.from_residual.ensures (mark-some a.self.text.now a.self.nums.now a.self.k a.from a.depth l.i l.invariant (omega arith) (rw c.code-code.ensures at c.if-code-lt4.false) c.in_err-i.ensures).0

pub loop-i-smaller : goal.loop-i-smaller
loop-i-smaller t c = let f = c.in_ok-i.ensures.forward in omega arith

pub loop-i-preserved : goal.loop-i-preserved
loop-i-preserved t c = let l = c.loop-i in
    let a = c.args in
    mark-empty a.self.text.now a.self.nums.now a.self.k a.from a.depth l.i l.invariant (omega arith) (rw c.code-code.ensures at c.if-code-lt4.false) _ c.in_ok-i.ensures

pub returns : goal.returns
returns t c = let l = c.loop-i in
    let a = c.args in
    (look-end a.self.text.now a.self.nums.now a.self.k a.from a.depth l.i l.invariant (omega arith)).0
