use native.Mathlib.Omega.{arith}
use mathlib.Core.Path.{refl}
use Rattle.mark_tags.specs.Flat.{bound_at}
use Rattle.mark_writing.specs.Looked.{skips-gone, skips-nothing, skips-empty}
use Rattle.mark_writing.proofs.Slotting.{bounds}
use Rattle.mark_writing.proofs.Looking.{here-start, mark-deep, mark-ready}
use Rattle.mark_writing.proofs.Inwards.{text-ready}
use Rattle.mark_writing.proofs.look.Items.look.Goals as goal

pub returns-then-code-eq2 : goal.returns-then-code-eq2
returns-then-code-eq2 c = (rw c.code-code.ensures at c.if-code-eq2.true)

pub touches_mark-requires : goal.touches_mark-requires
unfolding bound_at
touches_mark-requires c = let a = c.args in
    let bd = bounds a.self.text.now a.self.nums.now a.self.k a.i c.requires.0.table c.requires.1 in
    let lt = c.if-a-e.true in
    let y = c.bound-e.ensures in
    (text-ready c.requires.0 c.requires.1 (rw c.code-code.ensures at c.if-code-eq0.true), (omega arith, omega arith))

pub byte-requires : goal.byte-requires
unfolding bound_at
byte-requires c = let a = c.args in
    let bd = bounds a.self.text.now a.self.nums.now a.self.k a.i c.requires.0.table c.requires.1 in
    let z = c.if-a-e.true in
    let y = c.bound-e.ensures in
    omega arith

pub returns-then-a-e : goal.returns-then-a-e
returns-then-a-e c = let a = c.args in
    record { code = (rw c.code-code.ensures at c.if-code-eq0.true); first = c.bound-a.ensures; behind = c.bound-e.ensures; some = c.if-a-e.true; touch = rw c.byte.ensures c.touches_mark.ensures; is = c.byte.ensures; small = omega arith }

pub returns-then-code-eq0 : goal.returns-then-code-eq0
returns-then-code-eq0 c = skips-nothing (rw c.code-code.ensures at c.if-code-eq0.true) (rw (c.bound-a.ensures, c.bound-e.ensures) at c.if-a-e.false) refl

pub returns-then-code-lt4 : goal.returns-then-code-lt4
returns-then-code-lt4 c = skips-gone (rw c.code-code.ensures at c.if-code-eq0.false) (rw c.code-code.ensures at c.if-code-eq2.false) (rw c.code-code.ensures at c.if-code-lt4.true) refl

pub overflow_sub-depth : goal.overflow_sub-depth
overflow_sub-depth c = let a = c.args in let d = mark-deep a.self.text.now a.self.nums.now a.self.k a.i a.depth a.i (here-start a.self.text.now a.self.nums.now a.self.k a.i a.depth c.requires.0) c.requires.1 (rw c.code-code.ensures at c.if-code-lt4.false) in omega arith

pub content_of-requires : goal.content_of-requires
content_of-requires c = let a = c.args in mark-ready a.self.text.now a.self.nums.now a.self.k a.i a.depth a.i (here-start a.self.text.now a.self.nums.now a.self.k a.i a.depth c.requires.0) c.requires.1 (rw c.code-code.ensures at c.if-code-lt4.false)

pub returns-in-None : goal.returns-in-None
returns-in-None c = ((rw c.code-code.ensures at c.if-code-lt4.false), c.in-None.ensures)

pub returns-in-Some : goal.returns-in-Some
returns-in-Some c = skips-empty (rw c.code-code.ensures at c.if-code-lt4.false) c.in-Some.ensures
