use native.Mathlib.Omega.{arith}
use Rattle.post.proofs.Calling.{marks-same}
use Rattle.chain.specs.Post.{marks_text}
use Rattle.post.proofs.mark_post.Goals as goal

pub set_cells-requires : goal.set_cells-requires
set_cells-requires c = let p = c.requires in
    (p.0.0, (omega (arith, p.1.0), omega (arith, p.1.1)))

pub returns-then-is_untagged : goal.returns-then-is_untagged
returns-then-is_untagged c = let x = c.args in
    let p = c.requires in
    let s = c.set_cells in
    marks-same x.post.now _ _ x.m c.if-n-m.true (omega (arith, p.1.0, s.auto.work)) (omega (arith, p.1.1, s.auto.numbers)) (c.is_untagged.ensures c.if-is_untagged.true) s.ensures

pub set_cells-requires-2 : goal.set_cells-requires-2
set_cells-requires-2 c = let p = c.requires in
    (p.0.0, (omega (arith, p.1.0), omega (arith, p.1.1)))

pub marks_pass-requires : goal.marks_pass-requires
marks_pass-requires c = let p = c.requires in
    let s = c.set_cells-2 in
    (p.0, ((omega arith, omega (arith, p.0)), (omega (arith, p.1.0, s.auto.work), omega (arith, p.1.1, s.auto.numbers))))

pub returns : goal.returns
unfolding marks_text
returns c = rw c.set_cells-2.ensures at c.marks_pass.ensures.holds
