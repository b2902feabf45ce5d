use borrow.Author.Rules.{rules}
use native.Mathlib.Omega.{arith}
use mathlib.Core.Path.{refl, ◌∙◌}
use native.Mathlib.Nat.{le_antisymm}
use Rattle.text.proofs.Bytes.{first-later}
use Rattle.text.proofs.Characters.{lead}
use Rattle.text.proofs.blank.number_plain.Goals as goal

pub loop-j-init : goal.loop-j-init
loop-j-init c = (search rules, search rules, refl, refl)

pub number_run-requires : goal.number_run-requires
number_run-requires c = let l = c.loop-j in
    let a = c.args in
    let p = c.requires in
    let n = c.min-n.ensures in
    let f = first-later lead a.s.now a.i l.j l.invariant.0 (omega (arith, p.1.2, l.invariant.1)) in
    ((p.0.0, omega (arith, p.0.1, l.invariant.2)), (omega (arith, n), omega (arith, n, p.1.1), omega (arith, n, f, p.1.2)))

pub overflow_add-j : goal.overflow_add-j
overflow_add-j c = let n = c.min-n.ensures in omega (arith, n, c.requires.1.1, c.requires.0.0)

pub loop-j-smaller : goal.loop-j-smaller
loop-j-smaller c = let n = c.min-n.ensures in omega (arith, n, c.loop-j-test.true)

pub loop-j-preserved : goal.loop-j-preserved
loop-j-preserved c = let l = c.loop-j in
    let n = c.min-n.ensures in
    (omega (arith, l.invariant.0), omega (arith, n, c.loop-j-test.true), search rules, l.invariant.3 ∙ c.number_run.ensures)

pub returns : goal.returns
returns c = let l = c.loop-j in
    rw (le_antisymm c.loop-j-test.false l.invariant.1) l.invariant.3
