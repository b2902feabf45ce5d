use native.Mathlib.Omega.{arith}
use mathlib.Core.Path.{◌≡◌, sym, ◌∙◌}
use lib.ListN.{length}
use borrow.Author.Tests.{eqb-true, eqb-false}
use Rattle.list_blocks.proofs.Values.{passes-start, passes-end, passes-bracket, passes-other, passes-blank}
use Rattle.text.proofs.Writing.{cells-le}
use Rattle.list_blocks.proofs.tag.skip_blank.Goals.{then-src-r-eq93-via-then-src-r-eq93, then-src-r-eq93-via-else-src-r-eq93+then-not-is_blank}
use Rattle.list_blocks.proofs.tag.skip_blank.Goals as goal

pub loop-r-init : goal.loop-r-init
loop-r-init c = passes-start _ _ (cells-le _ _ _ c.requires.0 (omega arith))

pub returns-then-src-r-eq93 : goal.returns-then-src-r-eq93
returns-then-src-r-eq93 c = let l = c.loop-r in
    elim c.then-src-r-eq93.branch [
      | then-src-r-eq93-via-then-src-r-eq93 w ↦ passes-bracket _ _ c.requires.1 _ l.r l.invariant (omega arith) w.if-src-r-eq93.true
      | then-src-r-eq93-via-else-src-r-eq93+then-not-is_blank w ↦ passes-other _ _ c.requires.1 _ l.r l.invariant (omega arith) w.if-src-r-eq93.false (eqb-false _ _ (sym w.is_blank.ensures ∙ w.if-not-is_blank.true))
    ]

pub loop-r-preserved : goal.loop-r-preserved
loop-r-preserved c = let l = c.loop-r in passes-blank _ _ c.requires.1 _ l.r l.invariant (omega arith) c.if-src-r-eq93.false (eqb-true _ _ (sym c.is_blank.ensures ∙ c.if-not-is_blank.false))

pub returns : goal.returns
returns c = let l = c.loop-r in let u = l.auto.r-end c.requires.0 in
    let e : l.r ≡ length c.args.src.now = omega arith in
    rw e at (passes-end _ _ c.requires.1 _ l.r l.invariant (omega arith))
