use borrow.Author.Rules.{rules}
use native.Mathlib.Omega.{arith}
use mathlib.Core.Path.{refl}
use Rattle.mark_items.proofs.Settling.{settling-start, settling-turn, settling-end}
use Rattle.mark_items.proofs.items.settle.Goals as goal

pub loop-j-init : goal.loop-j-init
loop-j-init c = (refl, settling-start _ _ _)

pub loop-j-preserved : goal.loop-j-preserved
loop-j-preserved c = let l = c.loop-j in
    (search rules, settling-turn _ l.nums _ _ _ l.j l.closes _ (omega arith) (omega arith) l.invariant.1 c.settle_item-closes.ensures)

pub returns : goal.returns
returns c = let l = c.loop-j in
    settling-end _ l.nums _ _ l.closes l.j (omega arith) l.invariant.0 l.invariant.1
