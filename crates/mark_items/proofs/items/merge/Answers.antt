use borrow.Author.Rules.{rules}
use native.Mathlib.Omega.{arith}
use mathlib.Core.Path.{refl}
use Rattle.mark_items.proofs.Merging.{merging_start, merging-turn, merging-end}
use Rattle.mark_items.proofs.items.merge.Goals as goal

pub loop-j-init : goal.loop-j-init
loop-j-init c = (refl, merging_start _ _ _)

pub loop-j-preserved : goal.loop-j-preserved
loop-j-preserved c = let l = c.loop-j in
    (search rules, merging-turn _ l.nums _ _ _ l.j _ _ _ _ (omega arith) (omega arith) l.invariant.1 c.merge_item-state.ensures)

pub returns : goal.returns
returns c = let l = c.loop-j in
    merging-end _ l.nums _ _ l.j _ _ (omega arith) l.invariant.0 l.invariant.1
