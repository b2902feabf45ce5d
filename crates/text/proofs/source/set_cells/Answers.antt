use borrow.Author.Rules.{rules}
use native.Mathlib.Omega.{arith}
use Rattle.text.proofs.Sources.{back_is, source-at}
use Rattle.text.proofs.source.set_cells.Goals as goal

pub returns : goal.returns
returns c = let x = c.args in
    let p = c.set_source in
    let q = c.number in
    source-at _ _ _ _ _ x.at.0 (search rules) (search rules) (back_is x.work.now _ x.at.0 (omega arith)) (back_is x.numbers.now _ x.at.0 (omega arith)) p.ensures q.ensures
