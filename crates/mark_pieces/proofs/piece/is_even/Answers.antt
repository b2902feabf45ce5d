use Rattle.std.proofs.Common.{rules, tests, eqb}
use Rattle.std.specs.List.{between}
use Rattle.std.proofs.lemmas.Slice.{between_is}
use Rattle.std.proofs.lemmas.Iterator.Adapters.{YieldsList-from_rev_slice}
use Rattle.std.proofs.lemmas.Iterator.Search.{YieldsList-from_take_while}
use Rattle.std.proofs.lemmas.Iterator.Consumers.{YieldsList-at, count_from_yields_List}
use Rattle.mark_pieces.proofs.Pieces.{even-counted}
use Rattle.mark_pieces.proofs.piece.is_even.Goals as goal

pub returns : goal.returns
returns c = let a = c.args in
    let s = between a.a.0 a.e.0 a.s.now in
    let n = count_from_yields_List c.take_while.result c.count-run.result c.count-run.ensures.ran
    (YieldsList-from_take_while _ (λ x. eqb x 92) (YieldsList-at c.take_while.ensures.source (YieldsList-from_rev_slice s (cc))) c.take_while.ensures.closure c.take_while.ensures.done (λ x b q k. search (rules, tests))) in
    even-counted s _ _ (between_is a.s.now a.a.0 a.e.0) n
