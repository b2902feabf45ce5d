use Rattle.std.proofs.Common.{rules, tests, not, eqb, sym, ◌∙◌}
use Rattle.std.proofs.lemmas.Iterator.{YieldsList-from_slice}
use Rattle.std.proofs.lemmas.Iterator.Consumers.{YieldsList-from_filter, count_from_yields_List}
use Rattle.listing.proofs.Laws.{copied-counts}
use Rattle.listing.proofs.count_copied.Goals as goal

pub returns : goal.returns
returns c =
    let os = c.args.origins.now in
    let n = count_from_yields_List _ _ c.count.ensures.ran (YieldsList-from_filter _ (λ o. not (eqb o 0)) (YieldsList-from_slice os cc) c.filter.ensures.closure (λ x r q k. search (rules, tests))) in
    (n ∙ sym (copied-counts os), search rules)
