use Rattle.std.proofs.Common.{Some, None, [], ◌∷◌}
use Rattle.std.proofs.lemmas.Bool.Decides.{Decides-eqb}
use Rattle.std.proofs.lemmas.Slice.Eq.{strip_suffix_is}
use Rattle.replay.proofs.Comparing.{same_front, other_end}
use Rattle.replay.proofs.cases.is_answer.Goals as goal

pub returns-in-Some : goal.returns-in-Some
returns-in-Some c = let s = c.args.answer.now in
    same_front s c.in-Some.front.now _ _ _ (strip_suffix_is Decides-eqb s _ (Some c.in-Some.front) c.in-Some.ensures.cases) c.eq.ensures

pub returns-in-None : goal.returns-in-None
returns-in-None c = let s = c.args.answer.now in
    other_end s c.args.listing.now (10 ∷ []) (strip_suffix_is Decides-eqb s (10 ∷ []) None c.in-None.ensures.cases)
