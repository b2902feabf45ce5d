use mathlib.Core.Path.{refl}
use lib.ListN.{drop}
use lib.Seq.{get_or-drop}
use Rattle.quote_tags.proofs.Plain.{first-here}
use Rattle.quote_tags.proofs.mask.next_mask.Goals as goal

pub returns : goal.returns
returns c = let s = c.args.s.now in let f = c.first_taken.ensures in (f.inside, λ j h g. f.before j h g refl (drop j s) (first-here s j) (get_or-drop j s 1 0) (get_or-drop j s 2 0))
