use Rattle.quote_tags.proofs.Unmasking.{not-open-by}
use Rattle.quote_tags.proofs.mask.may_open_by.Goals as goal

pub returns : goal.returns
returns c = λ q x ea eb ec. not-open-by _ _ x q ea eb ec
