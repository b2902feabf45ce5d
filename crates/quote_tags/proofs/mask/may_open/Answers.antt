use Rattle.quote_tags.proofs.Unmasking.{not-open}
use Rattle.quote_tags.proofs.mask.may_open.Goals as goal

pub returns : goal.returns
returns c = λ q x ea eb ec. not-open x q ea eb ec
