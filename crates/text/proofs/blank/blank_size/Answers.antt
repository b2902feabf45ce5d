use Rattle.text.proofs.Characters.{blank-at}
use Rattle.text.proofs.blank.blank_size.Goals as goal

pub returns : goal.returns
returns c = let a = c.args in cc (blank-at a.s.now a.i)
