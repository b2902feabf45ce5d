use Rattle.text.specs.Ascii.{to_bracket}
use Rattle.text.proofs.scan.next_bracket.Goals as goal

pub returns : goal.returns
unfolding to_bracket
returns c = c.next_byte.ensures
