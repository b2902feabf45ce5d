use Rattle.lending.specs.Utf8.{tail}
use Rattle.lending.proofs.utf8.is_tail.Goals as goal

pub returns : goal.returns
unfolding tail
returns c = c.is_inside.ensures
