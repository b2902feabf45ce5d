use Rattle.lending.specs.Utf8.{utf8-2}
use Rattle.lending.proofs.utf8.is_utf8_2.Goals as goal

pub returns : goal.returns
unfolding utf8-2
returns c = rw (c.is_inside.ensures, c.is_tail.ensures)
