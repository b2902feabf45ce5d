use Rattle.std.proofs.Math.Bool.{or_assoc}
use Rattle.lending.specs.Utf8.{utf8-3}
use Rattle.lending.proofs.utf8.is_utf8_3.Goals as goal

pub returns : goal.returns
unfolding utf8-3
returns c = simp (or_assoc, c.is_inside.ensures, c.is_inside-2.ensures, c.is_inside-3.ensures, c.is_inside-4.ensures, c.is_inside-5.ensures, c.is_inside-6.ensures, c.is_tail.ensures, c.is_tail-2.ensures, c.is_tail-3.ensures, c.is_tail-4.ensures, c.is_tail-5.ensures, c.is_tail-6.ensures)
