use Rattle.quote_tags.specs.Masks.{either}
use Rattle.quote_tags.proofs.Masking.{Seeks}
use Rattle.quote_tags.proofs.mask.next_closer.Given as goal

abbrev pub invariant-loop-i : goal.invariant-loop-i
invariant-loop-i l = Seeks (either l.words) l.s l.fn.at.0 l.i
