use Rattle.quote_tags.proofs.Masking.{known-closer}
use Rattle.quote_tags.proofs.mask.closer_from.Goals as goal

pub returns-else-known-at : goal.returns-else-known-at
returns-else-known-at c = (c.next_closer.ensures, known-closer _ _ _ _ _ c.next_closer.ensures)
