use Rattle.mark_items.proofs.Merging.{itemed}
use Rattle.mark_items.proofs.items.read_items.Goals as goal

pub returns : goal.returns
returns c = itemed _ _ _ _ _ _ c.read_tags-k.ensures c.settle.ensures c.merge.ensures
