use borrow.Author.Rules.{rules}
use Rattle.listing.proofs.Laws.{whole-listed}
use Rattle.listing.proofs.put_listing.Goals as goal

pub returns : goal.returns
returns c = whole-listed _ c.write_listing.ensures c.min-end.ensures (search rules) (search rules)
