use borrow.Author.Rules.{rules}
use Rattle.listing.proofs.Laws.{whole-listed}
use Rattle.post_listing.proofs.list_thread.Goals as goal

pub returns : goal.returns
returns c = whole-listed _ c.list_post.ensures c.min-end.ensures (search rules) (search rules)
