use Rattle.post.proofs.Calling.{listing-with}
use Rattle.post.proofs.Leaving.{left-ends}
use Rattle.post.proofs.listed.write_lists.Goals as goal

pub returns : goal.returns
returns c = let p = c.lay_lists-laid in (rw (listing-with _ _ _ _) (left-ends c.args.losses _ _ _ p.ensures.0 p.auto.out p.auto.origins c.requires.1 c.leave.ensures), p.ensures.1)
