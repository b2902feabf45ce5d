use native.Mathlib.Omega.{arith}
use Rattle.post.proofs.Calling.{listing-with}
use Rattle.post.proofs.Leaving.{left-ends}
use Rattle.post.proofs.listed.write_unquoted.Goals as goal

pub returns : goal.returns
returns c = let p = c.lay_unquoted-laid in rw (listing-with _ _ _ _) (left-ends (record { losses = 0; bytes = 0 }) _ _ _ p.ensures p.auto.out p.auto.origins (omega arith) c.leave.ensures)
