use native.Mathlib.Omega.{arith}
use Rattle.quote_tags.proofs.Unmasking.{visible-same}
use Rattle.quote_tags.proofs.mask.has_mask.Goals as goal

pub returns : goal.returns
returns c = λ _. let l = c.loop-next in visible-same _ (λ j h g. l.invariant.1 j h (omega (arith, c.loop-next-test.false)))
