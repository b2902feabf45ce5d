use Prim.Native.Nat.{◌-◌}
use Rattle.quote_tags.specs.Masks.{mask_of}
use Rattle.quote_tags.proofs.Masking.{Masking}
use Rattle.quote_tags.proofs.mask.mask_by.Given as goal

abbrev pub invariant-loop-i : goal.invariant-loop-i
invariant-loop-i l = Masking (mask_of l.mask) l.initial.buf l.n l.buf l.i l.to l.bracket.0 l.closer.from.0 l.closer.at.0

abbrev pub decreases-loop-i : goal.decreases-loop-i
decreases-loop-i l = l.n - l.i
