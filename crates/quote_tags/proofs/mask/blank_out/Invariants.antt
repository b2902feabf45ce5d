use Rattle.quote_tags.specs.Masks.{blanked}
use Rattle.quote_tags.proofs.Moving.{Moving}
use Rattle.quote_tags.proofs.mask.blank_out.Given as goal

abbrev pub invariant-loop-i : goal.invariant-loop-i
invariant-loop-i l = Moving blanked l.initial.buf l.a l.e l.to l.buf l.i l.t
