use Rattle.lending.proofs.Characters.{char-at}
use Rattle.lending.proofs.utf8.char_size.Goals as goal

pub returns : goal.returns
returns c = rw (char-at c.args.s.now c.args.i, ← c.byte_at.ensures, ← c.byte_at-2.ensures, ← c.byte_at-3.ensures) c.size_of.ensures
