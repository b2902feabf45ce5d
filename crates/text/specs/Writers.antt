-- What a writer leaves (src/writer.rt).
--   Same w w'       the writer holds the same pair of slices as before, of the same lengths, and its area ends where it did
--   Wrote w w' t    from w to w', t has been appended in the area; nothing before and nothing behind it changed
-- Assumes nothing.
use Rattle.std.specs.Prelude.{◌≡◌, List, length}
use Rattle.text.specs.Cells.{Cell}
use Rattle.text.specs.Writes.{AppendsIn}
use Rattle.text.specs.declared.writer.Writer.{Writer}

pub record Same (w w' : Writer) : Type 0 where
  pub bytes : w'.bytes.ghost_name ≡ w.bytes.ghost_name
  pub numbers : w'.numbers.ghost_name ≡ w.numbers.ghost_name
  pub bytes-size : length w'.bytes.now ≡ length w.bytes.now
  pub numbers-size : length w'.numbers.now ≡ length w.numbers.now
  pub end : w'.end ≡ w.end

pub record Wrote (w w' : Writer) (t : List Cell) : Type 0 where
  pub text : AppendsIn w.bytes.now w.numbers.now w.end w.at.0 w'.bytes.now w'.numbers.now w'.at.0 t
  pub same : Same w w'
