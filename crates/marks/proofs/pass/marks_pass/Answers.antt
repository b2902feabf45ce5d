use Rattle.marks.proofs.Passing.{pass-held}
use Rattle.marks.proofs.pass.marks_pass.Goals as goal

pub returns : goal.returns
returns c = let w = c.write_marks.ensures in record { holds = pass-held w.wrote; bytes-behind = w.bytes-behind }
