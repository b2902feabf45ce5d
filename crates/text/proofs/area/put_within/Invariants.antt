use mathlib.Core.Path.{◌≡◌}
use lib.ListN.{length, take, drop}
use Rattle.text.proofs.Numbering.{rest}
use Rattle.text.proofs.Areas.{WritingIn}
use Rattle.text.specs.Cells.{written}
use Rattle.text.specs.Writes.{cut}
use Rattle.text.proofs.area.put_within.Given as goal

abbrev pub invariant-loop-i : goal.invariant-loop-i
invariant-loop-i l = (length l.buf ≡ length l.fn.buf) × (length l.nums ≡ length l.fn.nums)
    × WritingIn l.fn.buf l.fn.nums l.end l.fn.at.0 l.buf l.nums l.to.0 (rest l.more (drop l.i (take l.e l.fn.buf))) (written (cut l.fn.a l.e l.fn.buf))
