use mathlib.Core.Path.{◌≡◌}
use lib.ListN.{length, drop}
use Rattle.text.proofs.Numbering.{rest}
use Rattle.text.proofs.Areas.{WritingIn}
use Rattle.text.specs.Cells.{written}
use Rattle.text.proofs.area.put_text_in.Given as goal

abbrev pub invariant-loop-i : goal.invariant-loop-i
invariant-loop-i l = (length l.buf ≡ length l.fn.buf) × (length l.nums ≡ length l.fn.nums)
    × WritingIn l.fn.buf l.fn.nums l.end l.fn.at.0 l.buf l.nums l.to.0 (rest l.more (drop l.i l.src)) (written l.src)
