use mathlib.Core.Path.{◌≡◌}
use lib.ListN.{length}
use mathlib.Core.List.{map}
use lib.ListN.{take}
use Rattle.text.specs.Cells.{origin_of}
use Rattle.text.proofs.write.lay_origins.Given as goal

abbrev pub invariant-loop-i : goal.invariant-loop-i
invariant-loop-i l = (length l.plain ≡ length l.fn.plain) × (take l.i l.plain ≡ map origin_of (take l.i l.from))
