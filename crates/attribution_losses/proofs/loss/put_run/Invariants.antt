use Prim.Native.Nat.{◌-◌}
use lib.ListN.{length}
use mathlib.Core.Bool.{true}
use mathlib.Core.Path.{◌≡◌}
use Rattle.attribution_losses.proofs.Losing.{Running}
use Rattle.attribution_losses.proofs.loss.put_run.Given as goal

abbrev pub invariant-loop-run : goal.invariant-loop-run
invariant-loop-run l = (l.run.unnamed ≡ true) × Running l.s l.first l.start l.initial.buf l.before l.run.index l.run.at l.buf l.run.to

abbrev pub decreases-loop-run : goal.decreases-loop-run
decreases-loop-run l = length l.s - l.run.at
