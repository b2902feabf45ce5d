use mathlib.Core.Path.{◌≡◌}
use Prim.Native.Nat.{◌<◌}
use mathlib.Core.Bool.{true}
use lib.ListN.{drop}
use Rattle.text.specs.Ascii.{all_digits}
use Rattle.day.specs.Day.{number, number_after}
use Rattle.day.proofs.Laws.{tens}
use Rattle.day.proofs.seconds_of.Given as goal

abbrev pub invariant-loop-b : goal.invariant-loop-b
invariant-loop-b l = (l.n < tens l.b-index) × (all_digits (drop l.b-index l.s) ≡ true) × (number l.s ≡ number_after l.n (drop l.b-index l.s))
