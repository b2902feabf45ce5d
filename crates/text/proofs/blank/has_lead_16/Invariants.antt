use mathlib.Core.Path.{◌≡◌}
use lib.ListN.{drop}
use lib.Dec.{ltb}
use Rattle.text.specs.Ascii.{to_first}
use Rattle.text.proofs.Characters.{lead}
use Rattle.text.proofs.blank.has_lead_16.Given as goal

abbrev pub invariant-loop-k : goal.invariant-loop-k
invariant-loop-k l = l.has ≡ ltb (to_first lead (drop l.i l.s)) l.k
