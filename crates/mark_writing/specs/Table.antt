-- Items that are held.
--   held-prop   that they are is a fact, which the type of the items carries
-- Assumes nothing.
use Rattle.std.specs.Prelude.{List, ℕ}
use Rattle.std.specs.Coded.{le_prop}
use Rattle.mark_tags.specs.Flat.{Bounded, Held}

pub held-prop : (src ns : List ℕ) (k : ℕ) → IsProp (Held src ns k)
unfolding Bounded
held-prop src ns k = hlevel le_prop
