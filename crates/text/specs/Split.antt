-- How a pass's text comes from its input: the relation that carries the copying by origin.
--   Split out taken input   cell by cell, each cell of the input is copied to `out`, consumed (and listed in `taken`) or, if it is blank,
--                           lost; and cells of origin 0 are written to `out` between. All three keep the input's order
--   Keeps out input         the same, with nothing consumed
-- Assumes nothing.
use Rattle.std.specs.Prelude.{◌≡◌, true, List, [], ◌∷◌}
use Rattle.text.specs.Cells.{Cell}

pub data Split : (out taken input : List Cell) → Type 0 where
  done : Split [] [] []
  copied : (c : Cell) {o t i : List Cell} → Split o t i → Split (c ∷ o) t (c ∷ i)
  consumed : (c : Cell) {o t i : List Cell} → Split o t i → Split o (c ∷ t) (c ∷ i)
  lost : (c : Cell) → c.blank ≡ true → {o t i : List Cell} → Split o t i → Split o t (c ∷ i)
  wrote : (c : Cell) → c.origin ≡ 0 → {o t i : List Cell} → Split o t i → Split (c ∷ o) t i

abbrev pub Keeps : (out input : List Cell) → Type 0
Keeps o i = Split o [] i
