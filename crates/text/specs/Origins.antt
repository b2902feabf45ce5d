-- Demand 3, for any text with its origins: copying by origin, at every cut and uncut.
--   count n os              how often the origin n stands in os
--   last_origin os           the last origin of os other than 0; 0 where there is none
--   StandsIn x n            the origin n stands in the cells x
--   NonBlank post p         the post byte at p is non-blank: its character is none of the 25
--   Settled Consumed os n   the post byte with the origin n is copied exactly once or consumed, never both
--   CopiedBefore ..         what holds of the bytes and origins before a cut
--   CopiedByOrigin ..       demand 3: this at every cut, and uncut every non-blank byte of the post is settled
-- `Consumed` says of an origin that its post byte is consumed. Assumes nothing.
use Rattle.std.specs.Prelude.{◌≡◌, ◌⊎◌, false, cond, List, [], ◌∷◌, ℕ, zero, suc, ◌+◌, ◌-◌, ◌≤◌, ◌<◌, length, get_or, take, eqb}
use Rattle.text.specs.Cells.{Cell, origins, cells_of, feed}

abbrev pub one : (n a : ℕ) → ℕ
one n a = cond (eqb a n) 1 0

unfoldable pub count : ℕ → List ℕ → ℕ
count n [] = 0
count n (a ∷ os) = one n a + count n os

abbrev pub or_last : ℕ → ℕ → ℕ
or_last a zero = a
or_last a (suc b) = suc b

unfoldable pub last_origin : List ℕ → ℕ
last_origin [] = 0
last_origin (a ∷ os) = or_last a (last_origin os)

abbrev pub StandsIn : List Cell → ℕ → Type 0
StandsIn x n = 0 < count n (origins x)

unfoldable pub NonBlank : List ℕ → ℕ → Type 0
NonBlank post p = (get_or (cells_of post) p feed).blank ≡ false

abbrev pub Settled : (Consumed : ℕ → Type 0) → List ℕ → ℕ → Type 0
Settled Consumed os n = ((count n os ≡ 1) × (Consumed n → ⊥)) ⊎ ((count n os ≡ 0) × Consumed n)

pub record CopiedBefore (post : List ℕ) (Consumed : ℕ → Type 0) (bs os : List ℕ) : Type 0 where
  -- each byte with an origin equals the post byte there
  pub equal : (j : ℕ) → j < length os → 0 < get_or os j 0 → (get_or os j 0 ≤ length post) × (get_or bs j 0 ≡ get_or post (get_or os j 0 - 1) 0)
  -- these origins rise strictly
  pub rising : (j k : ℕ) → j < k → k < length os → 0 < get_or os j 0 → 0 < get_or os k 0 → get_or os j 0 < get_or os k 0
  -- every non-blank post byte up to the last of them is settled
  pub settled : (p : ℕ) → p < length post → NonBlank post p → p < last_origin os → Settled Consumed os (suc p)

pub record CopiedByOrigin (post : List ℕ) (Consumed : ℕ → Type 0) (bs os : List ℕ) : Type 0 where
  pub before : (cut : ℕ) → CopiedBefore post Consumed (take cut bs) (take cut os)
  pub whole : (p : ℕ) → p < length post → NonBlank post p → Settled Consumed os (suc p)
