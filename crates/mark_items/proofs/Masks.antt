-- Kinds as a mask: one bit for each. Assumes nothing.
use mathlib.Core.Path.{◌≡◌, refl}
use mathlib.Core.Bool.{Bool, true, false, not}
use Prim.Native.Nat.{ℕ, ◌<◌}
use lib.Dec.{T, eqb, ltb, eqb→eq, ltb→lt}
use lib.Bits.{bit_and, bit_or}
use lib.Count.{ones, ones_in}
use Rattle.text.proofs.Table.{both, both_left, both_right, every, below}
use Rattle.mark_tags.specs.Marks.{Kinds, kinds, has, add}
use Rattle.mark_tags.specs.Flat.{kind_numbered, kinds_of, bit_of}
use Rattle.mark_tags.proofs.Depth.{count}

-- what is to hold of a mask and of a kind
pub record Fits (m k : ℕ) : Type 0 where
  pub is_open : has (kind_numbered k) (kinds_of m) ≡ not (eqb (bit_and m (bit_of k)) 0)
  pub opens : kinds_of (bit_or m (bit_of k)) ≡ add (kind_numbered k) (kinds_of m)
  pub small : bit_or m (bit_of k) < 16

-- whether two answers are one, and whether the same kinds are open
abbrev agree : Bool → Bool → Bool
agree true b = b
agree false b = not b

agrees : (a b : Bool) → T (agree a b) → a ≡ b
agrees true true t = refl
agrees true false t = absurd t
agrees false true t = absurd t
agrees false false t = refl

abbrev alike : Kinds → Kinds → Bool
alike (kinds b i u s) (kinds b' i' u' s') = both (both (agree b b') (agree i i')) (both (agree u u') (agree s s'))

are-alike : (x y : Kinds) → T (alike x y) → x ≡ y
are-alike (kinds b i u s) (kinds b' i' u' s') t =
    let f : T (both (agree b b') (agree i i')) = both_left (both (agree b b') (agree i i')) (both (agree u u') (agree s s')) t in
    let l : T (both (agree u u') (agree s s')) = both_right (both (agree b b') (agree i i')) (both (agree u u') (agree s s')) t in
    rw (
      agrees b b' (both_left (agree b b') (agree i i') f),
      agrees i i' (both_right (agree b b') (agree i i') f),
      agrees u u' (both_left (agree u u') (agree s s') l),
      agrees s s' (both_right (agree u u') (agree s s') l),
    )

-- a test of each mask with each kind, which antt computes
tested : (f : (k m : ℕ) → Bool) → T (every (λ (k : ℕ). every (f k) 16) 4) → (m k : ℕ) → m < 16 → k < 4 → T (f k m)
tested f t m k h l = below (f k) 16 (below (λ (j : ℕ). every (f j) 16) 4 t k l) m h

pub fits : (m k : ℕ) → m < 16 → k < 4 → Fits m k
unfolding kind_numbered kinds_of bit_of has add
fits m k h l = record {
  is_open = agrees (has (kind_numbered k) (kinds_of m)) (not (eqb (bit_and m (bit_of k)) 0)) (tested (λ j n. agree (has (kind_numbered j) (kinds_of n)) (not (eqb (bit_and n (bit_of j)) 0))) tt m k h l);
  opens = are-alike (kinds_of (bit_or m (bit_of k))) (add (kind_numbered k) (kinds_of m)) (tested (λ j n. alike (kinds_of (bit_or n (bit_of j))) (add (kind_numbered j) (kinds_of n))) tt m k h l);
  small = ltb→lt (bit_or m (bit_of k)) 16 (tested (λ j n. ltb (bit_or n (bit_of j)) 16) tt m k h l);
}

-- "count of ones gives depth"
pub ones-count : (m : ℕ) → m < 16 → ones m ≡ count (kinds_of m)
unfolding kinds_of count ones ones_in
ones-count m h = eqb→eq (ones m) (count (kinds_of m)) (below (λ (k : ℕ). eqb (ones k) (count (kinds_of k))) 16 tt m h)
