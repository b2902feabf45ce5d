-- Laws of reading bytes: ranges, words, and the loops that look for a byte. Assumes nothing.
use mathlib.Core.Path.{◌≡◌, refl, sym, ap, subst, ◌∙◌}
use Prim.Native.Nat.{ℕ, zero, suc, ◌+◌, ◌-◌, ◌≤◌, ◌<◌}
use native.Mathlib.Nat.{le_of_suc-le-suc, not-suc-le-zero}
use native.Mathlib.Numerals.{add-one}
use native.Mathlib.Omega.{arith}
use mathlib.Core.Bool.{Bool, true, false, cond, ◌&&◌, ◌||◌}
use mathlib.Core.List.{List, [], ◌∷◌}
use lib.ListN.{length, drop, get_or, drop_of_length-le, length-drop}
use lib.Seq.{drop-cons, drop-drop, get_or-drop}
use lib.Dec.{leb, ltb}
use borrow.Author.Tests.{leb-true, eq-eqb, ne_eqb, lt-ltb, le-ltb, ltb-true, ltb-false}
use Rattle.std.specs.Option.{MatchOption, unwrap_or}
use Rattle.std.proofs.Common.{Option}
use Rattle.std.specs.List.{AllWithin, HoldsAt}
use Rattle.std.proofs.lemmas.Iterator.{index_from_first}
use Rattle.text.specs.Ascii.{inside, small, begins, to_first}

-- ---- ranges

pub both : (a b : Bool) → (a && b) ≡ true → (a ≡ true) × (b ≡ true)
both true b h = (refl, h)
both false b h = let z : true ≡ false = sym h in (h, cc)

pub inside-true : (lo hi b : ℕ) → inside lo hi b ≡ true → (lo ≤ b) × (b ≤ hi)
unfolding inside
inside-true lo hi b h = let p = both (leb lo b) (leb b hi) h in (leb-true lo b p.0, leb-true b hi p.1)

-- ---- words

module _ (w s : List ℕ) (k j : ℕ) where
  -- all of the word has been read
  pub begins-end : length w ≤ k → begins (drop k w) (drop j s) ≡ true
  unfolding begins
  begins-end h = rw (drop_of_length-le w {i = k} h)

  module _ (h : k < length w) where
    -- the text ends before the word
    pub begins-short : length s ≤ j → begins (drop k w) (drop j s) ≡ false
    unfolding begins
    begins-short g = rw (drop-cons w k 0 h, drop_of_length-le s {i = j} g)

    pub begins-other : j < length s → (small (get_or s j 0) ≡ get_or w k 0 → ⊥) → begins (drop k w) (drop j s) ≡ false
    unfolding begins
    begins-other g n = rw (drop-cons w k 0 h, drop-cons s j 0 g, ne_eqb (small (get_or s j 0)) (get_or w k 0) n)

    pub begins-more : j < length s → small (get_or s j 0) ≡ get_or w k 0 → begins (drop k w) (drop j s) ≡ begins (drop (k + 1) w) (drop (j + 1) s)
    unfolding begins
    begins-more g e = rw (drop-cons w k 0 h, drop-cons s j 0 g, eq-eqb (small (get_or s j 0)) (get_or w k 0) e, add-one, add-one)

-- ---- looking for a byte

pub first-within : (p : ℕ → Bool) (s : List ℕ) → to_first p s ≤ length s
unfolding to_first
first-within p [] = omega arith
first-within p (b ∷ s) = by (p b) (first-within p s)
  where
    by : (t : Bool) → to_first p s ≤ length s → cond t 0 (suc (to_first p s)) ≤ suc (length s)
    by true h = omega arith
    by false h = omega arith

-- the search that stands at i will end where the search from `at` does
pub record Looks (p : ℕ → Bool) (s : List ℕ) (at i : ℕ) : Type 0 where
  pub inside : i ≤ length s
  pub ends : i + to_first p (drop i s) ≡ at + to_first p (drop at s)

pub look : (p : ℕ → Bool) (s : List ℕ) (at : ℕ) → at ≤ length s → Looks p s at at
look p s at h = record { inside = h; ends = refl }

pub look-here : (p : ℕ → Bool) (s : List ℕ) (at i : ℕ) → Looks p s at i → i < length s → p (get_or s i 0) ≡ true → i ≡ at + to_first p (drop at s)
unfolding to_first
look-here p s at i l lt e =
    let z : to_first p (drop i s) ≡ 0 = rw (drop-cons s i 0 lt, e) in
    omega (arith, z, l.ends)

pub look-on : (p : ℕ → Bool) (s : List ℕ) (at i : ℕ) → Looks p s at i → i < length s → p (get_or s i 0) ≡ false → Looks p s at (i + 1)
unfolding to_first
look-on p s at i l lt e =
    let z : to_first p (drop i s) ≡ suc (to_first p (drop (i + 1) s)) = rw (add-one, drop-cons s i 0 lt, e) in
    record { inside = omega arith; ends = omega (arith, z, l.ends) }

pub look-end : (p : ℕ → Bool) (s : List ℕ) (at i : ℕ) → Looks p s at i → length s ≤ i → i ≡ at + to_first p (drop at s)
unfolding to_first
look-end p s at i l le =
    let z : to_first p (drop i s) ≡ 0 = rw (drop_of_length-le s {i = i} le) in
    omega (arith, z, l.ends)

-- what stands where it ends
pub first_stops : (p : ℕ → Bool) (s : List ℕ) → to_first p s < length s → p (get_or s (to_first p s) 0) ≡ true
unfolding to_first
first_stops p [] h = absurd (not-suc-le-zero h)
first_stops p (b ∷ s) h = by (p b) refl h (first_stops p s)
  where
    by : (t : Bool) → p b ≡ t → cond t 0 (suc (to_first p s)) < suc (length s) → (to_first p s < length s → p (get_or s (to_first p s) 0) ≡ true)
        → p (get_or (b ∷ s) (cond t 0 (suc (to_first p s))) 0) ≡ true
    by true e lt k = e
    by false e lt k = k (le_of_suc-le-suc lt)

pub ltb-suc : (a b : ℕ) → ltb (suc a) (suc b) ≡ ltb a b
ltb-suc a b = by (ltb a b) refl
  where
    by : (t : Bool) → ltb a b ≡ t → ltb (suc a) (suc b) ≡ t
    by true e = let l = ltb-true a b e in lt-ltb (suc a) (suc b) (omega arith)
    by false e = let l = ltb-false a b e in le-ltb (suc a) (suc b) (omega arith)

-- it has ended before one byte more
pub first-before : (p : ℕ → Bool) (s : List ℕ) (k : ℕ) → k < length s → ltb (to_first p s) (suc k) ≡ (ltb (to_first p s) k || p (get_or s k 0))
unfolding to_first
first-before p [] k h = absurd (not-suc-le-zero h)
first-before p (b ∷ s) zero h = by (p b) (to_first p s)
  where
    by : (t : Bool) (f : ℕ) → ltb (cond t 0 (suc f)) 1 ≡ (ltb (cond t 0 (suc f)) 0 || t)
    by true f = refl
    by false f = rw (le-ltb (suc f) 1 (omega arith), le-ltb (suc f) 0 (omega arith))
first-before p (b ∷ s) (suc k) h = by (p b) (to_first p s) (p (get_or s k 0)) (first-before p s k (le_of_suc-le-suc h))
  where
    by : (t : Bool) (f : ℕ) (q : Bool) → ltb f (suc k) ≡ (ltb f k || q) → ltb (cond t 0 (suc f)) (suc (suc k)) ≡ (ltb (cond t 0 (suc f)) (suc k) || q)
    by true f q e = rw (lt-ltb 0 (suc (suc k)) (omega arith), lt-ltb 0 (suc k) (omega arith))
    by false f q e = rw (ltb-suc f (suc k), ltb-suc f k) e

pub stands-none : (p : ℕ → Bool) (s : List ℕ) (i : ℕ) → false ≡ ltb (to_first p (drop i s)) 0
stands-none p s i = sym (le-ltb (to_first p (drop i s)) 0 (omega arith))

-- one byte more has been looked at
pub stands-turn : (p : ℕ → Bool) (s : List ℕ) (i k : ℕ) (stands : Bool) → i + k < length s → stands ≡ ltb (to_first p (drop i s)) k
    → (stands || p (get_or s (i + k) 0)) ≡ ltb (to_first p (drop i s)) (k + 1)
stands-turn p s i k stands h e =
    let d : get_or (drop i s) k 0 ≡ get_or s (i + k) 0 = get_or-drop i s k 0 in
    let n : k < length (drop i s) = rw (length-drop i s) (omega arith) in
    rw (e, sym d, add-one) (sym (first-before p (drop i s) k n))

pub first_past : (p : ℕ → Bool) (s : List ℕ) (n : ℕ) → n ≤ to_first p s → n + to_first p (drop n s) ≡ to_first p s
unfolding to_first
first_past p s zero h = omega arith
first_past p [] (suc n) h = absurd (not-suc-le-zero h)
first_past p (b ∷ s) (suc n) h = by (p b) h (first_past p s n)
  where
    by : (t : Bool) → suc n ≤ cond t 0 (suc (to_first p s)) → (n ≤ to_first p s → n + to_first p (drop n s) ≡ to_first p s) → suc n + to_first p (drop n s) ≡ cond t 0 (suc (to_first p s))
    by true g k = absurd (not-suc-le-zero g)
    by false g k = let e = k (le_of_suc-le-suc g) in omega (arith, e)

-- n bytes further
pub look-past : (p : ℕ → Bool) (s : List ℕ) (at i n : ℕ) → Looks p s at i → i + n ≤ length s → n ≤ to_first p (drop i s) → Looks p s at (i + n)
look-past p s at i n l le h =
    let e = first_past p (drop i s) n h in
    let d : to_first p (drop n (drop i s)) ≡ to_first p (drop (i + n) s) = ap (to_first p) (drop-drop n i s) in
    record { inside = le; ends = omega (arith, e, d, l.ends) }

-- what stands before it ends
pub first_plain : (p : ℕ → Bool) (s : List ℕ) (i : ℕ) → i < length s → 1 ≤ to_first p (drop i s) → p (get_or s i 0) ≡ false
unfolding to_first
first_plain p s i lt h = by (p (get_or s i 0)) refl
  where
    by : (t : Bool) → p (get_or s i 0) ≡ t → p (get_or s i 0) ≡ false
    by false e = e
    by true e =
        let z : to_first p (drop i s) ≡ 0 = rw (drop-cons s i 0 lt, e) in
        absurd (not-suc-le-zero (subst (λ (n : ℕ). 1 ≤ n) z h))

-- the same from a place on
pub first-later : (p : ℕ → Bool) (s : List ℕ) (i j : ℕ) → i ≤ j → j ≤ i + to_first p (drop i s) → j + to_first p (drop j s) ≡ i + to_first p (drop i s)
first-later p s i j le h =
    let e : i + (j - i) ≡ j = omega arith in
    let d : drop (j - i) (drop i s) ≡ drop j s = drop-drop (j - i) i s ∙ ap (λ (n : ℕ). drop n s) e in
    let f = first_past p (drop i s) (j - i) (omega arith) in
    rw (← d) (omega (arith, f))

pub first-plain-at : (p : ℕ → Bool) (s : List ℕ) (i j : ℕ) → i ≤ j → j < length s → j < i + to_first p (drop i s) → p (get_or s j 0) ≡ false
first-plain-at p s i j le lt h =
    let f = first-later p s i j le (omega arith) in
    first_plain p s j lt (omega (arith, f))

-- the same as the index that a search has found
pub first-index : (p : ℕ → Bool) (xs : List ℕ) (r : Option ℕ) → MatchOption r (AllWithin (λ b. p b ≡ false) xs 0 (length xs)) (λ i. (i < length xs) × HoldsAt (λ b. p b ≡ true) xs i × AllWithin (λ b. p b ≡ false) xs 0 i)
    → to_first p xs ≡ unwrap_or r (length xs)
unfolding to_first
first-index p xs r found = index_from_first (to_first p) (λ b. p b ≡ true) (λ b. p b ≡ false) refl (λ x s e. rw e) (λ x s e. rw (e, add-one)) xs r found
