-- Laws of reading a text without its backslashes, and of comparing two texts without them. Assumes nothing.
use mathlib.Core.Path.{◌≡◌, refl, sym, ap, ◌∙◌}
use Prim.Native.Nat.{ℕ, suc, ◌+◌, ◌*◌, ◌≤◌, ◌<◌}
use native.Mathlib.Omega.{arith}
use native.Mathlib.Numerals.{add-one}
use native.Mathlib.Decide.{dec_le}
use mathlib.Core.Bool.{Bool, true, false, cond, not, ◌&&◌}
use mathlib.Core.List.{List, [], ◌∷◌}
use lib.ListN.{length, drop, get_or, length-drop, drop_of_length-le}
use lib.Seq.{drop-cons, drop-drop, get_or-drop}
use lib.Dec.{eqb, leb}
use borrow.Author.Tests.{eq-eqb, ne_eqb, eqb-true, le-leb, lt-leb}
use Rattle.text.specs.Ascii.{is, to_first}
use Rattle.text.proofs.Bytes.{first-within}
use Rattle.quote_lines.specs.Lines.{bare, same}
use Rattle.quote_lines.specs.Tables.{weight, PastBackslashes}

module _ (s : List ℕ) (i : ℕ) where
  bare-end : length s ≤ i → bare (drop i s) ≡ []
  unfolding bare
  bare-end le = rw (drop_of_length-le s {i = i} le)

  bare-on : i < length s → is "\\" (get_or s i 0) ≡ false → bare (drop i s) ≡ get_or s i 0 ∷ bare (drop (i + 1) s)
  unfolding bare
  bare-on lt e = rw (add-one, drop-cons s i 0 lt, e)

  bare-over : i < length s → is "\\" (get_or s i 0) ≡ true → bare (drop i s) ≡ bare (drop (i + 1) s)
  unfolding bare
  bare-over lt e = rw (add-one, drop-cons s i 0 lt, e)

-- ---- over backslashes

abbrev other : ℕ → Bool
other b = not (eqb b 92)

bare-first : (x : List ℕ) → bare (drop (to_first other x) x) ≡ bare x
unfolding bare to_first
bare-first [] = refl
bare-first (b ∷ x) = by (eqb b 92) refl (bare-first x)
  where
    by : (t : Bool) → eqb b 92 ≡ t → bare (drop (to_first other x) x) ≡ bare x → bare (drop (cond (not t) 0 (suc (to_first other x))) (b ∷ x)) ≡ cond t (bare x) (b ∷ bare x)
    by true e h = h
    by false e h = rw e

first-other : (x : List ℕ) → to_first other x < length x → eqb (get_or x (to_first other x) 0) 92 ≡ false
unfolding to_first
first-other [] h = absurd (omega arith)
first-other (b ∷ x) h = by (eqb b 92) refl h (first-other x)
  where
    by : (t : Bool) → eqb b 92 ≡ t → cond (not t) 0 (suc (to_first other x)) < suc (length x) → (to_first other x < length x → eqb (get_or x (to_first other x) 0) 92 ≡ false)
        → eqb (get_or (b ∷ x) (cond (not t) 0 (suc (to_first other x))) 0) 92 ≡ false
    by true e l k = k (omega arith)
    by false e l k = e

pub past-first : (s : List ℕ) (at : ℕ) → at ≤ length s → {r : ℕ} → r ≡ at + to_first other (drop at s) → PastBackslashes s at r
past-first s at h {r} e =
    let n = to_first other (drop at s) in
    let w = first-within other (drop at s) in
    let d = length-drop at s in
    record {
      inside = omega (arith, e, w, d);
      later = omega (arith, e);
      same = ap (λ (j : ℕ). bare (drop j s)) e ∙ ap bare (sym (drop-drop n at s)) ∙ bare-first (drop at s);
      stops = λ lt. ap (λ (j : ℕ). eqb (get_or s j 0) 92) e ∙ ap (λ (b : ℕ). eqb b 92) (sym (get_or-drop at s n 0)) ∙ first-other (drop at s) (omega (arith, e, d, lt));
    }

-- ---- weighing the others

pub record Weighing (s : List ℕ) (n i : ℕ) : Type 0 where
  pub sum : n + weight (bare (drop i s)) ≡ weight (bare s)
  pub few : n ≤ 511 * i
  pub inside : i ≤ length s

pub weighing : (s : List ℕ) → Weighing s 0 0
weighing s = record { sum = omega arith; few = omega arith; inside = omega arith }

module _ (s : List ℕ) (k i : ℕ) (w : Weighing s k i) where
  module _ (lt : i < length s) where
    pub weighing-on : get_or s i 0 < 256 → (get_or s i 0 ≡ 92 → ⊥) → Weighing s (k + (256 + get_or s i 0)) (i + 1)
    unfolding weight
    weighing-on h n =
        let e : weight (bare (drop i s)) ≡ 256 + get_or s i 0 + weight (bare (drop (i + 1) s)) = ap weight (bare-on s i lt (ne_eqb (get_or s i 0) 92 n)) in
        record { sum = omega (arith, e, w.sum); few = omega (arith, w.few); inside = omega arith }

    pub weighing-over : get_or s i 0 ≡ 92 → Weighing s k (i + 1)
    weighing-over e =
        let d : weight (bare (drop i s)) ≡ weight (bare (drop (i + 1) s)) = ap weight (bare-over s i lt (eq-eqb (get_or s i 0) 92 e)) in
        record { sum = omega (arith, d, w.sum); few = omega (arith, w.few); inside = omega arith }

  pub weighing-end : length s ≤ i → (k ≡ weight (bare s)) × (k ≤ 511 * length s)
  unfolding weight
  weighing-end le =
      let e : weight (bare (drop i s)) ≡ 0 = ap weight (bare-end s i le) in
      (omega (arith, e, w.sum), omega (arith, w.few, w.inside))

-- ---- comparing without backslashes

pub record Comparing (s a : List ℕ) (i j : ℕ) : Type 0 where
  pub whole : same (bare (drop i s)) (bare (drop j a)) ≡ same (bare s) (bare a)
  pub inside : i ≤ length s
  pub inside-other : j ≤ length a
  pub stops : i < length s → is "\\" (get_or s i 0) ≡ false
  pub stops-other : j < length a → is "\\" (get_or a j 0) ≡ false

pub comparing : (s a : List ℕ) {i j : ℕ} → PastBackslashes s 0 i → PastBackslashes a 0 j → Comparing s a i j
comparing s a p q = record { whole = rw (p.same, q.same); inside = p.inside; inside-other = q.inside; stops = p.stops; stops-other = q.stops }

module _ (s a : List ℕ) (i j : ℕ) (w : Comparing s a i j) where
  pub comparing-short : i < length s → length a ≤ j → false ≡ same (bare s) (bare a)
  unfolding same
  comparing-short lt le = sym (sym w.whole ∙ rw (bare-on s i lt (w.stops lt), bare-end a j le))

  comparing-long : length s ≤ i → j < length a → false ≡ same (bare s) (bare a)
  unfolding same
  comparing-long le lt = sym (sym w.whole ∙ rw (bare-end s i le, bare-on a j lt (w.stops-other lt)))

  comparing-end : length s ≤ i → length a ≤ j → true ≡ same (bare s) (bare a)
  unfolding same
  comparing-end le ge = sym (sym w.whole ∙ rw (bare-end s i le, bare-end a j ge))

  pub comparing-all : length s ≤ i → leb (length a) j ≡ same (bare s) (bare a)
  comparing-all le = elim (dec_le (length a) j) [ yes p ↦ rw (le-leb (length a) j p) (comparing-end le p) | no p ↦ rw (lt-leb (length a) j (omega arith)) (comparing-long le (omega arith)) ]

  module _ (lt : i < length s) (lo : j < length a) where
    both : same (bare (drop i s)) (bare (drop j a)) ≡ (eqb (get_or s i 0) (get_or a j 0) && same (bare (drop (i + 1) s)) (bare (drop (j + 1) a)))
    unfolding same
    both = rw (bare-on s i lt (w.stops lt), bare-on a j lo (w.stops-other lo))

    pub comparing-other : (get_or s i 0 ≡ get_or a j 0 → ⊥) → false ≡ same (bare s) (bare a)
    comparing-other n = sym (sym w.whole ∙ both ∙ rw (ne_eqb (get_or s i 0) (get_or a j 0) n))

    pub comparing-on : {r q : ℕ} → get_or s i 0 ≡ get_or a j 0 → PastBackslashes s (i + 1) r → PastBackslashes a (j + 1) q → Comparing s a r q
    comparing-on {r} {q} e p o = record {
      whole = rw (p.same, o.same) (sym (both ∙ rw (eq-eqb (get_or s i 0) (get_or a j 0) e)) ∙ w.whole);
      inside = p.inside;
      inside-other = o.inside;
      stops = p.stops;
      stops-other = o.stops;
    }

-- texts of different weights are not the same
same-equal : (x y : List ℕ) → same x y ≡ true → x ≡ y
unfolding same
same-equal [] [] e = refl
same-equal [] (b ∷ y) e = let z : true ≡ false = sym e in cc
same-equal (a ∷ x) [] e = let z : true ≡ false = sym e in cc
same-equal (a ∷ x) (b ∷ y) e = by (eqb a b) refl e (same-equal x y)
  where
    by : (t : Bool) → eqb a b ≡ t → (t && same x y) ≡ true → (same x y ≡ true → x ≡ y) → a ∷ x ≡ b ∷ y
    by true q f k = rw (eqb-true a b q, k f)
    by false q f k = let z : true ≡ false = sym f in cc

pub other-weight : (x y : List ℕ) → (weight x ≡ weight y → ⊥) → false ≡ same x y
other-weight x y n = by (same x y) refl
  where
    by : (t : Bool) → same x y ≡ t → false ≡ same x y
    by true e = absurd (n (ap weight (same-equal x y e)))
    by false e = sym e

-- a text is the same as itself
pub same_self : (x : List ℕ) → true ≡ same x x
unfolding same
same_self [] = refl
same_self (a ∷ x) = same_self x ∙ sym (rw (eq-eqb a a refl))
