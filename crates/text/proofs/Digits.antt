-- Laws of bytes as binary digits, the first the lowest. Assumes nothing.
use mathlib.Core.Path.{◌≡◌, refl, sym, ap, ◌∙◌}
use mathlib.Core.Bool.{Bool, true, false, cond, not}
use lib.Dec.{eqb, ltb}
use borrow.Author.Tests.{eq-eqb, ne_eqb, lt-ltb, le-ltb, ltb-true, ltb-false}
use Rattle.text.proofs.Bytes.{ltb-suc}
use mathlib.Core.List.{List, [], ◌∷◌, map}
use lib.Lanes.{mask_l}
use Prim.Native.Nat.{ℕ, zero, suc, ◌+◌, ◌*◌, ◌/◌, ◌%◌, ◌≤◌, ◌<◌}
use native.Mathlib.Nat.{not-suc-le-zero, le_of_suc-le-suc}
use native.Mathlib.Omega.{arith}
use lib.Count.{count_trailing_zeros, under}
use lib.ListN.{length, take}
use Rattle.text.specs.Ascii.{to_first, binary}

twice : (x : ℕ) → not (eqb (2 * x + 0) 0) ≡ not (eqb x 0)
twice zero = refl
twice (suc x) = rw (ne_eqb (2 * suc x + 0) 0 (λ e. omega (arith, e)), ne_eqb (suc x) 0 (λ e. omega (arith, e)))

module _ (p : ℕ → Bool) where
  -- the mask that a comparison of n bytes gives
  pub binary-mask : (n : ℕ) (s : List ℕ) → mask_l (map p (take n s)) ≡ binary p n s
  unfolding binary
  binary-mask zero s = refl
  binary-mask (suc n) [] = refl
  binary-mask (suc n) (b ∷ s) = let h = binary-mask n s in omega (arith, h)

  -- it is 0 where none passes
  pub binary-some : (n : ℕ) (s : List ℕ) → n ≤ length s → not (eqb (binary p n s) 0) ≡ ltb (to_first p s) n
  unfolding binary to_first
  binary-some zero s h = sym (le-ltb (to_first p s) 0 (omega arith))
  binary-some (suc n) [] h = absurd (not-suc-le-zero h)
  binary-some (suc n) (b ∷ s) h = by (p b) (binary-some n s (le_of_suc-le-suc h))
    where
      by : (t : Bool) → not (eqb (binary p n s) 0) ≡ ltb (to_first p s) n → not (eqb (2 * binary p n s + cond t 1 0) 0) ≡ ltb (cond t 0 (suc (to_first p s))) (suc n)
      by true k = rw (ne_eqb (2 * binary p n s + 1) 0 (λ e. omega (arith, e)), lt-ltb 0 (suc n) (omega arith))
      by false k = rw (ltb-suc (to_first p s) n) (twice (binary p n s) ∙ k)

  -- as many zeros stand below the lowest digit that is 1 as bytes before the first
  pub binary-zeros : (w n : ℕ) (s : List ℕ) → n ≤ w → n ≤ length s → to_first p s < n → count_trailing_zeros w (binary p n s) ≡ to_first p s
  unfolding binary to_first count_trailing_zeros
  binary-zeros w zero s h l lt = absurd (not-suc-le-zero lt)
  binary-zeros w (suc n) [] h l lt = absurd (not-suc-le-zero l)
  binary-zeros zero (suc n) (b ∷ s) h l lt = absurd (not-suc-le-zero h)
  binary-zeros (suc w) (suc n) (b ∷ s) h l lt = by (p b) lt (binary-zeros w n s (le_of_suc-le-suc h) (le_of_suc-le-suc l))
    where
      by : (t : Bool) → cond t 0 (suc (to_first p s)) < suc n → (to_first p s < n → count_trailing_zeros w (binary p n s) ≡ to_first p s)
          → under ((2 * binary p n s + cond t 1 0) % 2) (count_trailing_zeros w ((2 * binary p n s + cond t 1 0) / 2)) ≡ cond t 0 (suc (to_first p s))
      by true q f = let e : (2 * binary p n s + 1) % 2 ≡ 1 = omega arith in rw e
      by false q f =
          let e : (2 * binary p n s + 0) % 2 ≡ 0 = omega arith in
          let m : (2 * binary p n s + 0) / 2 ≡ binary p n s = omega arith in
          rw (e, m) (ap suc (f (le_of_suc-le-suc q)))

  -- a mask of n bytes that is not 0, and one that is
  pub binary-first : (n : ℕ) (s : List ℕ) → n ≤ 64 → n ≤ length s → (binary p n s ≡ 0 → ⊥) → (to_first p s < n) × (count_trailing_zeros 64 (binary p n s) ≡ to_first p s)
  binary-first n s h l k =
      let lt = ltb-true (to_first p s) n (sym (binary-some n s l) ∙ ap not (ne_eqb (binary p n s) 0 k)) in
      (lt, binary-zeros 64 n s h l lt)

  pub binary-past : (n : ℕ) (s : List ℕ) → n ≤ length s → binary p n s ≡ 0 → n ≤ to_first p s
  binary-past n s l k = ltb-false (to_first p s) n (sym (binary-some n s l) ∙ ap not (eq-eqb (binary p n s) 0 k))
