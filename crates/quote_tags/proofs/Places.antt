-- Laws of what holds of every place from one up to another. Assumes nothing.
use mathlib.Core.Path.{◌≡◌, refl, subst}
use Prim.Native.Nat.{ℕ, ◌+◌, ◌≤◌, ◌<◌}
use native.Mathlib.Omega.{arith}
use native.Mathlib.Decide.{dec_le}
use mathlib.Core.Bool.{Bool, true, false, ◌||◌, true≢false}
use mathlib.Core.List.{List}
use lib.ListN.{length, drop}

abbrev pub Between : (ℕ → Type 0) → (a e : ℕ) → Type 0
Between P a e = (j : ℕ) → a ≤ j → j < e → P j

module _ (P : ℕ → Type 0) (a : ℕ) where
  pub between_none : Between P a a
  between_none j h l = absurd (omega arith)

  pub between-then : (i e : ℕ) → Between P a i → Between P i e → Between P a e
  between-then i e f g j h l = elim (dec_le i j) [ yes p ↦ g j p l | no p ↦ f j h (omega arith) ]

  pub between-one : (i : ℕ) → Between P a i → P i → Between P a (i + 1)
  between-one i f p = between-then i (i + 1) f (λ j h l. let e : i ≡ j = omega arith in subst P e p)

  -- one place more has been looked at
  pub between-turn : (i : ℕ) (t u : Bool) → (t ≡ false → Between P a i) → (u ≡ false → P i) → (t || u) ≡ false → Between P a (i + 1)
  between-turn i true u f g h = absurd (true≢false h)
  between-turn i false u f g h = between-one i (f refl) (g h)

-- ---- a run: P holds of the text from each place on, from a up to i

abbrev pub Run : (P : List ℕ → Type 0) (s : List ℕ) (a i : ℕ) → Type 0
Run P s a i = ((a ≤ i) × (i ≤ length s)) × Between (λ j. P (drop j s)) a i

module _ (P : List ℕ → Type 0) (s : List ℕ) where
  pub run_none : (a : ℕ) → a ≤ length s → Run P s a a
  run_none a h = ((omega arith, h), between_none (λ j. P (drop j s)) a)

  module _ (a i : ℕ) (f : Run P s a i) where
    pub run-then : (e : ℕ) → Run P s i e → Run P s a e
    run-then e g = ((omega (arith, f.0.0, g.0.0), g.0.1), between-then (λ j. P (drop j s)) a i e f.1 g.1)

    pub run-over : (k : ℕ) → i + k ≤ length s → Between (λ j. P (drop j s)) i (i + k) → Run P s a (i + k)
    run-over k h g = run-then (i + k) ((omega arith, h), g)

    pub run_on : i < length s → P (drop i s) → Run P s a (i + 1)
    run_on h p = run-over 1 (omega arith) (between-one (λ j. P (drop j s)) i i (between_none (λ j. P (drop j s)) i) p)
