-- Laws of numbers in decimal. Assumes nothing.
use mathlib.Core.Path.{◌≡◌, refl, ap, ◌∙◌}
use mathlib.Core.Bool.{Bool, true, false}
use Prim.Native.Nat.{ℕ, zero, suc, ◌+◌, ◌/◌, ◌%◌, ◌≤◌, ◌<◌}
use native.Mathlib.Omega.{arith}
use mathlib.Core.List.{List, [], ◌∷◌, ◌++◌, map}
use lib.Dec.{ltb}
use borrow.Author.Tests.{lt-ltb, le-ltb, ltb-false}
use Rattle.text.specs.Decimal.{digits_by, last_digits, decimal}
use Rattle.text.specs.Cells.{Cell, sign}

-- more digits than the number has make no difference
enough : (f g n : ℕ) → n < f → n < g → last_digits f n ≡ last_digits g n
unfolding last_digits
enough zero g n h k = absurd (omega arith)
enough (suc f) zero n h k = absurd (omega arith)
enough (suc f) (suc g) n h k = by (ltb n 10) refl (enough f g (n / 10))
  where
    by : (t : Bool) → ltb n 10 ≡ t → (n / 10 < f → n / 10 < g → last_digits f (n / 10) ≡ last_digits g (n / 10))
        → digits_by t n (last_digits f (n / 10)) ≡ digits_by t n (last_digits g (n / 10))
    by true e r = refl
    by false e r = let b : 10 ≤ n = ltb-false n 10 e in ap (λ (l : List ℕ). l ++ (48 + n % 10) ∷ []) (r (omega arith) (omega arith))

signs-append : (s t : List ℕ) → map sign (s ++ t) ≡ map sign s ++ map sign t
signs-append [] t = refl
signs-append (b ∷ s) t = ap (λ (x : List Cell). sign b ∷ x) (signs-append s t)

pub decimal-one : (n : ℕ) → n < 10 → map sign (decimal n) ≡ sign (48 + n) ∷ []
unfolding decimal last_digits
decimal-one n h = ap (λ (t : Bool). map sign (digits_by t n (last_digits n (n / 10)))) (lt-ltb n 10 h)

decimal-front : (n : ℕ) → 10 ≤ n → decimal n ≡ decimal (n / 10) ++ (48 + n % 10) ∷ []
unfolding decimal last_digits
decimal-front n h =
    ap (λ (t : Bool). digits_by t n (last_digits n (n / 10))) (le-ltb n 10 h)
    ∙ (ap (λ (l : List ℕ). l ++ (48 + n % 10) ∷ []) (enough n (suc (n / 10)) (n / 10) (omega arith) (omega arith)))

pub decimal-more : (n : ℕ) → 10 ≤ n → map sign (decimal n) ≡ map sign (decimal (n / 10)) ++ (sign (48 + n % 10) ∷ [])
decimal-more n h = ap (map sign) (decimal-front n h) ∙ signs-append (decimal (n / 10)) ((48 + n % 10) ∷ [])
