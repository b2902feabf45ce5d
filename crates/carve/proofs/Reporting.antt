-- An exported operation reports what the operation below it answers. Assumes nothing.
use mathlib.Core.Path.{◌≡◌, refl, sym, ap, subst, ◌∙◌}
use mathlib.Core.List.{List}
use Prim.Native.Nat.{ℕ}
use Rattle.std.specs.Prelude.{Result, Ok, Err, MatchResult, IsOkAnd}
use Rattle.lending.specs.Answer.{number_of_answer, counts_of_answer}
use Rattle.lending.specs.declared.lent.Refusal.{Refusal}
use Rattle.lending.specs.declared.answer.Converted.{Converted}
use Rattle.carve.specs.Counts.{Reported, Countable, day_counts, lists_counts, marks_counts}
use Rattle.marks.specs.declared.Marked.{Marked}

-- an answer's values as those of a conversion with losses
abbrev pub as_converted : {A : Type 0} → (A → Converted) → Result A Refusal → Result Converted Refusal
as_converted f (Ok x) = Ok (f x)
as_converted f (Err r) = Err r

-- what `a.map(..)` ensures of b, where the closure gives f
module _ {A : Type 0} {P : A → Converted → Type 0} (f : A → Converted) (counts : Result A Refusal → List ℕ) (same : (a : Result A Refusal) → counts_of_answer (as_converted f a) ≡ counts a)
    (a : Result A Refusal) (b : Result Converted Refusal) (m : MatchResult a (λ x. IsOkAnd b (P x)) (λ e. b ≡ Err e)) (gives : (x : A) (y : Converted) → P x y → y ≡ f x) where
  mapped : (b ≡ as_converted f a) × (number_of_answer b ≡ number_of_answer a)
  mapped = by a b m
    where
      by : (a : Result A Refusal) (b : Result Converted Refusal) → MatchResult a (λ x. IsOkAnd b (P x)) (λ e. b ≡ Err e) → (b ≡ as_converted f a) × (number_of_answer b ≡ number_of_answer a)
      by (Ok x) (Ok y) e = (ap Ok (gives x y e), refl)
      by (Ok x) (Err r) e = absurd e
      by (Err r) b e = (e, ap number_of_answer e)

  pub mapped-countable : Countable (counts a) → Countable (counts_of_answer b)
  mapped-countable h = subst Countable (sym (ap counts_of_answer mapped.0 ∙ same a)) h

  pub mapped-reported : {r : ℕ} {cs : List ℕ} → Reported b r cs → (r ≡ number_of_answer a) × (cs ≡ counts a)
  mapped-reported p = (p.0 ∙ mapped.1, p.1 ∙ ap counts_of_answer mapped.0 ∙ same a)

-- the values that each operation without losses answers

pub day-same : (a : Result (Unit {0}) Refusal) → counts_of_answer (as_converted (λ u. record { size = 10; losses = 0; bytes = 0 }) a) ≡ day_counts a
day-same (Ok u) = refl
day-same (Err r) = refl

pub lists-same : (a : Result ℕ Refusal) → counts_of_answer (as_converted (λ size. record { size = size; losses = 0; bytes = 0 }) a) ≡ lists_counts a
lists-same (Ok size) = refl
lists-same (Err r) = refl

pub marks-same : (a : Result Marked Refusal) → counts_of_answer (as_converted (λ m. record { size = m.size; losses = m.spans; bytes = 0 }) a) ≡ marks_counts a
marks-same (Ok m) = refl
marks-same (Err r) = refl
