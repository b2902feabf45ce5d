-- Laws of counting open quotes. Assumes nothing.
use mathlib.Core.Path.{◌≡◌, refl, sym, ap, ◌∙◌}
use Prim.Native.Nat.{ℕ, ◌+◌, ◌-◌, ◌≤◌, ◌<◌}
use native.Mathlib.Omega.{arith}
use native.Mathlib.Decide.{dec_le}
use mathlib.Core.Bool.{true, cond}
use mathlib.Core.List.{List}
use lib.ListN.{length, drop}
use borrow.Author.Tests.{lt-ltb, le-ltb}
use lib.Dec.{ltb}
use Rattle.text.specs.Cells.{Cell, bytes}
use Rattle.quote_tags.specs.Tags.{opener_size, closer_size}
use Rattle.quote_tags.proofs.Plain.{PlainRun}
use Rattle.quote_blocks.specs.Quotes.{tokens, too_deep_from, too_deep, DepthBehind, TooDeep}
use Rattle.quote_steps.proofs.Texts.{read-run, deep-texts}
use Rattle.quote_blocks.proofs.Reading.{read-opener, read-closer, read-text, read-end, deep-opener, deep-closer, deep-text}

-- ---- one token

module _ (s : List ℕ) (i d k : ℕ) (lt : i < length s) (h : d ≤ 64) (ek : k ≡ opener_size (drop i s)) where
  pub depth-opener : {d' : ℕ} → (k ≡ 0 → ⊥) → d' ≡ d + 1 → DepthBehind s i d (i + k) d'
  depth-opener {d'} n q = record { same = λ x e. ap (too_deep_from d) (read-opener x s e i ek n) ∙ deep-opener d _ _ _ h ∙ rw (← q) }

  module _ (j : ℕ) (z : k ≡ 0) (ej : j ≡ closer_size (drop i s)) where
    pub depth-closer : {d' : ℕ} → (j ≡ 0 → ⊥) → d' ≡ d - 1 → DepthBehind s i d (i + j) d'
    depth-closer n q = record { same = λ x e. ap (too_deep_from d) (read-closer x s e i ek z ej n) ∙ deep-closer d _ _ h q }

    -- with the text up to the next place where a quote tag may begin
    pub depth-text : j ≡ 0 → {q : ℕ} → PlainRun s (i + 1) q → DepthBehind s i d q d
    depth-text y run = record {
      same = λ x e. ap (too_deep_from d) (read-text x s e i lt ek z ej y) ∙ deep-text d _ _ h ∙ ap (cond (ltb 64 d) true) (ap (too_deep_from d) (read-run x s e (i + 1) run) ∙ deep-texts d _ _);
    }

-- ---- all tokens

-- where no opener was one too many before i, what is left to read from i on decides
pub record Deepening (s : List ℕ) (i depth : ℕ) : Type 0 where
  pub few : depth ≤ 65
  pub within : depth ≤ 64 → (x : List Cell) → bytes x ≡ s → too_deep x ≡ too_deep_from depth (tokens 0 (drop i x))
  pub over : 64 < depth → TooDeep s true

pub deepening : (s : List ℕ) → Deepening s 0 0
unfolding too_deep
deepening s = record { few = omega arith; within = λ h x e. refl; over = λ h. absurd (omega (arith, h)) }

module _ {s : List ℕ} {i d : ℕ} (w : Deepening s i d) where
  pub deepening-on : {i' d' : ℕ} → (d ≤ 64 → DepthBehind s i d i' d') → (64 < d → d' ≡ d) → d' ≤ 65 → Deepening s i' d'
  deepening-on {i'} {d'} z o m = record {
    few = m;
    within = λ le x e. elim (dec_le d 64) [
      | yes h ↦ w.within h x e ∙ (z h).same x e ∙ rw (le-ltb 64 d' le)
      | no h ↦ let q = o (omega (arith, h)) in absurd (omega (arith, q, h, le))
    ];
    over = λ lt x e. elim (dec_le d 64) [
      | yes h ↦ w.within h x e ∙ (z h).same x e ∙ rw (lt-ltb 64 d' lt)
      | no h ↦ w.over (omega (arith, h)) x e
    ];
  }

  pub deep-end : length s ≤ i → TooDeep s (ltb 64 d)
  unfolding too_deep_from
  deep-end le x e = elim (dec_le d 64) [
    | yes h ↦ w.within h x e ∙ ap (too_deep_from d) (read-end x s e i le) ∙ sym (le-ltb 64 d h)
    | no h ↦ let g : 64 < d = omega (arith, h) in w.over g x e ∙ sym (lt-ltb 64 d g)
  ]
