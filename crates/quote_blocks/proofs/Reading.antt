-- Laws of reading a text's tokens, place by place: x is the text and s its bytes. Assumes nothing.
use mathlib.Core.Path.{◌≡◌, refl, sym, ap, ◌∙◌}
use Prim.Native.Nat.{ℕ, zero, suc, ◌+◌, ◌-◌, ◌≤◌, ◌<◌}
use native.Mathlib.Omega.{arith}
use native.Mathlib.Numerals.{add-one}
use mathlib.Core.Bool.{Bool, true, false, cond, ◌||◌}
use mathlib.Core.List.{List, [], ◌∷◌}
use lib.ListN.{length, take, drop, get_or, length-map, drop_of_length-le}
use lib.Seq.{drop-cons, drop-drop}
use lib.Dec.{leb, ltb}
use borrow.Author.Tests.{lt-ltb, le-ltb, leb-true, leb-false}
use Rattle.text.specs.Ascii.{begins}
use Rattle.text.specs.Cells.{Cell, bytes, feed}
use Rattle.quote_tags.specs.Tags.{begins_any, tag_size, opener_size, closer_size, attribution_of}
use Rattle.quote_blocks.specs.Quotes.{Token, text, opens, closes, tokens, too_deep_from}

tokens-skip : (k : ℕ) (x : List Cell) → tokens k x ≡ tokens 0 (drop k x)
unfolding tokens
tokens-skip zero x = refl
tokens-skip (suc k) [] = refl
tokens-skip (suc k) (c ∷ x) = tokens-skip k x

pub bytes_drop : (i : ℕ) (x : List Cell) → bytes (drop i x) ≡ drop i (bytes x)
bytes_drop zero x = refl
bytes_drop (suc i) [] = refl
bytes_drop (suc i) (c ∷ x) = bytes_drop i x

-- no tag is read off nothing
no-opener : opener_size [] ≡ 0
unfolding opener_size tag_size begins_any begins
no-opener = refl

no-closer : closer_size [] ≡ 0
unfolding closer_size tag_size begins_any begins
no-closer = refl

first-opener : (x : List Cell) (k : ℕ) → opener_size (bytes x) ≡ suc k → tokens 0 x ≡ opens (take (suc k) x) (attribution_of (bytes x)) ∷ tokens 0 (drop (suc k) x)
unfolding tokens
first-opener [] k e = absurd (omega (arith, e, no-opener))
first-opener (c ∷ x) k e = rw (e, tokens-skip k x)

first-closer : (x : List Cell) (j : ℕ) → opener_size (bytes x) ≡ 0 → closer_size (bytes x) ≡ suc j → tokens 0 x ≡ closes (take (suc j) x) ∷ tokens 0 (drop (suc j) x)
unfolding tokens
first-closer [] j z e = absurd (omega (arith, e, no-closer))
first-closer (c ∷ x) j z e = let q : suc j - 1 ≡ j = omega arith in rw (z, e, q, tokens-skip j x)

pub first-text : (c : Cell) (x : List Cell) → opener_size (bytes (c ∷ x)) ≡ 0 → closer_size (bytes (c ∷ x)) ≡ 0 → tokens 0 (c ∷ x) ≡ text c ∷ tokens 0 x
unfolding tokens
first-text c x z e = rw (z, e)

module _ (x : List Cell) (s : List ℕ) (e : bytes x ≡ s) (i : ℕ) where
  pub bytes-at : bytes (drop i x) ≡ drop i s
  bytes-at = bytes_drop i x ∙ ap (drop i) e

  long : length x ≡ length s
  long = sym (length-map x (λ (c : Cell). c.byte)) ∙ ap length e

  pub read-opener : {k : ℕ} → k ≡ opener_size (drop i s) → (k ≡ 0 → ⊥) → tokens 0 (drop i x) ≡ opens (take k (drop i x)) (attribution_of (drop i s)) ∷ tokens 0 (drop (i + k) x)
  read-opener {k} p n =
      let q : k ≡ suc (k - 1) = omega arith in
      let t : opener_size (bytes (drop i x)) ≡ suc (k - 1) = ap opener_size bytes-at ∙ sym p ∙ q in
      rw (← drop-drop k i x, q) (first-opener (drop i x) (k - 1) t ∙ rw bytes-at)

  pub read-closer : {k j : ℕ} → k ≡ opener_size (drop i s) → k ≡ 0 → j ≡ closer_size (drop i s) → (j ≡ 0 → ⊥) → tokens 0 (drop i x) ≡ closes (take j (drop i x)) ∷ tokens 0 (drop (i + j) x)
  read-closer {k} {j} p z r n =
      let q : j ≡ suc (j - 1) = omega arith in
      let t : opener_size (bytes (drop i x)) ≡ 0 = ap opener_size bytes-at ∙ sym p ∙ z in
      let u : closer_size (bytes (drop i x)) ≡ suc (j - 1) = ap closer_size bytes-at ∙ sym r ∙ q in
      rw (← drop-drop j i x, q) (first-closer (drop i x) (j - 1) t u)

  pub read-text : {k j : ℕ} → i < length s → k ≡ opener_size (drop i s) → k ≡ 0 → j ≡ closer_size (drop i s) → j ≡ 0 → tokens 0 (drop i x) ≡ text (get_or x i feed) ∷ tokens 0 (drop (i + 1) x)
  read-text {k} {j} lt p z r y =
      let l = long in
      let d : drop i x ≡ get_or x i feed ∷ drop (suc i) x = drop-cons x i feed (omega arith) in
      let t : opener_size (bytes (get_or x i feed ∷ drop (suc i) x)) ≡ 0 = ap (λ (y : List Cell). opener_size (bytes y)) (sym d) ∙ ap opener_size bytes-at ∙ sym p ∙ z in
      let u : closer_size (bytes (get_or x i feed ∷ drop (suc i) x)) ≡ 0 = ap (λ (w : List Cell). closer_size (bytes w)) (sym d) ∙ ap closer_size bytes-at ∙ sym r ∙ y in
      rw (d, add-one) (first-text (get_or x i feed) (drop (suc i) x) t u)

  pub read-end : length s ≤ i → tokens 0 (drop i x) ≡ []
  unfolding tokens
  read-end le = let l = long in rw (drop_of_length-le x {i = i} (omega arith))

-- ---- how deep

module _ (d : ℕ) where
  pub deep-opener : (tag : List Cell) (a : List ℕ) (r : List Token) → d ≤ 64 → too_deep_from d (opens tag a ∷ r) ≡ cond (ltb 64 (d + 1)) true (too_deep_from (d + 1) r)
  unfolding too_deep_from
  deep-opener tag a r h = by (leb 64 d) refl
    where
      by : (t : Bool) → leb 64 d ≡ t → (t || too_deep_from (suc d) r) ≡ cond (ltb 64 (d + 1)) true (too_deep_from (d + 1) r)
      by true p = rw (lt-ltb 64 (d + 1) (let z = leb-true 64 d p in omega arith))
      by false p = rw (le-ltb 64 (d + 1) (let z = leb-false 64 d p in omega arith), add-one)

  pub deep-closer : (tag : List Cell) (r : List Token) {d' : ℕ} → d ≤ 64 → d' ≡ d - 1 → too_deep_from d (closes tag ∷ r) ≡ cond (ltb 64 d') true (too_deep_from d' r)
  unfolding too_deep_from
  deep-closer tag r {d'} h q = rw (le-ltb 64 d' (omega arith), q)

  pub deep-text : (c : Cell) (r : List Token) → d ≤ 64 → too_deep_from d (text c ∷ r) ≡ cond (ltb 64 d) true (too_deep_from d r)
  unfolding too_deep_from
  deep-text c r h = rw (le-ltb 64 d h)
