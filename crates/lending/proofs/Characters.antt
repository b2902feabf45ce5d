-- Laws of UTF-8, by place. Assumes nothing.
use mathlib.Core.Path.{◌≡◌, refl, sym, ◌∙◌}
use mathlib.Core.Bool.{Bool, true, false, cond, ◌&&◌, ◌||◌}
use Prim.Native.Nat.{ℕ, zero, suc, ◌+◌, ◌-◌, ◌≤◌, ◌<◌}
use lib.Dec.{eqb}
use borrow.Author.Tests.{le-leb, eq-eqb, ne_eqb}
use native.Mathlib.Nat.{add-zero, not-suc-le-zero}
use native.Mathlib.Omega.{arith}
use mathlib.Core.List.{List, [], ◌∷◌}
use lib.ListN.{length, drop, get_or, drop_of_length-le}
use lib.Seq.{get_or-drop, drop-cons, drop-drop}
use Rattle.text.specs.Ascii.{inside}
use Rattle.text.proofs.Bytes.{both, inside-true}
use Rattle.lending.specs.Utf8.{tail, utf8-1, utf8-2, utf8-3, utf8-4, size, char_size, utf8_after, utf8}

pub char-at : (s : List ℕ) (i : ℕ) → char_size (drop i s) ≡ size (get_or s i 0) (get_or s (i + 1) 0) (get_or s (i + 2) 0) (get_or s (i + 3) 0)
unfolding char_size
char-at s i = simp (get_or-drop, add-zero)

-- ---- UTF-8

utf8-skip : (k : ℕ) (s : List ℕ) → utf8_after k s ≡ utf8_after 0 (drop k s)
unfolding utf8_after
utf8-skip zero [] = refl
utf8-skip (suc k) [] = refl
utf8-skip zero (b ∷ s) = refl
utf8-skip (suc k) (b ∷ s) = utf8-skip k s

pub utf8-end : (s : List ℕ) (i : ℕ) → length s ≤ i → utf8 (drop i s) ≡ true
unfolding utf8 utf8_after
utf8-end s i h = rw (drop_of_length-le s {i = i} h)

utf8-cons : (b : ℕ) (s : List ℕ) → utf8 (b ∷ s) ≡ cond (eqb (char_size (b ∷ s)) 0) false (utf8_after (char_size (b ∷ s) - 1) s)
unfolding utf8 utf8_after
utf8-cons b s = refl

pub utf8-bad : (s : List ℕ) (i n : ℕ) → i < length s → n ≡ char_size (drop i s) → n ≡ 0 → utf8 (drop i s) ≡ false
utf8-bad s i n h e z = rw (drop-cons s i 0 h, utf8-cons, ← drop-cons s i 0 h, ← e, eq-eqb n 0 z)

pub utf8-turn : (s : List ℕ) (i n : ℕ) → i < length s → n ≡ char_size (drop i s) → (n ≡ 0 → ⊥) → utf8 (drop i s) ≡ utf8 (drop (i + n) s)
unfolding utf8
utf8-turn s i n h e z =
    let q : suc i + (n - 1) ≡ i + n = omega arith in
    rw (drop-cons s i 0 h, utf8-cons, ← drop-cons s i 0 h, ← e, ne_eqb n 0 z, utf8-skip, drop-drop (n - 1) (suc i) s, q)

-- ---- ASCII

ascii-size : (a b c d : ℕ) → a < 128 → size a b c d ≡ 1
unfolding size inside utf8-1
ascii-size a b c d h = rw (le-leb 0 a (omega arith), le-leb a 127 (omega arith))

pub ascii-char : (s : List ℕ) (i : ℕ) → get_or s i 0 < 128 → 1 ≡ char_size (drop i s)
ascii-char s i h = sym (char-at s i ∙ ascii-size (get_or s i 0) (get_or s (i + 1) 0) (get_or s (i + 2) 0) (get_or s (i + 3) 0) h)

-- ---- the bytes of a character that is not ASCII are not ASCII

either : {P : Type 0} (x y : Bool) → (x ≡ true → P) → (y ≡ true → P) → (x || y) ≡ true → P
either true y p q h = p refl
either false y p q h = q h

wide-tail : (b : ℕ) → tail b ≡ true → 128 ≤ b
unfolding tail
wide-tail b h = (inside-true 0x80 0xBF b h).0

wide-two : (x : Bool) (lo hi b : ℕ) → 128 ≤ lo → (x && inside lo hi b) ≡ true → 128 ≤ b
wide-two x lo hi b l h = let p = inside-true lo hi b (both x (inside lo hi b) h).1 in omega (arith, p.0)

wide-three : (x : Bool) (lo hi b c : ℕ) → 128 ≤ lo → (x && inside lo hi b && tail c) ≡ true → (128 ≤ b) × (128 ≤ c)
wide-three x lo hi b c l h = let p = both (x && inside lo hi b) (tail c) h in (wide-two x lo hi b l p.0, wide-tail c p.1)

wide-four : (x : Bool) (lo hi b c d : ℕ) → 128 ≤ lo → (x && inside lo hi b && tail c && tail d) ≡ true → ((128 ≤ b) × (128 ≤ c)) × (128 ≤ d)
wide-four x lo hi b c d l h = let p = both (x && inside lo hi b && tail c) (tail d) h in (wide-three x lo hi b c l p.0, wide-tail d p.1)

wide-2 : (a b : ℕ) → utf8-2 a b ≡ true → 128 ≤ b
unfolding utf8-2 tail
wide-2 a b = wide-two (inside 0xC2 0xDF a) 0x80 0xBF b (omega arith)

wide-3 : (a b c : ℕ) → utf8-3 a b c ≡ true → (128 ≤ b) × (128 ≤ c)
unfolding utf8-3 tail
wide-3 a b c =
    either _ _ (wide-three (inside 0xE0 0xE0 a) 0xA0 0xBF b c (omega arith))
    (either _ _ (wide-three (inside 0xE1 0xEC a) 0x80 0xBF b c (omega arith))
    (either _ _ (wide-three (inside 0xED 0xED a) 0x80 0x9F b c (omega arith))
    (wide-three (inside 0xEE 0xEF a) 0x80 0xBF b c (omega arith))))

wide-4 : (a b c d : ℕ) → utf8-4 a b c d ≡ true → ((128 ≤ b) × (128 ≤ c)) × (128 ≤ d)
unfolding utf8-4 tail
wide-4 a b c d =
    either _ _ (wide-four (inside 0xF0 0xF0 a) 0x90 0xBF b c d (omega arith))
    (either _ _ (wide-four (inside 0xF1 0xF3 a) 0x80 0xBF b c d (omega arith))
    (wide-four (inside 0xF4 0xF4 a) 0x80 0x8F b c d (omega arith)))

-- what holds of the byte k of a character, by the character's size
by_size : {P : Type 0} (k : ℕ) (t₁ t₂ t₃ t₄ : Bool) → 1 ≤ k → (k < 2 → t₂ ≡ true → P) → (k < 3 → t₃ ≡ true → P) → (k < 4 → t₄ ≡ true → P)
    → k < cond t₁ 1 (cond t₂ 2 (cond t₃ 3 (cond t₄ 4 0))) → P
by_size k true t₂ t₃ t₄ h p q r lt = absurd (omega arith)
by_size k false true t₃ t₄ h p q r lt = p lt refl
by_size k false false true t₄ h p q r lt = q lt refl
by_size k false false false true h p q r lt = r lt refl
by_size k false false false false h p q r lt = absurd (not-suc-le-zero lt)

module _ (a b c d : ℕ) where
  size-2 : 1 < size a b c d → 128 ≤ b
  unfolding size
  size-2 =
      by_size 1 (utf8-1 a) (utf8-2 a b) (utf8-3 a b c) (utf8-4 a b c d) (omega arith)
      (λ lt e. wide-2 a b e) (λ lt e. (wide-3 a b c e).0) (λ lt e. (wide-4 a b c d e).0.0)

  size-3 : 2 < size a b c d → 128 ≤ c
  unfolding size
  size-3 =
      by_size 2 (utf8-1 a) (utf8-2 a b) (utf8-3 a b c) (utf8-4 a b c d) (omega arith)
      (λ lt e. absurd (omega arith)) (λ lt e. (wide-3 a b c e).1) (λ lt e. (wide-4 a b c d e).0.1)

  size-4 : 3 < size a b c d → 128 ≤ d
  unfolding size
  size-4 =
      by_size 3 (utf8-1 a) (utf8-2 a b) (utf8-3 a b c) (utf8-4 a b c d) (omega arith)
      (λ lt e. absurd (omega arith)) (λ lt e. absurd (omega arith)) (λ lt e. (wide-4 a b c d e).1)

  size-most : (k : ℕ) → 4 ≤ k → k < size a b c d → ⊥
  unfolding size
  size-most k h =
      by_size k (utf8-1 a) (utf8-2 a b) (utf8-3 a b c) (utf8-4 a b c d) (omega arith)
      (λ lt e. omega arith) (λ lt e. omega arith) (λ lt e. omega arith)

pub char-wide : (s : List ℕ) (i n : ℕ) → n ≡ char_size (drop i s) → 128 ≤ get_or s i 0 → (k : ℕ) → k < n → 128 ≤ get_or s (i + k) 0
char-wide s i n e h k lt =
    let z = char-at s i in
    by k (omega (arith, z))
  where
    by : (k : ℕ) → k < size (get_or s i 0) (get_or s (i + 1) 0) (get_or s (i + 2) 0) (get_or s (i + 3) 0) → 128 ≤ get_or s (i + k) 0
    by zero lt = rw add-zero h
    by (suc zero) lt = size-2 (get_or s i 0) (get_or s (i + 1) 0) (get_or s (i + 2) 0) (get_or s (i + 3) 0) lt
    by (suc (suc zero)) lt = size-3 (get_or s i 0) (get_or s (i + 1) 0) (get_or s (i + 2) 0) (get_or s (i + 3) 0) lt
    by (suc (suc (suc zero))) lt = size-4 (get_or s i 0) (get_or s (i + 1) 0) (get_or s (i + 2) 0) (get_or s (i + 3) 0) lt
    by (suc (suc (suc (suc k)))) lt = absurd (size-most (get_or s i 0) (get_or s (i + 1) 0) (get_or s (i + 2) 0) (get_or s (i + 3) 0) (suc (suc (suc (suc k)))) (omega arith) lt)
