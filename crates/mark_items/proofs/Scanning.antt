-- Laws of reading tokens from the left: the loop stands at a place, the piece that is being read is in front. Assumes nothing.
use mathlib.Core.Path.{◌≡◌, refl, sym, ap, ◌∙◌}
use mathlib.Core.Bool.{Bool, true, false, cond, ◌&&◌}
use mathlib.Core.Option.{Option, none, some}
use mathlib.Core.List.{List, [], ◌∷◌, ◌++◌, append-nil, append_assoc}
use Prim.Native.Nat.{ℕ, zero, suc, ◌+◌, ◌%◌, ◌≤◌, ◌<◌}
use native.Mathlib.Numerals.{add-one}
use native.Mathlib.Nat.{le_of_suc-le-suc, not-suc-le-zero}
use native.Mathlib.Omega.{arith}
use native.Mathlib.Decide.{dec_le}
use lib.Dec.{eqb}
use lib.ListN.{length, take, drop, get_or, get_or-eq_default}
use lib.Seq.{drop-cons, drop-drop, drop-append-le, drop_at, take-suc, take-add, length-take-le}
use borrow.Author.Tests.{eqb-true}
use Rattle.text.specs.Ascii.{is, to_first}
use Rattle.text.specs.Cells.{Cell, bytes, part}
use Rattle.mark_tags.specs.Marks.{Kind, bold, italic, underline, strike, Tag, opener, closer, kind_of, tag_of, tag_of_bytes, tag_at, more, Tokens, last, cut, onto, scan}
use Rattle.mark_tags.specs.Flat.{kind_number, kind_numbered, tag_number}
use Rattle.mark_tags.proofs.TagNumbers.{kind-small}
use Rattle.mark_pieces.proofs.Pieces.{d}

-- ---- tags and their numbers

pub record Opens (o : Option Tag) (r : ℕ) : Type 0 where
  pub is : o ≡ some (opener (kind_numbered (r % 4)))

pub record Closes (o : Option Tag) (r : ℕ) : Type 0 where
  pub is : o ≡ some (closer (kind_numbered (r % 4)))

pub number-none : (o : Option Tag) → tag_number o ≡ 0 → o ≡ none
number-none none e = refl
number-none (some (opener k)) e = absurd (omega arith)
number-none (some (closer k)) e = absurd (omega arith)

mod-open : (k : Kind) → kind_numbered ((8 + kind_number k) % 4) ≡ k
unfolding kind_numbered
mod-open bold = refl
mod-open italic = refl
mod-open underline = refl
mod-open strike = refl

mod-close : (k : Kind) → kind_numbered ((12 + kind_number k) % 4) ≡ k
unfolding kind_numbered
mod-close bold = refl
mod-close italic = refl
mod-close underline = refl
mod-close strike = refl

pub number-opens : (o : Option Tag) (r : ℕ) → r ≡ tag_number o → (r ≡ 0 → ⊥) → r < 12 → Opens o r
number-opens none r e n h = absurd (n e)
number-opens (some (opener k)) r e n h = record { is = rw (e, mod-open k) }
number-opens (some (closer k)) r e n h = absurd (omega arith)

pub number-closes : (o : Option Tag) (r : ℕ) → r ≡ tag_number o → 12 ≤ r → Closes o r
number-closes none r e h = absurd (omega arith)
number-closes (some (opener k)) r e h = absurd (let s = kind-small k in omega arith)
number-closes (some (closer k)) r e h = record { is = rw (e, mod-close k) }

pub number_small : (o : Option Tag) → tag_number o < 16
number_small none = omega arith
number_small (some (opener k)) = let s = kind-small k in omega arith
number_small (some (closer k)) = let s = kind-small k in omega arith

pub number-big : (o : Option Tag) → (tag_number o ≡ 0 → ⊥) → 8 ≤ tag_number o
number-big none n = absurd (n refl)
number-big (some (opener k)) n = omega arith
number-big (some (closer k)) n = omega arith

-- ---- a tag lies within the text

-- its `]` is the third or the fourth byte
abbrev Ended : Option Tag → (b₂ b₃ : ℕ) → Type 0
Ended none b₂ b₃ = Unit {0}
Ended (some (opener k)) b₂ b₃ = b₂ ≡ 93
Ended (some (closer k)) b₂ b₃ = b₃ ≡ 93

ended-opener : (k : Option Kind) (b₂ b₃ : ℕ) → b₂ ≡ 93 → Ended (tag_of opener k) b₂ b₃
ended-opener none b₂ b₃ e = tt
ended-opener (some k) b₂ b₃ e = e

ended-closer : (k : Option Kind) (b₂ b₃ : ℕ) → b₃ ≡ 93 → Ended (tag_of closer k) b₂ b₃
ended-closer none b₂ b₃ e = tt
ended-closer (some k) b₂ b₃ e = e

ended_by : (k₁ k₂ : Option Kind) (b₂ b₃ : ℕ) (p q r s : Bool) → eqb b₂ 93 ≡ q → eqb b₃ 93 ≡ s → Ended (cond p (cond q (tag_of opener k₁) (cond (r && s) (tag_of closer k₂) none)) none) b₂ b₃
ended_by k₁ k₂ b₂ b₃ false q r s e f = tt
ended_by k₁ k₂ b₂ b₃ true true r s e f = ended-opener k₁ b₂ b₃ (eqb-true b₂ 93 e)
ended_by k₁ k₂ b₂ b₃ true false false s e f = tt
ended_by k₁ k₂ b₂ b₃ true false true true e f = ended-closer k₂ b₂ b₃ (eqb-true b₃ 93 f)
ended_by k₁ k₂ b₂ b₃ true false true false e f = tt

ended : (s : List ℕ) → Ended (tag_at s) (get_or s 2 0) (get_or s 3 0)
unfolding tag_at tag_of_bytes
ended s = ended_by (kind_of (get_or s 1 0)) (kind_of (get_or s 2 0)) (get_or s 2 0) (get_or s 3 0) (is "[" (get_or s 0 0)) (eqb (get_or s 2 0) 93) (is "/" (get_or s 1 0)) (eqb (get_or s 3 0) 93) refl refl

inside : (s : List ℕ) (n : ℕ) → get_or s n 0 ≡ 93 → n < length s
inside s n e = elim (dec_le (length s) n) [ yes p ↦ absurd (let z = get_or-eq_default s 0 p in omega arith) | no q ↦ omega arith ]

fits_by : (s : List ℕ) (o : Option Tag) (t : Tag) → o ≡ some t → Ended o (get_or s 2 0) (get_or s 3 0) → suc (more (some t)) ≤ length s
fits_by s o (opener k) e h = let z : get_or s 2 0 ≡ 93 = rw e at h in inside s 2 z
fits_by s o (closer k) e h = let z : get_or s 3 0 ≡ 93 = rw e at h in inside s 3 z

pub tag_fits : (s : List ℕ) (t : Tag) → tag_at s ≡ some t → suc (more (some t)) ≤ length s
tag_fits s t e = fits_by s (tag_at s) t e (ended s)

-- ---- scanning

-- no byte before the first that p holds of passes
pub first-passed : (p : ℕ → Bool) (s : List ℕ) (k : ℕ) → k < to_first p s → p (get_or s k 0) ≡ false
unfolding to_first
first-passed p [] k h = absurd (not-suc-le-zero h)
first-passed p (b ∷ s) zero h = by (p b) refl h
  where
    by : (t : Bool) → p b ≡ t → 0 < cond t 0 (suc (to_first p s)) → p b ≡ false
    by true e g = absurd (not-suc-le-zero g)
    by false e g = e
first-passed p (b ∷ s) (suc k) h = by (p b) h (first-passed p s k)
  where
    by : (t : Bool) → suc k < cond t 0 (suc (to_first p s)) → (k < to_first p s → p (get_or s k 0) ≡ false) → p (get_or s k 0) ≡ false
    by true g r = absurd (not-suc-le-zero g)
    by false g r = r (le_of_suc-le-suc g)

scan-skip : (k : ℕ) (x : List Cell) → scan k x ≡ scan 0 (drop k x)
unfolding scan
scan-skip zero x = refl
scan-skip (suc k) [] = refl
scan-skip (suc k) (c ∷ x) = scan-skip k x

-- the piece p before the tokens
abbrev pub fronted : List Cell → Tokens → Tokens
fronted p (last q) = last (p ++ q)
fronted p (cut q t s ts) = cut (p ++ q) t s ts

pub fronted-none : (ts : Tokens) → fronted [] ts ≡ ts
fronted-none (last q) = refl
fronted-none (cut q t s ts) = refl

fronted-onto : (p : List Cell) (c : Cell) (ts : Tokens) → fronted p (onto c ts) ≡ fronted (p ++ (c ∷ [])) ts
fronted-onto p c (last q) = ap last (sym (append_assoc p (c ∷ []) q))
fronted-onto p c (cut q t s ts) = ap (λ (l : List Cell). cut l t s ts) (sym (append_assoc p (c ∷ []) q))

part-more : (x : List Cell) (a i : ℕ) → a ≤ i → i < length x → part a (i + 1) x ≡ part a i x ++ (get_or x i d ∷ [])
unfolding part
part-more x a i h k =
    let l = length-take-le i x (omega arith) in
    rw (add-one, take-suc x i d k, drop-append-le a (take i x) (get_or x i d ∷ []) (omega arith))

take_part : (x : List Cell) (i n : ℕ) → i + n ≤ length x → take n (drop i x) ≡ part i (i + n) x
unfolding part
take_part x i n h = sym (ap (drop i) (take-add i n x) ∙ (let l = length-take-le i x (omega arith) in drop_at (take i x) (take n (drop i x)) i l))

module _ (x : List Cell) (i : ℕ) (h : i < length x) where
  tag-there : tag_at (bytes (drop i x)) ≡ tag_at (bytes (get_or x i d ∷ drop (suc i) x))
  tag-there = ap (λ (l : List Cell). tag_at (bytes l)) (drop-cons x i d h)

  pub scan-plain : (a : ℕ) → a ≤ i → tag_at (bytes (drop i x)) ≡ none → fronted (part a i x) (scan 0 (drop i x)) ≡ fronted (part a (i + 1) x) (scan 0 (drop (i + 1) x))
  unfolding scan
  scan-plain a k e =
      let f : tag_at (bytes (get_or x i d ∷ drop (suc i) x)) ≡ none = sym tag-there ∙ e in
      rw (drop-cons x i d h, f, part-more x a i k h, add-one) (fronted-onto (part a i x) (get_or x i d) (scan 0 (drop (suc i) x)))

  pub scan-tag : (a : ℕ) (t : Tag) → a ≤ i → i + suc (more (some t)) ≤ length x → tag_at (bytes (drop i x)) ≡ some t
      → fronted (part a i x) (scan 0 (drop i x)) ≡ cut (part a i x) t (part i (i + suc (more (some t))) x) (scan 0 (drop (i + suc (more (some t))) x))
  unfolding scan
  scan-tag a t k g e =
      let f : tag_at (bytes (get_or x i d ∷ drop (suc i) x)) ≡ some t = sym tag-there ∙ e in
      let s : take (suc (more (some t))) (get_or x i d ∷ drop (suc i) x) ≡ part i (i + suc (more (some t))) x = ap (take (suc (more (some t)))) (sym (drop-cons x i d h)) ∙ take_part x i (suc (more (some t))) g in
      let z : suc i + more (some t) ≡ i + suc (more (some t)) = omega arith in
      let r : drop (more (some t)) (drop (suc i) x) ≡ drop (i + suc (more (some t))) x = drop-drop (more (some t)) (suc i) x ∙ ap (λ (n : ℕ). drop n x) z in
      rw (drop-cons x i d h, f, scan-skip (more (some t)) (drop (suc i) x), s, r, append-nil (part a i x))
