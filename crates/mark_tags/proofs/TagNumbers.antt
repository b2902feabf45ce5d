-- Laws of the numbers that stand for tags and kinds. Assumes nothing.
use mathlib.Core.Path.{◌≡◌, refl, sym, ap, ◌∙◌}
use mathlib.Core.Option.{Option, none, some}
use mathlib.Core.List.{List}
use mathlib.Core.Bool.{Bool, true, false, cond, ◌&&◌, ◌||◌, true≢false}
use Rattle.std.specs.Int.{from_bool}
use Prim.Native.Nat.{ℕ, zero, suc, ◌+◌, ◌-◌, ◌*◌, ◌/◌, ◌%◌, ◌^◌, ◌≤◌, ◌<◌}
use native.Mathlib.Nat.{add-zero}
use native.Mathlib.Omega.{arith}
use lib.Bits.{bit_and, bit_or, and_le_r}
use lib.Dec.{eqb, ltb, eqb→eq}
use lib.ListN.{drop, get_or}
use lib.Seq.{get_or-drop}
use borrow.Author.Tests.{ltb-true, ltb-false, ne_eqb}
use Rattle.text.proofs.Table.{below}
use Rattle.mark_tags.specs.Marks.{Kind, bold, italic, underline, strike, Tag, opener, closer, kind_of, tag_of, tag_of_bytes, tag_at}
use Rattle.mark_tags.specs.Flat.{kind_number, kind_numbered, letter_number, tag_number, bit_of}

pub bit-cond : (b : Bool) → from_bool b ≡ cond b 1 0
bit-cond true = refl
bit-cond false = refl

pub kind-small : (k : Kind) → kind_number k < 4
kind-small bold = omega arith
kind-small italic = omega arith
kind-small underline = omega arith
kind-small strike = omega arith

pub numbered-kind : (n : ℕ) → n < 4 → kind_number (kind_numbered n) ≡ n
unfolding kind_numbered
numbered-kind zero h = refl
numbered-kind (suc zero) h = refl
numbered-kind (suc (suc zero)) h = refl
numbered-kind (suc (suc (suc zero))) h = refl
numbered-kind (suc (suc (suc (suc n)))) h = absurd (omega arith)

pub kind-numbered : (k : Kind) → kind_numbered (kind_number k) ≡ k
unfolding kind_numbered
kind-numbered bold = refl
kind-numbered italic = refl
kind-numbered underline = refl
kind-numbered strike = refl

pub bit-numbered : (k : Kind) (n : ℕ) → k ≡ kind_numbered (n % 4) → bit_of (kind_number k) ≡ bit_of (n % 4)
bit-numbered k n e = ap (λ (j : Kind). bit_of (kind_number j)) e ∙ ap bit_of (numbered-kind (n % 4) (omega arith))

-- the kind in the low four bits of a small letter, if it is the letter of that kind
abbrev packed_kind : ℕ → ℕ
packed_kind small = bit_and (264384 / 2 ^ (2 * bit_and small 15)) 3

abbrev packed_letter : ℕ → ℕ
packed_letter kind = bit_and (1937074530 / 2 ^ (8 * kind)) 255

abbrev unpacked : ℕ → ℕ
unpacked small = cond (eqb small (packed_letter (packed_kind small))) (packed_kind small) 4

pub packed-small : (small : ℕ) → packed_kind small ≤ 3
packed-small small = and_le_r (264384 / 2 ^ (2 * bit_and small 15)) 3

right : ℕ → Bool
right a = eqb (unpacked (bit_or a 32)) (letter_number (kind_of a))

-- a test at each of the 256 bytes, which antt computes
pub letter-unpacked : (a : ℕ) → a < 256 → unpacked (bit_or a 32) ≡ letter_number (kind_of a)
unfolding right kind_of
letter-unpacked a h = eqb→eq (unpacked (bit_or a 32)) (letter_number (kind_of a)) (below right 256 tt a h)

pub letter-most : (k : Option Kind) → letter_number k ≤ 4
letter-most none = omega arith
letter-most (some k) = let s = kind-small k in omega arith

found : (t : Kind → Tag) (z : ℕ) → ((k : Kind) → z + kind_number k ≡ tag_number (some (t k))) → (l : Option Kind) (r : ℕ) → r ≡ letter_number l → r < 4 → z + r ≡ tag_number (tag_of t l)
found t z f none r e h = absurd (omega arith)
found t z f (some k) r e h = ap (λ (x : ℕ). z + x) e ∙ f k

no_number : (t : Kind → Tag) (l : Option Kind) (r : ℕ) → r ≡ letter_number l → 4 ≤ r → 0 ≡ tag_number (tag_of t l)
no_number t none r e h = refl
no_number t (some k) r e h = absurd (let s = kind-small k in omega arith)

-- The tag of four bytes: s is whether the first is `[`, o whether the third is `]`, w whether the other two are those of a closer.
abbrev tested : (s o w : Bool) (b c : ℕ) → Option Tag
tested s o w b c = cond s (cond o (tag_of opener (kind_of b)) (cond w (tag_of closer (kind_of c)) none)) none

pub tag-number : (s o w : Bool) (b c k : ℕ) → k ≡ letter_number (kind_of (cond o b c)) → (s && (o || w) && ltb k 4) ≡ true
    → 12 + k - 4 * cond o 1 0 ≡ tag_number (tested s o w b c)
tag-number false o w b c k e t = absurd (true≢false (sym t))
tag-number true true w b c k e t = (let z : 12 + k - 4 ≡ 8 + k = omega arith in z) ∙ found opener 8 (λ l. refl) (kind_of b) k e (ltb-true k 4 t)
tag-number true false true b c k e t = (let z : 12 + k - 0 ≡ 12 + k = omega arith in z) ∙ found closer 12 (λ l. refl) (kind_of c) k e (ltb-true k 4 t)
tag-number true false false b c k e t = absurd (true≢false (sym t))

pub no-tag-number : (s o w : Bool) (b c k : ℕ) → k ≡ letter_number (kind_of (cond o b c)) → (s && (o || w) && ltb k 4) ≡ false → 0 ≡ tag_number (tested s o w b c)
no-tag-number false o w b c k e t = refl
no-tag-number true true w b c k e t = no_number opener (kind_of b) k e (ltb-false k 4 t)
no-tag-number true false true b c k e t = no_number closer (kind_of c) k e (ltb-false k 4 t)
no-tag-number true false false b c k e t = refl

pub tag-at : (s : List ℕ) (i : ℕ) → tag_at (drop i s) ≡ tag_of_bytes (get_or s i 0) (get_or s (i + 1) 0) (get_or s (i + 2) 0) (get_or s (i + 3) 0)
unfolding tag_at
tag-at s i = simp (get_or-drop, add-zero)

-- no tag begins with another byte than `[`
pub no-tag : (s : List ℕ) (i : ℕ) → (get_or s i 0 ≡ 91 → ⊥) → tag_at (drop i s) ≡ none
unfolding tag_of_bytes
no-tag s i h = tag-at s i ∙ rw (ne_eqb (get_or s i 0) 91 h)
