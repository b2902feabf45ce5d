-- Laws of the cells of a written text: an ASCII byte begins a character anew. Assumes nothing.
use mathlib.Core.Path.{◌≡◌, refl, ap}
use mathlib.Core.Bool.{Bool, true, false, cond, ◌&&◌, ◌||◌}
use mathlib.Core.List.{List, [], ◌∷◌, ◌++◌}
use Prim.Native.Nat.{ℕ, suc, ◌-◌, ◌≤◌, ◌<◌}
use native.Mathlib.Omega.{arith}
use lib.Dec.{eqb, ltb}
use lib.ListN.{length, get_or}
use borrow.Author.Tests.{ne_eqb, lt-leb}
use Rattle.text.specs.Ascii.{inside}
use Rattle.text.specs.Blanks.{blank1, blank2, blank_e280, blank3, blank_width, blank_size}
use Rattle.text.specs.Cells.{Cell, bytes, blank_at, more_after, cells_from, written}

-- ---- blank characters end before an ASCII byte

other : (b k : ℕ) → b < 128 → 128 ≤ k → eqb b k ≡ false
other b k h le = ne_eqb b k (λ (e : b ≡ k). omega arith)

second : (a b c d : ℕ) → b < 128 → blank_width a b c ≡ blank_width a 0 d
unfolding blank_width blank2 blank3
second a b c d h = rw (other b 0x85 h (omega arith), other b 0xA0 h (omega arith), other b 0x9A h (omega arith), other b 0x80 h (omega arith), other b 0x81 h (omega arith))

third : (a b c : ℕ) → c < 128 → blank_width a b c ≡ blank_width a b 0
unfolding blank_width blank3 blank_e280 inside
third a b c h = rw (other c 0x80 h (omega arith), other c 0x9F h (omega arith), other c 0xAF h (omega arith), lt-leb 0x80 c h, lt-leb 0xA8 c (omega arith))

size_same : (a : ℕ) (x : List ℕ) (b : ℕ) (y : List ℕ) → b < 128 → blank_size (a ∷ (x ++ (b ∷ y))) ≡ blank_size (a ∷ x)
unfolding blank_size
size_same a [] b y h = second a b (get_or y 0 0) 0 h
size_same a (d ∷ []) b y h = third a d b h
size_same a (d ∷ e ∷ x) b y h = refl

none_both : (t : Bool) → (t && false) ≡ false
none_both true = refl
none_both false = refl

same_cond : (t : Bool) (r : Bool) → cond t r r ≡ r
same_cond true r = refl
same_cond false r = refl

blank2-none : (a : ℕ) → blank2 a 0 ≡ false
unfolding blank2
blank2-none a = none_both (eqb a 0xC2)

blank3-none : (a c : ℕ) → blank3 a 0 c ≡ false
unfolding blank3
blank3-none a c = by (eqb a 0xE1) (eqb a 0xE2) (eqb a 0xE3)
  where
    by : (t u v : Bool) → cond t false (cond u false (v && false)) ≡ false
    by true u v = refl
    by false true v = refl
    by false false true = refl
    by false false false = refl

blank3-short : (a b : ℕ) → blank3 a b 0 ≡ false
unfolding blank3 blank_e280 inside
blank3-short a b = by (eqb a 0xE1) (eqb a 0xE2) (eqb a 0xE3) (eqb b 0x9A) (eqb b 0x80) (eqb b 0x81)
  where
    by : (t u v p q r : Bool) → cond t (p && false) (cond u (cond q false (r && false)) (v && (q && false))) ≡ false
    by true u v true q r = refl
    by true u v false q r = refl
    by false true v p true r = refl
    by false true v p false true = refl
    by false true v p false false = refl
    by false false true p true r = refl
    by false false true p false r = refl
    by false false false p q r = refl

size-within : (a : ℕ) (x : List ℕ) → blank_size (a ∷ x) ≤ suc (length x)
unfolding blank_size blank_width
size-within a [] = rw (blank2-none a, blank3-none a 0) (by (blank1 a))
  where
    by : (t : Bool) → cond t 1 0 ≤ 1
    by true = omega arith
    by false = omega arith
size-within a (d ∷ []) = rw (blank3-short a d) (by (blank1 a) (blank2 a d))
  where
    by : (t u : Bool) → cond t 1 (cond u 2 0) ≤ 2
    by true u = omega arith
    by false true = omega arith
    by false false = omega arith
size-within a (d ∷ e ∷ x) = by (blank1 a) (blank2 a d) (blank3 a d e)
  where
    by : (t u v : Bool) → cond t 1 (cond u 2 (cond v 3 0)) ≤ suc (suc (suc (length x)))
    by true u v = omega arith
    by false true v = omega arith
    by false false true = omega arith
    by false false false = omega arith

-- ---- written texts, one behind the other

blank_of : (more : ℕ) (u v : List ℕ) → blank_size u ≡ blank_size v → blank_at more u ≡ blank_at more v
unfolding blank_at
blank_of more u v e = rw e

more_of : (more : ℕ) (u v : List ℕ) → blank_size u ≡ blank_size v → more_after more u ≡ more_after more v
unfolding more_after
more_of more u v e = rw e

after-within : (more : ℕ) (u : List ℕ) (n : ℕ) → more ≤ suc n → blank_size u ≤ suc n → more_after more u ≤ n
unfolding more_after
after-within more u n h k = by (ltb 0 more)
  where
    by : (t : Bool) → cond t (more - 1) (blank_size u - 1) ≤ n
    by true = omega arith
    by false = omega arith

from-append : (more : ℕ) (x : List ℕ) (b : ℕ) (y : List ℕ) → b < 128 → more ≤ length x
    → cells_from (λ o. o) 0 more (x ++ (b ∷ y)) ≡ cells_from (λ o. o) 0 more x ++ cells_from (λ o. o) 0 0 (b ∷ y)
unfolding cells_from
from-append more [] b y h le = let z : more ≡ 0 = omega arith in ap (λ (m : ℕ). cells_from (λ o. o) 0 m (b ∷ y)) z
from-append more (a ∷ x) b y h le =
    let e = size_same a x b y h in
    let t : blank_at more (a ∷ (x ++ (b ∷ y))) ≡ blank_at more (a ∷ x) = blank-by e in
    let m : more_after more (a ∷ (x ++ (b ∷ y))) ≡ more_after more (a ∷ x) = more_by e in
    rw (t, m) (ap (λ (l : List Cell). record { byte = a; origin = 0; blank = blank_at more (a ∷ x) } ∷ l) (from-append (more_after more (a ∷ x)) x b y h (more_within (size-within a x))))
  where
    blank-by : blank_size (a ∷ (x ++ (b ∷ y))) ≡ blank_size (a ∷ x) → blank_at more (a ∷ (x ++ (b ∷ y))) ≡ blank_at more (a ∷ x)
    blank-by e = blank_of more (a ∷ (x ++ (b ∷ y))) (a ∷ x) e

    more_by : blank_size (a ∷ (x ++ (b ∷ y))) ≡ blank_size (a ∷ x) → more_after more (a ∷ (x ++ (b ∷ y))) ≡ more_after more (a ∷ x)
    more_by e = more_of more (a ∷ (x ++ (b ∷ y))) (a ∷ x) e

    more_within : blank_size (a ∷ x) ≤ suc (length x) → more_after more (a ∷ x) ≤ length x
    more_within w = after-within more (a ∷ x) (length x) le w

pub written-append : (x : List ℕ) (b : ℕ) (y : List ℕ) → b < 128 → written (x ++ (b ∷ y)) ≡ written x ++ written (b ∷ y)
unfolding written
written-append x b y h = from-append 0 x b y h (omega arith)

-- ---- an ASCII byte and what follows it

ascii-size : (b : ℕ) (y : List ℕ) → b < 128 → blank_size (b ∷ y) ≡ cond (blank1 b) 1 0
unfolding blank_size blank_width blank2 blank3
ascii-size b y h = rw (other b 0xC2 h (omega arith), other b 0xE1 h (omega arith), other b 0xE2 h (omega arith), other b 0xE3 h (omega arith))

ascii-after : (b : ℕ) (y : List ℕ) → b < 128 → more_after 0 (b ∷ y) ≡ 0
unfolding more_after
ascii-after b y h = rw (ascii-size b y h) (by (blank1 b))
  where
    by : (t : Bool) → cond t 1 0 - 1 ≡ 0
    by true = refl
    by false = refl

ascii-blank : (b : ℕ) (y : List ℕ) → b < 128 → blank_at 0 (b ∷ y) ≡ blank1 b
unfolding blank_at
ascii-blank b y h = rw (ascii-size b y h) (by (blank1 b))
  where
    by : (t : Bool) → (false || ltb 0 (cond t 1 0)) ≡ t
    by true = refl
    by false = refl

pub written-first : (b : ℕ) (y : List ℕ) → b < 128 → written (b ∷ y) ≡ record { byte = b; origin = 0; blank = blank1 b } ∷ written y
unfolding written cells_from
written-first b y h = rw (ascii-after b y h, ascii-blank b y h)

-- ---- a written text's bytes

bytes-from : (more : ℕ) (x : List ℕ) → bytes (cells_from (λ o. o) 0 more x) ≡ x
unfolding cells_from
bytes-from more [] = refl
bytes-from more (b ∷ x) = ap (λ (l : List ℕ). b ∷ l) (bytes-from (more_after more (b ∷ x)) x)

pub written-bytes : (x : List ℕ) → bytes (written x) ≡ x
unfolding written
written-bytes x = bytes-from 0 x
