-- Laws of the digits of a text. Assumes nothing.
use mathlib.Core.Path.{◌≡◌, refl, sym, ◌∙◌}
use mathlib.Core.Bool.{Bool, true, false, cond, ◌&&◌}
use mathlib.Core.List.{List, [], ◌∷◌, ◌++◌}
use Prim.Native.Nat.{ℕ, zero, suc, ◌+◌, ◌-◌, ◌*◌, ◌/◌, ◌%◌, ◌≤◌, ◌<◌}
use native.Mathlib.Nat.{sub-zero}
use native.Mathlib.Numerals.{add-one}
use native.Mathlib.Omega.{arith}
use lib.Dec.{leb, ltb}
use lib.ListN.{length, replicate, get_or, drop, drop_of_length-le}
use lib.Seq.{drop-cons}
use borrow.Author.Tests.{leb-true, lt-ltb, le-ltb}
use Rattle.std.specs.List.{list_all}
use Rattle.std.specs.Char.{is_ascii_digit}
use Rattle.std.proofs.lemmas.List.{drop-replicate}
use Rattle.text.specs.Ascii.{inside, is_digit, all_digits}
use Rattle.day.specs.Day.{number_after, number, is_seconds, iso, leap, date_after, day_of, answer, output}
use Rattle.day.specs.MonthStarts.{month_start}
use Rattle.day.specs.declared.Date.{Date}
use Rattle.std.specs.Prelude.{Ok, Err}
use Rattle.lending.specs.declared.lent.Refusal.TheVariants.{SizesWrong, NotSeconds}
use Rattle.text.specs.Writes.{padded}
use Rattle.text.proofs.Bytes.{both, inside-true}
use Rattle.day.proofs.March.{below12, stands, Stands, year_start}

pub digits_all : (s : List ℕ) → list_all is_ascii_digit s ≡ all_digits s
unfolding all_digits inside
digits_all [] = refl
digits_all (b ∷ s) = rw (digits_all s)

pub seconds-are : (s : List ℕ) → is_seconds s ≡ true → (length s ≤ 11) × (all_digits s ≡ true)
unfolding is_seconds
seconds-are s p =
    let q = both (leb (length s) 11) (all_digits s) (both (leb 9 (length s)) (leb (length s) 11 && all_digits s) p).1 in
    (leb-true (length s) 11 q.0, q.1)

-- ---- the number that digits spell

-- 10 to the power i
abbrev pub tens : ℕ → ℕ
tens zero = 1
tens (suc i) = 10 * tens i

pub tens-top : (i : ℕ) → i < 12 → tens i ≤ 100000000000
tens-top = below12 (λ (i : ℕ). tens i ≤ 100000000000) (omega arith) (omega arith) (omega arith) (omega arith) (omega arith) (omega arith) (omega arith) (omega arith) (omega arith) (omega arith) (omega arith) (omega arith)

pub tens-more : (i : ℕ) → tens (i + 1) ≡ 10 * tens i
tens-more i = rw add-one

digits-cons : (s : List ℕ) (i : ℕ) → i < length s → all_digits (drop i s) ≡ (is_digit (get_or s i 0) && all_digits (drop (i + 1) s))
unfolding all_digits
digits-cons s i lt = rw (add-one, drop-cons s i 0)

pub digit_at : (s : List ℕ) (i : ℕ) → i < length s → all_digits (drop i s) ≡ true → (48 ≤ get_or s i 0) × (get_or s i 0 ≤ 57) × (all_digits (drop (i + 1) s) ≡ true)
unfolding inside
digit_at s i lt p =
    let b = get_or s i 0 in
    let q : (is_digit b && all_digits (drop (i + 1) s)) ≡ true = sym (digits-cons s i lt) ∙ p in
    let d = both (is_digit b) (all_digits (drop (i + 1) s)) q in
    let r = inside-true 48 57 b d.0 in
    (r.0, r.1, d.1)

pub number-turn : (s : List ℕ) (i n : ℕ) → i < length s → number_after n (drop i s) ≡ number_after (10 * n + (get_or s i 0 - 48)) (drop (i + 1) s)
unfolding number_after
number-turn s i n lt = rw (add-one, drop-cons s i 0)

pub number-end : (s : List ℕ) (i n : ℕ) → length s ≤ i → number_after n (drop i s) ≡ n
unfolding number_after
number-end s i n le = rw (drop_of_length-le s {i = i} le)

-- ---- writing a date

pub iso-digits : (t : Date) {a b c e f g i j : ℕ}
    → a ≡ 48 + t.year / 1000 → b ≡ 48 + t.year / 100 % 10 → c ≡ 48 + t.year / 10 % 10 → e ≡ 48 + t.year % 10
    → f ≡ 48 + t.month / 10 → g ≡ 48 + t.month % 10 → i ≡ 48 + t.day / 10 → j ≡ 48 + t.day % 10
    → a ∷ b ∷ c ∷ e ∷ 45 ∷ f ∷ g ∷ 45 ∷ i ∷ j ∷ [] ≡ iso t
unfolding iso
iso-digits t p q r s u v w x =
    let h : t.year / 1000 ≡ t.year / 100 / 10 = omega arith in
    let d : t.year / 10 % 10 ≡ t.year % 100 / 10 = omega arith in
    let k : t.year % 10 ≡ t.year % 100 % 10 = omega arith in
    rw (p, q, r, s, u, v, w, x, h, d, k)

-- ---- a whole call

-- the parts of a date of this calendar's first 3,168 years are short enough to be written
pub record Small (t : Date) : Type 0 where
  pub year : t.year < 10000
  pub month : t.month < 100
  pub day : t.day < 100

year-low : (y : ℕ) → 365 * y ≤ year_start y
year-low y = let h : y / 100 ≤ y / 4 = omega arith in omega arith

length-small : (y k : ℕ) (b t : Bool) → cond b (month_start (k + 1) - month_start k) (28 + cond t 1 0) < 32
length-small y k true t = omega arith
length-small y k false true = omega arith
length-small y k false false = omega arith

pub date-small : (n : ℕ) → n < 1157408 → Small (date_after n)
date-small n lt = found (stands n)
  where
    found : Stands n (date_after n) → Small (date_after n)
    found s = rw s.is (record {
      year = year-of (ltb s.k 10) (let h = year-low s.y in omega arith);
      month = month-of (ltb s.k 10) s.k s.month;
      day = let h = length-small s.y s.k (ltb s.k 11) (leap (s.y + 1)) in omega (arith, s.day, h);
    })
      where
        year-of : (b : Bool) → s.y < 9999 → cond b s.y (s.y + 1) < 10000
        year-of true h = omega arith
        year-of false h = omega arith

        month-of : (b : Bool) (k : ℕ) → k < 12 → cond b (k + 3) (k - 9) < 100
        month-of true k h = omega arith
        month-of false k h = omega arith

module _ (s out : List ℕ) (m : ℕ) where
  pub dated-short : m < 10 → out ≡ replicate m 0 → (Err SizesWrong ≡ answer s m) × (out ≡ output s m)
  unfolding answer output padded
  dated-short h p = let a : answer s m ≡ Err SizesWrong = rw (lt-ltb m 10 h) in (sym a, p ∙ rw (a, sub-zero))

  pub dated-no : 10 ≤ m → is_seconds s ≡ false → out ≡ replicate m 0 → (Err NotSeconds ≡ answer s m) × (out ≡ output s m)
  unfolding answer output padded
  dated-no h q p = let a : answer s m ≡ Err NotSeconds = rw (le-ltb m 10 h, q) in (sym a, p ∙ rw (a, sub-zero))

  size : (d : Date) → length (iso d) ≡ 10
  unfolding iso
  size d = refl

  pub dated-yes : (l : List ℕ) → 10 ≤ m → is_seconds s ≡ true → l ≡ replicate m 0 → out ≡ day_of s ++ drop 10 l → (Ok tt ≡ answer s m) × (out ≡ output s m)
  unfolding answer output padded day_of
  dated-yes l h q z w =
      let a : answer s m ≡ Ok tt = rw (le-ltb m 10 h, q) in
      (sym a, w ∙ rw (z, a, drop-replicate {X = ℕ} 10 m 0, size (date_after (number s / 86400))))
