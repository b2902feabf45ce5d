-- Laws of the refusals 3 and 4. Assumes nothing.
use mathlib.Core.Path.{◌≡◌, refl, sym, ap, ◌∙◌}
use mathlib.Core.Bool.{Bool, true, false, not, ◌&&◌, ◌||◌}
use Prim.Native.Nat.{ℕ, zero, suc, ◌+◌, ◌-◌, ◌≤◌, ◌<◌}
use native.Mathlib.Nat.{add-zero}
use native.Mathlib.Numerals.{add-one}
use native.Mathlib.Omega.{arith}
use mathlib.Core.List.{List}
use lib.ListN.{length, drop, get_or, drop_of_length-le, get_or-eq_default}
use lib.Seq.{drop-cons}
use lib.Dec.{leb, ltb}
use borrow.Author.Tests.{ne_eqb, leb-false, ltb-true, ltb-false}
use Rattle.text.specs.Ascii.{to_first}
use Rattle.text.proofs.Bytes.{first-plain-at}
use Rattle.lending.specs.Utf8.{char_size, utf8}
use Rattle.lending.specs.Lent.{zero_or_return, any_zero_or_return}
use Rattle.lending.proofs.Characters.{utf8-end, utf8-bad, utf8-turn, ascii-char, char-wide}

-- neither refusal applies
abbrev pub clean : List ℕ → Bool
clean s = utf8 s && not (any_zero_or_return s)

pub clean-yes : (s : List ℕ) → clean s ≡ true → (utf8 s ≡ true) × (any_zero_or_return s ≡ false)
clean-yes s = by (utf8 s) (any_zero_or_return s)
  where
    by : (u z : Bool) → (u && not z) ≡ true → (u ≡ true) × (z ≡ false)
    by true false h = (refl, refl)
    by true true h = (refl, sym h)
    by false z h = let e : true ≡ false = sym h in (h, cc)

pub clean-no : (s : List ℕ) → clean s ≡ false → utf8 s ≡ true → any_zero_or_return s ≡ true
clean-no s = by (utf8 s) (any_zero_or_return s)
  where
    by : (u z : Bool) → (u && not z) ≡ false → u ≡ true → z ≡ true
    by true true h e = refl
    by true false h e = sym h
    by false z h e = cc

pub clean_end : (s : List ℕ) (i : ℕ) → length s ≤ i → clean (drop i s) ≡ true
unfolding any_zero_or_return
clean_end s i h = rw (utf8-end s i h, drop_of_length-le s {i = i} h)

-- ---- a byte 0 or 13

any-cons : (s : List ℕ) (i : ℕ) → i < length s → any_zero_or_return (drop i s) ≡ (zero_or_return (get_or s i 0) || any_zero_or_return (drop (i + 1) s))
unfolding any_zero_or_return
any-cons s i h = rw (add-one, drop-cons s i 0 h)

and-false : (u : Bool) → (u && false) ≡ false
and-false true = refl
and-false false = refl

pub clean-odd : (s : List ℕ) (i : ℕ) → i < length s → zero_or_return (get_or s i 0) ≡ true → clean (drop i s) ≡ false
clean-odd s i h z = rw (any-cons s i h, z) (and-false (utf8 (drop i s)))

-- ---- one ASCII byte, and a run of them

-- what stops a run
abbrev pub odd : ℕ → Bool
odd x = leb 128 x || zero_or_return x

pub clean-one : (s : List ℕ) (i : ℕ) → i < length s → get_or s i 0 < 128 → zero_or_return (get_or s i 0) ≡ false → clean (drop i s) ≡ clean (drop (i + 1) s)
clean-one s i h a z =
    let y : any_zero_or_return (drop i s) ≡ any_zero_or_return (drop (i + 1) s) = any-cons s i h ∙ rw z in
    rw (utf8-turn s i 1 h (ascii-char s i a) (λ e. omega (arith, e)), y)

neither : (x y : Bool) → (x || y) ≡ false → (x ≡ false) × (y ≡ false)
neither true y h = let e : true ≡ false = h in (h, cc)
neither false y h = (refl, h)

clean_run : (s : List ℕ) (n i : ℕ) → i + n ≤ length s → ((j : ℕ) → i ≤ j → j < i + n → odd (get_or s j 0) ≡ false) → clean (drop i s) ≡ clean (drop (i + n) s)
clean_run s zero i le h = rw (add-zero i)
clean_run s (suc n) i le h =
    let p = neither (leb 128 (get_or s i 0)) (zero_or_return (get_or s i 0)) (h i (omega arith) (omega arith)) in
    let e : i + 1 + n ≡ i + suc n = omega arith in
    clean-one s i (omega arith) (leb-false 128 (get_or s i 0) p.0) p.1
    ∙ clean_run s n (i + 1) (omega arith) (λ j l m. h j (omega arith) (omega arith))
    ∙ ap (λ (k : ℕ). clean (drop k s)) e

pub clean-past : (s : List ℕ) (n i : ℕ) → i + n ≤ length s → n ≤ to_first odd (drop i s) → clean (drop i s) ≡ clean (drop (i + n) s)
clean-past s n i le h = clean_run s n i le (λ j l m. first-plain-at odd s i j l (omega arith) (omega arith))

-- ---- one character that is not ASCII

wide-plain : (b : ℕ) → 128 ≤ b → zero_or_return b ≡ false
unfolding zero_or_return
wide-plain b h = rw (ne_eqb b 0 (λ (p : b ≡ 0). omega arith), ne_eqb b 13 (λ (p : b ≡ 13). omega arith))

-- past the end stands 0
wide-within : (s : List ℕ) (i : ℕ) → 128 ≤ get_or s i 0 → i < length s
wide-within s i h = by (ltb i (length s)) refl
  where
    by : (t : Bool) → ltb i (length s) ≡ t → i < length s
    by true e = ltb-true i (length s) e
    by false e = let z = get_or-eq_default s 0 (ltb-false i (length s) e) in absurd (omega (arith, z))

any-wide : (s : List ℕ) (n i : ℕ) → ((j : ℕ) → i ≤ j → j < i + n → 128 ≤ get_or s j 0) → any_zero_or_return (drop i s) ≡ any_zero_or_return (drop (i + n) s)
any-wide s zero i h = rw (add-zero i)
any-wide s (suc n) i h =
    let w = h i (omega arith) (omega arith) in
    let e : i + 1 + n ≡ i + suc n = omega arith in
    any-cons s i (wide-within s i w) ∙ rw (wide-plain (get_or s i 0) w) (any-wide s n (i + 1) (λ j l m. h j (omega arith) (omega arith)) ∙ ap (λ (k : ℕ). any_zero_or_return (drop k s)) e)

pub clean-bad : (s : List ℕ) (i n : ℕ) → i < length s → n ≡ char_size (drop i s) → n ≡ 0 → clean (drop i s) ≡ false
clean-bad s i n h e z = rw (utf8-bad s i n h e z)

module _ (s : List ℕ) (i n : ℕ) (w : 128 ≤ get_or s i 0) (e : n ≡ char_size (drop i s)) (z : n ≡ 0 → ⊥) where
  wide : (j : ℕ) → i ≤ j → j < i + n → 128 ≤ get_or s j 0
  wide j l m = let q : i + (j - i) ≡ j = omega arith in rw q at (char-wide s i n e w (j - i) (omega arith))

  pub char-within : i + n ≤ length s
  char-within =
      let p : 0 < n = by n z in
      let l = wide-within s (i + n - 1) (wide (i + n - 1) (omega arith) (omega arith)) in
      omega arith
    where
      by : (n : ℕ) → (n ≡ 0 → ⊥) → 0 < n
      by zero z = absurd (z refl)
      by (suc n) z = omega arith

  pub clean-char : clean (drop i s) ≡ clean (drop (i + n) s)
  clean-char = rw (utf8-turn s i n (wide-within s i w) e z, any-wide s n i wide)

-- a character of any bytes stands within its text
pub char-fits : (s : List ℕ) (i n : ℕ) → i < length s → n ≡ char_size (drop i s) → 0 < n → i + n ≤ length s
char-fits s i n h e z = by (ltb (get_or s i 0) 128) refl
  where
    by : (t : Bool) → ltb (get_or s i 0) 128 ≡ t → i + n ≤ length s
    by true k = let one = ascii-char s i (ltb-true (get_or s i 0) 128 k) in omega (arith, e, one)
    by false k = char-within s i n (ltb-false (get_or s i 0) 128 k) e (λ (o : n ≡ 0). omega (arith, o, z))
