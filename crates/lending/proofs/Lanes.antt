-- Odd bytes among 16 at once. Assumes nothing.
use Rattle.std.proofs.Common.{◌≡◌, ℕ, zero, suc, ◌+◌, ◌%◌, ◌^◌, ◌≤◌, min, Bool, true, false, not, cond, ◌||◌, eqb, leb, List, [], ◌∷◌, map, length, take, drop, replicate, refl, sym, ap, ap₂, ◌∙◌, arith}
use Rattle.std.proofs.lemmas.Simd.{zip2_splat, zip2_splat_left, zip2_of_maps, map-map, mask_l-mod, length-chunk, leading_from_mask_l, trailing_mask_l}
use Rattle.std.proofs.lemmas.List.{length-map}
use Rattle.std.specs.List.{prefix_len}
use lib.Bits.{bit_or}
use lib.Count.{count_trailing_zeros}
use lib.Lanes.{zip2, mask_l, top}
use Rattle.text.specs.Ascii.{to_first}
use Rattle.lending.specs.Lent.{zero_or_return}
use Rattle.lending.proofs.Lending.{odd}

abbrev hit : ℕ → ℕ → ℕ
hit a b = cond (eqb a b) 255 0

abbrev at_most : ℕ → ℕ → ℕ
at_most a b = cond (leb a b) 255 0

flag : (r s t : Bool) → top 7 (bit_or (bit_or (cond r 255 0) (cond s 255 0)) (cond t 255 0)) ≡ (r || (s || t))
flag true true true = refl
flag true true false = refl
flag true false true = refl
flag true false false = refl
flag false true true = refl
flag false true false = refl
flag false false true = refl
flag false false false = refl

flags : (v : List ℕ) → map (λ x. top 7 (bit_or (bit_or (at_most 128 x) (hit x 0)) (hit x 13))) v ≡ map odd v
unfolding zero_or_return
flags [] = refl
flags (x ∷ v) = ap₂ (λ a b. a ∷ b) (flag (leb 128 x) (eqb x 0) (eqb x 13)) (flags v)

pub odd-lanes : (v : List ℕ) → length v ≡ 16
    → mask_l (map (top 7) (zip2 bit_or (zip2 bit_or (zip2 at_most (replicate 16 128) v) (zip2 hit v (replicate 16 0))) (zip2 hit v (replicate 16 13)))) % 2 ^ 64 ≡ mask_l (map odd v)
odd-lanes v long =
    let e = zip2_of_maps bit_or _ _ v (zip2_of_maps bit_or _ _ v (zip2_splat_left at_most 128 16 v long) (zip2_splat hit v 16 0 long)) (zip2_splat hit v 16 13 long) in
    ap (λ l. mask_l l % 2 ^ 64) (ap (map (top 7)) e ∙ map-map (top 7) _ v ∙ flags v) ∙ mask_l-mod (map odd v) 64 (omega (arith, length-map v odd))

-- bytes that are not odd stand before the first odd one
run-first : (n : ℕ) (s : List ℕ) → prefix_len (λ x. not (odd x)) (take n s) ≤ to_first odd s
unfolding to_first
run-first zero s = omega arith
run-first (suc n) [] = omega arith
run-first (suc n) (x ∷ s) = by (odd x) (run-first n s)
  where
    by : (t : Bool) → prefix_len (λ y. not (odd y)) (take n s) ≤ to_first odd s → cond (not t) (1 + prefix_len (λ y. not (odd y)) (take n s)) 0 ≤ cond t 0 (suc (to_first odd s))
    by true h = omega arith
    by false h = omega (arith, h)

pub first-odd : (s : List ℕ) (i m : ℕ) → i + 16 ≤ length s → m ≡ mask_l (map odd (take 16 (drop i s))) → min (count_trailing_zeros 64 m) 16 ≤ to_first odd (drop i s)
first-odd s i zero h e =
    let none = leading_from_mask_l odd (take 16 (drop i s)) (sym e) in
    let long = length-chunk i 16 s h in
    let run = run-first 16 (drop i s) in
    omega (arith, none, long, run)
first-odd s i (suc m) h e =
    let long = length-chunk i 16 s h in
    let some = trailing_mask_l odd 64 (take 16 (drop i s)) (omega (arith, long)) (omega (arith, e)) in
    let first = ap (count_trailing_zeros 64) e ∙ some in
    let run = run-first 16 (drop i s) in
    omega (arith, first, run)
