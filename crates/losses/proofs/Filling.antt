-- Records from numbers, five at a time. Assumes nothing.
use mathlib.Core.Path.{◌≡◌, refl, sym, ◌∙◌, ap}
use Prim.Native.Nat.{ℕ, zero, suc, ◌+◌, ◌-◌, ◌*◌, ◌≤◌, ◌<◌}
use native.Mathlib.Nat.{add-zero}
use native.Mathlib.Numerals.{add-one}
use native.Mathlib.Omega.{arith}
use mathlib.Core.List.{List, [], ◌∷◌, ◌++◌, append_assoc, append-nil}
use lib.ListN.{length, take, drop, get_or, set, replicate}
use lib.Seq.{drop-cons, drop-drop, set_at, take-append_seam}
use borrow.Rule.Slice.PartMut.{put_mid}
use Rattle.std.specs.Simd.{first_chunks}
use Rattle.std.proofs.lemmas.List.{get_or-take, get_or-drop, length-drop, length-take, drop_all}
use Rattle.losses.specs.declared.Loss.{Loss}
use Rattle.losses.specs.Records.{no_loss, records_of, record_at, records_lent}

-- five more than a number
abbrev five : ℕ → ℕ
five k = suc (suc (suc (suc (suc k))))

records-on : (ns : List ℕ) (p k : ℕ) → five p + k ≤ length ns → records_of (take (five k) (drop p ns)) ≡ record_at ns p ∷ records_of (take k (drop (five p) ns))
unfolding records_of
records-on ns p k h =
    ap (λ (l : List ℕ). records_of (take (five k) l)) (drop-cons ns p 0 (omega arith)
    ∙ ap (λ (l : List ℕ). get_or ns p 0 ∷ l) (drop-cons ns (suc p) 0 (omega arith)
    ∙ ap (λ (l : List ℕ). get_or ns (suc p) 0 ∷ l) (drop-cons ns (suc (suc p)) 0 (omega arith)
    ∙ ap (λ (l : List ℕ). get_or ns (suc (suc p)) 0 ∷ l) (drop-cons ns (suc (suc (suc p))) 0 (omega arith)
    ∙ ap (λ (l : List ℕ). get_or ns (suc (suc (suc p))) 0 ∷ l) (drop-cons ns (suc (suc (suc (suc p)))) 0 (omega arith))))))
    ∙ rw (add-one, add-two, add-three, add-four)
  where
    add-two : (n : ℕ) → n + 2 ≡ suc (suc n)
    add-two n = omega arith

    add-three : (n : ℕ) → n + 3 ≡ suc (suc (suc n))
    add-three n = omega arith

    add-four : (n : ℕ) → n + 4 ≡ suc (suc (suc (suc n)))
    add-four n = omega arith

times-five : (i : ℕ) → 5 * suc i ≡ five (5 * i)
times-five i = omega arith

-- one record more
records-snoc : (ns : List ℕ) (p i q : ℕ) → q ≡ p + 5 * i → p + 5 * suc i ≤ length ns
    → records_of (take (5 * suc i) (drop p ns)) ≡ records_of (take (5 * i) (drop p ns)) ++ (record_at ns q ∷ [])
unfolding records_of
records-snoc ns p zero q e h = let z : q ≡ p = omega (arith, e) in rw z (records-on ns p 0 (omega arith))
records-snoc ns p (suc i) q e h =
    rw (times-five (suc i), records-on ns p (5 * suc i) (omega arith), records-snoc ns (five p) i q (omega (arith, e)) (omega arith), times-five i, records-on ns p (5 * i) (omega arith))

records-long : (ns : List ℕ) (p i : ℕ) → p + 5 * i ≤ length ns → length (records_of (take (5 * i) (drop p ns))) ≡ i
unfolding records_of
records-long ns p zero h = refl
records-long ns p (suc i) h = rw (times-five i, records-on ns p (5 * i) (omega arith), records-long ns (five p) i (omega arith))

-- as many records as numbers are given for
pub length-records : (ns : List ℕ) (count : ℕ) → 5 * count ≤ length ns → length (records_of (take (5 * count) ns)) ≡ count
length-records ns count h = records-long ns 0 count (omega arith)

fifth : (ns : List ℕ) (k i : ℕ) (d : List ℕ) → i < k → get_or (first_chunks 5 k ns) i d ≡ take 5 (drop (5 * i) ns)
fifth ns zero i d h = absurd (omega arith)
fifth ns (suc k) zero d h = refl
fifth ns (suc k) (suc i) d h =
    let q : 5 * suc i ≡ 5 + 5 * i = omega arith in
    fifth (drop 5 ns) k i d (omega arith) ∙ ap (take 5) (drop-drop (5 * i) 5 ns ∙ ap (λ (n : ℕ). drop n ns) (sym q))

record-here : (ns : List ℕ) (p : ℕ) → record_at (take 5 (drop p ns)) 0 ≡ record_at ns p
record-here ns p = rw (at 0 (omega arith), at 1 (omega arith), at 2 (omega arith), at 3 (omega arith), at 4 (omega arith), add-zero)
  where
    at : (j : ℕ) → j < 5 → get_or (take 5 (drop p ns)) j 0 ≡ get_or ns (p + j) 0
    at j h = get_or-take 5 (drop p ns) j 0 h ∙ get_or-drop p ns j 0

pub chunk-record : (ns : List ℕ) (k i : ℕ) → i < k → record_at (get_or (first_chunks 5 k ns) i []) 0 ≡ record_at ns (5 * i)
chunk-record ns k i h = ap (λ (l : List ℕ). record_at l 0) (fifth ns k i [] h) ∙ record-here ns (5 * i)

-- a turn: one record more stands in front
pub filled-turn : (ns : List ℕ) (ys : List Loss) (i : ℕ) (r : Loss) → 5 * (i + 1) ≤ length ns → i < length ys → r ≡ record_at ns (5 * i)
    → set (records_of (take (5 * i) ns) ++ drop i ys) i r ≡ records_of (take (5 * (i + 1)) ns) ++ drop (i + 1) ys
filled-turn ns ys i r h k e =
    let rs = records_of (take (5 * i) ns) in
    let more : records_of (take (5 * (i + 1)) ns) ≡ rs ++ (r ∷ []) = rw (add-one, e) (records-snoc ns 0 i (5 * i) (omega arith) (omega arith)) in
    ap (λ (l : List Loss). set (rs ++ l) i r) (drop-cons ys i no_loss k)
    ∙ set_at rs (get_or ys i no_loss) (drop (suc i) ys) r i (length-records ns i (omega arith))
    ∙ sym (append_assoc rs (r ∷ []) (drop (suc i) ys))
    ∙ rw (more, add-one)

-- the rest is cleared: the last argument is the call's `ensures.after`
pub filled-end : (ns : List ℕ) (ys xs rest : List Loss) (count n : ℕ) (none : Loss) → 5 * count ≤ length ns → count ≤ n → length xs ≡ n
    → xs ≡ records_of (take (5 * count) ns) ++ drop count ys → none ≡ no_loss
    → (((y : Loss) → y ≡ none → y ≡ none) → rest ≡ replicate (length (take (length xs - count) (drop count xs))) none)
    → put_mid count (length xs - count) xs rest ≡ records_lent n (take (5 * count) ns)
unfolding records_lent
filled-end ns ys xs rest count n none h few e f z filled =
    let rs = records_of (take (5 * count) ns) in
    let long : length rs ≡ count = length-records ns count h in
    let seam = rw long at (take-append_seam rs (drop count ys)) in
    let front : take count xs ≡ rs = ap (take count) f ∙ seam in
    let over : drop (length xs - count) (drop count xs) ≡ [] = drop_all (length xs - count) (drop count xs) (simp length-drop (omega arith)) in
    let left : length (take (length xs - count) (drop count xs)) ≡ n - count = simp (length-take, length-drop) (omega arith) in
    rw (over, front, filled (λ y (k : y ≡ none). k), left, append-nil, long, z)
