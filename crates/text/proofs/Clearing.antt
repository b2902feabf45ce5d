-- Laws of clearing and of laying out a text. Assumes nothing.
use mathlib.Core.Path.{◌≡◌, refl, ap, ◌∙◌}
use Prim.Native.Nat.{ℕ, zero, suc, ◌/◌, ◌≤◌}
use native.Mathlib.Nat.{sub-zero, le_of_suc-le-suc, not-suc-le-zero}
use Rattle.text.specs.Cells.{cells, bytes, origins}
use mathlib.Core.List.{List, [], ◌∷◌, map}
use lib.ListN.{length, take, drop, replicate, length-map}
use lib.Seq.{length-take-le}
use borrow.Rule.Slice.PartMut.{put_mid}
use Rattle.std.proofs.Common.{◌-◌, arith, append-nil}
use Rattle.std.proofs.lemmas.List.{length-drop, length-take, drop_all}
use Rattle.text.specs.Writes.{cleared, padded}

-- what `xs[a..].fill(0)` leaves, and what `xs.fill(0)` leaves: the last argument is the call's `ensures.after`, and `search (rules, fill_cleared)` finds it

length-rest : (a : ℕ) (xs : List ℕ) → length (take (length xs - a) (drop a xs)) ≡ length xs - a
length-rest a xs = simp (length-take, length-drop) (omega arith)

pub fill_cleared : (a : ℕ) (xs ys : List ℕ) → a ≤ length xs
    → (((y : ℕ) → y ≡ 0 → y ≡ 0) → ys ≡ replicate (length (take (length xs - a) (drop a xs))) 0) → put_mid a (length xs - a) xs ys ≡ cleared a xs
unfolding cleared
fill_cleared a xs ys h filled =
    let e = filled (λ y (k : y ≡ 0). k) in
    let none : drop (length xs - a) (drop a xs) ≡ [] = drop_all (length xs - a) (drop a xs) (simp length-drop (omega arith)) in
    rw (e, length-rest, none, append-nil)

pub fill_cleared_all : (xs ys : List ℕ) → (((y : ℕ) → y ≡ 0 → y ≡ 0) → ys ≡ replicate (length xs) 0) → ys ≡ cleared 0 xs
unfolding cleared
fill_cleared_all xs ys filled = rw sub-zero (filled (λ y (k : y ≡ 0). k))

-- ---- laying out

pub map_same : (xs : List ℕ) → map (λ x. x) xs ≡ xs
map_same [] = refl
map_same (x ∷ xs) = ap (λ (l : List ℕ). x ∷ l) (map_same xs)

pub laid-cleared : (xs out : List ℕ) (n m : ℕ) → length out ≡ m → length xs ≡ n → take n out ≡ xs → cleared n out ≡ padded m xs
unfolding cleared padded
laid-cleared xs out n m h k e = rw (h, k, e)

-- a text that has been laid out, once the rest is filled with zeros
pub laid-filled : (xs out ys : List ℕ) (n m : ℕ) → length out ≡ m → length xs ≡ n → n ≤ m → take n out ≡ xs
    → (((y : ℕ) → y ≡ 0 → y ≡ 0) → ys ≡ replicate (length (take (length out - n) (drop n out))) 0) → put_mid n (length out - n) out ys ≡ padded m xs
laid-filled xs out ys n m h k le e filled = fill_cleared n out ys (omega arith) filled ∙ laid-cleared xs out n m h k e

pub length-mapped : (f : ℕ → ℕ) (xs : List ℕ) (n : ℕ) → n ≤ length xs → length (map f (take n xs)) ≡ n
length-mapped f xs n h = length-map (take n xs) f ∙ length-take-le n xs h

pub cleared-all : (xs : List ℕ) → cleared 0 xs ≡ padded (length xs) []
unfolding cleared padded
cleared-all xs = refl

-- the bytes and the origins of a pair of slices
pub cells-bytes : (n : ℕ) (bs ns : List ℕ) → n ≤ length bs → n ≤ length ns → bytes (take n (cells bs ns)) ≡ take n bs
unfolding cells
cells-bytes zero bs ns h k = refl
cells-bytes (suc n) [] ns h k = absurd (not-suc-le-zero h)
cells-bytes (suc n) (b ∷ bs) [] h k = absurd (not-suc-le-zero k)
cells-bytes (suc n) (b ∷ bs) (x ∷ ns) h k = ap (λ (l : List ℕ). b ∷ l) (cells-bytes n bs ns (le_of_suc-le-suc h) (le_of_suc-le-suc k))

pub cells-origins : (n : ℕ) (bs ns : List ℕ) → n ≤ length bs → n ≤ length ns → origins (take n (cells bs ns)) ≡ map (λ x. x / 2) (take n ns)
unfolding cells
cells-origins zero bs ns h k = refl
cells-origins (suc n) [] ns h k = absurd (not-suc-le-zero h)
cells-origins (suc n) (b ∷ bs) [] h k = absurd (not-suc-le-zero k)
cells-origins (suc n) (b ∷ bs) (x ∷ ns) h k = ap (λ (l : List ℕ). x / 2 ∷ l) (cells-origins n bs ns (le_of_suc-le-suc h) (le_of_suc-le-suc k))
