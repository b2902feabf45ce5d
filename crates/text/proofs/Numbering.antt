-- Laws of making cells: of a post, of a text that a rule writes, and of numbers in decimal. Assumes nothing.
use mathlib.Core.Path.{◌≡◌, refl, sym, ap, ◌∙◌}
use mathlib.Core.Bool.{Bool, true, false, cond, ◌||◌}
use Prim.Native.Nat.{ℕ, zero, suc, ◌+◌, ◌-◌, ◌*◌, ◌/◌, ◌%◌, ◌≤◌, ◌<◌}
use lib.Dec.{ltb}
use native.Mathlib.Numerals.{add-one}
use native.Mathlib.Omega.{arith}
use mathlib.Core.List.{List, [], ◌∷◌, ◌++◌, append-nil}
use lib.ListN.{length, take, drop, get_or, set, drop_of_length-le}
use lib.Seq.{drop-cons, take-suc-set, take_all, append_snoc}
use Rattle.text.specs.Blanks.{blank1, blank_size}
use Rattle.text.specs.Cells.{Cell, cell, cells, blank_at, more_after, cells_from, cells_of, written}
use Rattle.text.proofs.Writing.{cells_in, cells-short}
use Rattle.text.proofs.Characters.{lead, plain-blank}

-- the number of a cell stands for it
pub cell-number : (b o f : ℕ) (t : Bool) → f ≡ cond t 1 0 → cell b (2 * o + f) ≡ record { byte = b; origin = o; blank = t }
cell-number b o f true e =
    let d : (2 * o + f) / 2 ≡ o = omega arith in
    let m : (2 * o + f) % 2 ≡ 1 = omega arith in
    rw (d, m)
cell-number b o f false e =
    let d : (2 * o + f) / 2 ≡ o = omega arith in
    let m : (2 * o + f) % 2 ≡ 0 = omega arith in
    rw (d, m)

at_most_one : (f : ℕ) (t : Bool) → f ≡ cond t 1 0 → f ≤ 1
at_most_one f true e = omega arith
at_most_one f false e = omega arith

-- what `place_at` says of the first byte of s: 1 where its character is blank, else 0; and how many bytes are left of a blank one behind it
abbrev pub Placed : (more : ℕ) → List ℕ → (flag more' : ℕ) → Type 0
Placed more s flag more' = (flag ≡ cond (blank_at more s) 1 0) × (more' ≡ more_after more s)

pub placed-small : (more f more' : ℕ) (s : List ℕ) → Placed more s f more' → f ≤ 1
placed-small more f more' s p = at_most_one f (blank_at more s) p.0

from_cons : (next : ℕ → ℕ) (o more b : ℕ) (s : List ℕ)
    → cells_from next o more (b ∷ s) ≡ record { byte = b; origin = o; blank = blank_at more (b ∷ s) } ∷ cells_from next (next o) (more_after more (b ∷ s)) s
unfolding cells_from
from_cons next o more b s = refl

-- a byte of it
pub from-turn : (next : ℕ → ℕ) (o more f more' i : ℕ) (s : List ℕ) → i < length s → Placed more (drop i s) f more'
    → cells_from next o more (drop i s) ≡ cell (get_or s i 0) (2 * o + f) ∷ cells_from next (next o) more' (drop (i + 1) s)
from-turn next o more f more' i s h p =
    let e : cell (get_or s i 0) (2 * o + f) ≡ record { byte = get_or s i 0; origin = o; blank = blank_at more (drop i s) } = cell-number (get_or s i 0) o f (blank_at more (drop i s)) p.0 in
    rw (e, p.1, add-one, drop-cons s i 0 h, from_cons)

pub from_end : (next : ℕ → ℕ) (o more i : ℕ) (s : List ℕ) → length s ≤ i → cells_from next o more (drop i s) ≡ []
unfolding cells_from
from_end next o more i s h = rw (drop_of_length-le s {i = i} h)

-- ---- a post

cells-renumber : (bs ns : List ℕ) (i x : ℕ) → cells bs (set ns i x) ≡ set (cells bs ns) i (cell (get_or bs i 0) x)
unfolding cells
cells-renumber [] ns i x = refl
cells-renumber (b ∷ bs) [] zero x = refl
cells-renumber (b ∷ bs) [] (suc i) x = refl
cells-renumber (b ∷ bs) (n ∷ ns) zero x = refl
cells-renumber (b ∷ bs) (n ∷ ns) (suc i) x = ap (λ (l : List Cell). cell b n ∷ l) (cells-renumber bs ns i x)

-- the cells of a post s: the first i with the numbers ns, the rest still to be numbered, where `more` bytes are left of a blank character
abbrev pub numbered : (s : List ℕ) (i more : ℕ) (ns : List ℕ) → List Cell
numbered s i more ns = take i (cells s ns) ++ cells_from suc (i + 1) more (drop i s)

pub numbered-start : (s ns : List ℕ) → cells_of s ≡ numbered s 0 0 ns
unfolding cells_of
numbered-start s ns = refl

pub numbered-turn : (s ns : List ℕ) (i more f more' : ℕ) → i < length s → i < length ns → Placed more (drop i s) f more'
    → numbered s i more ns ≡ numbered s (i + 1) more' (set ns i (2 * (i + 1) + f))
numbered-turn s ns i more f more' h k p =
    let m : i < length (cells s ns) = cells_in s ns i h k in
    rw (from-turn suc (i + 1) more f more' i s h p, cells-renumber s ns i (2 * (i + 1) + f))
    (simp add-one (rw (take-suc-set (cells s ns) i (cell (get_or s i 0) (2 * suc i + f)) m, append_snoc (take i (cells s ns)))))

-- a byte that can't begin a blank character of more than one byte
pub plain_turn : (s ns : List ℕ) (i x f : ℕ) → i < length s → i < length ns → lead (get_or s i 0) ≡ false → x ≡ 2 * (i + 1) → f ≡ cond (blank1 (get_or s i 0)) 1 0
    → numbered s i 0 ns ≡ numbered s (i + 1) 0 (set ns i (x + f))
unfolding blank_at more_after
plain_turn s ns i x f h k a q e =
    let z : blank_size (drop i s) ≡ cond (blank1 (get_or s i 0)) 1 0 = plain-blank s i a in
    rw q (numbered-turn s ns i 0 f 0 h k (rw z (by (blank1 (get_or s i 0)) e)))
  where
    by : (t : Bool) → f ≡ cond t 1 0 → (f ≡ cond (ltb 0 0 || ltb 0 (cond t 1 0)) 1 0) × (0 ≡ cond (ltb 0 0) (0 - 1) (cond t 1 0 - 1))
    by true e = (e, refl)
    by false e = (e, refl)

pub plain-small : (b f : ℕ) → f ≡ cond (blank1 b) 1 0 → f ≤ 1
plain-small b f e = at_most_one f (blank1 b) e

pub numbered-end : (s ns : List ℕ) (i more : ℕ) → length s ≤ i → cells s ns ≡ numbered s i more ns
numbered-end s ns i more h = rw (from_end suc (i + 1) more i s h, append-nil, take_all i (cells s ns) (let k = cells-short s ns in omega arith))

-- at the end nothing is left of a blank character
pub numbered-cut : (s ns : List ℕ) (i more : ℕ) → length s ≤ i → numbered s i more ns ≡ numbered s i 0 ns
numbered-cut s ns i more h = sym (numbered-end s ns i more h) ∙ numbered-end s ns i 0 h

-- ---- a text that a rule writes

abbrev pub rest : ℕ → List ℕ → List Cell
rest more s = cells_from (λ o. o) 0 more s

pub written_start : (s : List ℕ) → written s ≡ rest 0 s
unfolding written
written_start s = refl

pub written-turn : (more f more' i : ℕ) (s : List ℕ) → i < length s → Placed more (drop i s) f more'
    → rest more (drop i s) ≡ (cell (get_or s i 0) f ∷ []) ++ rest more' (drop (i + 1) s)
written-turn more f more' i s h p = from-turn (λ o. o) 0 more f more' i s h p ∙ (let e : 2 * 0 + f ≡ f = omega arith in rw e)
