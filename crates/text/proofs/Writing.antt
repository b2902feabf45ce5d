-- The laws of cells and of appending, which the proofs of every function over a pair of slices cite. Assumes nothing.
use mathlib.Core.Path.{◌≡◌, refl, sym, ap, ◌∙◌}
use Prim.Native.Nat.{ℕ, zero, suc, ◌+◌, ◌≤◌, ◌<◌}
use native.Mathlib.Nat.{le_of_suc-le-suc, not-suc-le-zero, le_trans, le_refl}
use native.Mathlib.Numerals.{add-one}
use native.Mathlib.Omega.{arith}
use native.Mathlib.Decide.{dec_le}
use mathlib.Core.List.{List, [], ◌∷◌, ◌++◌, append-nil, append_assoc}
use lib.ListN.{length, take, get_or, set, length-set, length-append, length-take, drop_of_length-le}
use lib.Seq.{take-append-le, take-suc-set, take-take, take-set-le, take-suc, drop-append-le, length-take-le, slice-cons, slice_empty}
use Rattle.text.specs.Cells.{Cell, cell, cells, part}
use Rattle.text.specs.Writes.{Holds, Appends}

-- ---- a pair of slices as cells

pub cells-set : (bs ns : List ℕ) (i b n : ℕ) → cells (set bs i b) (set ns i n) ≡ set (cells bs ns) i (cell b n)
unfolding cells
cells-set [] ns i b n = refl
cells-set (x ∷ bs) [] zero b n = refl
cells-set (x ∷ bs) [] (suc i) b n = refl
cells-set (x ∷ bs) (y ∷ ns) zero b n = refl
cells-set (x ∷ bs) (y ∷ ns) (suc i) b n = ap (λ (l : List Cell). cell x y ∷ l) (cells-set bs ns i b n)

pub cells_in : (bs ns : List ℕ) (i : ℕ) → i < length bs → i < length ns → i < length (cells bs ns)
unfolding cells
cells_in [] ns i h k = absurd (not-suc-le-zero h)
cells_in (x ∷ bs) [] i h k = absurd (not-suc-le-zero k)
cells_in (x ∷ bs) (y ∷ ns) zero h k = omega arith
cells_in (x ∷ bs) (y ∷ ns) (suc i) h k = let r = cells_in bs ns i (le_of_suc-le-suc h) (le_of_suc-le-suc k) in omega arith

pub cells-le : (bs ns : List ℕ) (i : ℕ) → i ≤ length bs → i ≤ length ns → i ≤ length (cells bs ns)
cells-le bs ns zero h k = omega arith
cells-le bs ns (suc i) h k = cells_in bs ns i h k

pub cells-short : (bs ns : List ℕ) → length (cells bs ns) ≤ length bs
unfolding cells
cells-short [] ns = omega arith
cells-short (x ∷ bs) [] = omega arith
cells-short (x ∷ bs) (y ∷ ns) = let r = cells-short bs ns in omega arith

pub cells-short₂ : (bs ns : List ℕ) → length (cells bs ns) ≤ length ns
unfolding cells
cells-short₂ [] ns = omega arith
cells-short₂ (x ∷ bs) [] = omega arith
cells-short₂ (x ∷ bs) (y ∷ ns) = let r = cells-short₂ bs ns in omega arith

pub cells_at : (bs ns : List ℕ) (i : ℕ) (d : Cell) → i < length bs → i < length ns → get_or (cells bs ns) i d ≡ cell (get_or bs i 0) (get_or ns i 0)
unfolding cells
cells_at [] ns i d h k = absurd (not-suc-le-zero h)
cells_at (x ∷ bs) [] i d h k = absurd (not-suc-le-zero k)
cells_at (x ∷ bs) (y ∷ ns) zero d h k = refl
cells_at (x ∷ bs) (y ∷ ns) (suc i) d h k = cells_at bs ns i d (le_of_suc-le-suc h) (le_of_suc-le-suc k)

-- ---- parts of a pair of slices

nothing : Cell
nothing = cell 0 0

-- nothing between a and a
pub part_none : (a : ℕ) (l : List Cell) → part a a l ≡ []
unfolding part
part_none a l = slice_empty a l

pub part_end : (a e : ℕ) (l : List Cell) → e ≤ a → part a e l ≡ []
unfolding part
part_end a e l h = let m = length-take e l in drop_of_length-le (take e l) {i = a} (omega arith)

-- one cell more at the end
pub part-snoc : (bs ns : List ℕ) (a i : ℕ) → i < length bs → i < length ns → a ≤ i → part a (i + 1) (cells bs ns) ≡ part a i (cells bs ns) ++ (cell (get_or bs i 0) (get_or ns i 0) ∷ [])
unfolding part
part-snoc bs ns a i h k le =
    let m : i < length (cells bs ns) = cells_in bs ns i h k in
    let l : length (take i (cells bs ns)) ≡ i = length-take-le i (cells bs ns) (omega arith) in
    let w : a ≤ length (take i (cells bs ns)) = omega arith in
    rw (add-one, take-suc (cells bs ns) i nothing m, drop-append-le a (take i (cells bs ns)) (get_or (cells bs ns) i nothing ∷ []) w, cells_at bs ns i nothing h k)

-- one cell fewer at the start
pub part-cons : (bs ns : List ℕ) (i e : ℕ) → i < e → e ≤ length bs → e ≤ length ns → part i e (cells bs ns) ≡ cell (get_or bs i 0) (get_or ns i 0) ∷ part (i + 1) e (cells bs ns)
unfolding part
part-cons bs ns i e lt h k =
    let m : e ≤ length (cells bs ns) = cells-le bs ns e h k in
    rw (add-one, slice-cons i e (cells bs ns) nothing lt m, cells_at bs ns i nothing (omega arith) (omega arith))

-- ---- appending

-- what a position within says: the text fits
pub holds_fits : (v : List Cell) (at : ℕ) (s : List Cell) → Holds v at s → at ≤ length v → length s ≤ length v
holds_fits v at s h le = elim (dec_le (length s) (length v)) [ yes p ↦ p | no n ↦ let f = h.full (omega arith) in omega arith ]

pub appends-none : (v : List Cell) (at : ℕ) → Appends v at v at []
appends-none v at = record { step = λ s h. rw append-nil h; keeps = refl; grows = le_refl at }

pub appends-then : {v v₁ v₂ t₁ t₂ : List Cell} {at at₁ at₂ : ℕ} → Appends v at v₁ at₁ t₁ → Appends v₁ at₁ v₂ at₂ t₂ → Appends v at v₂ at₂ (t₁ ++ t₂)
appends-then {v} {v₁} {v₂} {t₁} {t₂} {at} {at₁} {at₂} p q = record {
  step = λ s h. rw (← append_assoc) (q.step (s ++ t₁) (p.step s h));
  keeps = sym (take-take at at₁ v₂ p.grows) ∙ ap (take at) q.keeps ∙ take-take at at₁ v₁ p.grows ∙ p.keeps;
  grows = le_trans p.grows q.grows;
}

-- a cell at a position within
pub appends-set : (v : List Cell) (at : ℕ) (c : Cell) → at < length v → Appends v at (set v at c) (at + 1) (c ∷ [])
appends-set v at c lt = record {
  step = λ s h.
      let e : length (s ++ (c ∷ [])) ≡ length s + 1 = length-append s (c ∷ []) in
      let f : length (set v at c) ≡ length v = length-set v at c in
      let g : length s ≤ length v = holds_fits v at s h (omega arith) in
      let n : at ≡ length s = h.end g in
      record {
        end = λ le. omega arith;
        text = λ le. rw (add-one, take-suc-set v at c lt, h.text g);
        full = λ lt'. omega arith;
      };
  keeps = take-set-le at v at c (le_refl at);
  grows = omega arith;
}

-- a run that stands behind what stood before the place
pub appends-run : {v v' : List Cell} {at : ℕ} (t : List Cell) → length v' ≡ length v → at + length t ≤ length v → take (at + length t) v' ≡ take at v ++ t → Appends v at v' (at + length t) t
appends-run {v} {v'} {at} t same room text =
    let k : length (take at v) ≡ at = length-take-le at v (omega arith) in
    record {
      step = λ s h.
          let e : length (s ++ t) ≡ length s + length t = length-append s t in
          let g : length s ≤ length v = holds_fits v at s h (omega arith) in
          let n : at ≡ length s = h.end g in
          record {
            end = λ le. omega arith;
            text = λ le. text ∙ ap (λ (x : List Cell). x ++ t) (h.text g);
            full = λ lt. omega arith;
          };
      keeps = sym (take-take at (at + length t) v' (omega arith)) ∙ ap (take at) text ∙ take-append-le at (take at v) t (omega arith) ∙ take-take at at v (omega arith);
      grows = omega arith;
    }

-- more cells than fit
pub appends-over : (v : List Cell) (at : ℕ) (t : List Cell) (r : ℕ) → length v < at + length t → length v < r → at ≤ r → Appends v at v r t
appends-over v at t r out far up = record {
  step = λ s h.
      let e : length (s ++ t) ≡ length s + length t = length-append s t in
      let no_room : length (s ++ t) ≤ length v → ⊥ = λ le. (let n : at ≡ length s = h.end (omega arith) in omega arith) in
      record {
        end = λ le. absurd (no_room le);
        text = λ le. absurd (no_room le);
        full = λ lt. far;
      };
  keeps = refl;
  grows = up;
}

-- ---- a loop that appends: what is still to be written (rest) of all that is to be appended (whole)

pub record Writing (v : List Cell) (at : ℕ) (v' : List Cell) (at' : ℕ) (rest whole : List Cell) : Type 0 where
  pub past : List Cell
  pub wrote : Appends v at v' at' past
  pub parts : past ++ rest ≡ whole

pub start : (v : List Cell) (at : ℕ) (whole : List Cell) → Writing v at v at whole whole
start v at whole = record { past = []; wrote = appends-none v at; parts = refl }

pub more : {v v₁ v₂ old t rest whole : List Cell} {at at₁ at₂ : ℕ} → Writing v at v₁ at₁ old whole → old ≡ t ++ rest → Appends v₁ at₁ v₂ at₂ t → Writing v at v₂ at₂ rest whole
more {t} {rest} w e a = record { past = w.past ++ t; wrote = appends-then w.wrote a; parts = append_assoc w.past t rest ∙ ap (λ (l : List Cell). w.past ++ l) (sym e) ∙ w.parts }

pub done : {v v' rest whole : List Cell} {at at' : ℕ} → Writing v at v' at' rest whole → rest ≡ [] → Appends v at v' at' whole
done {v} {v'} {rest} {whole} {at} {at'} w e =
    let q : w.past ≡ whole = sym (append-nil w.past) ∙ ap (λ (l : List Cell). w.past ++ l) (sym e) ∙ w.parts in
    rw (sym q) w.wrote
