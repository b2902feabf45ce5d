-- Laws of a source: a text at the front of a pair of slices, and parts of a pair. Assumes nothing.
use mathlib.Core.Path.{◌≡◌, refl, sym, ap, ◌∙◌}
use mathlib.Core.List.{List, [], ◌∷◌, ◌++◌, append-nil}
use Prim.Native.Nat.{ℕ, zero, suc, ◌+◌, ◌-◌, ◌≤◌}
use native.Mathlib.Omega.{arith}
use lib.ListN.{length, take, drop, length-drop, drop_of_length-le}
use lib.Seq.{take_all, take-length, take-take, take-add, take-append-le, drop_at, length-take-le}
use Rattle.text.specs.Cells.{Cell, cell, cells, cells_of, part}
use Rattle.text.proofs.Writing.{cells-short, cells-le}

-- ---- parts

pub cells-taken : (k : ℕ) (bs ns : List ℕ) → cells (take k bs) (take k ns) ≡ take k (cells bs ns)
unfolding cells
cells-taken zero bs ns = refl
cells-taken (suc k) [] ns = refl
cells-taken (suc k) (b ∷ bs) [] = refl
cells-taken (suc k) (b ∷ bs) (n ∷ ns) = ap (λ (l : List Cell). cell b n ∷ l) (cells-taken k bs ns)

cells-none : (bs : List ℕ) → cells bs [] ≡ []
unfolding cells
cells-none [] = refl
cells-none (b ∷ bs) = refl

pub cells-dropped : (i : ℕ) (bs ns : List ℕ) → cells (drop i bs) (drop i ns) ≡ drop i (cells bs ns)
unfolding cells
cells-dropped zero bs ns = refl
cells-dropped (suc i) [] ns = refl
cells-dropped (suc i) (b ∷ bs) [] = cells-none (drop i bs)
cells-dropped (suc i) (b ∷ bs) (n ∷ ns) = cells-dropped i bs ns

pub cells-sub : (bs ns : List ℕ) (i k : ℕ) → cells (take k (drop i bs)) (take k (drop i ns)) ≡ take k (drop i (cells bs ns))
cells-sub bs ns i k = cells-taken k (drop i bs) (drop i ns) ∙ ap (take k) (cells-dropped i bs ns)

pub part-take : (v : List Cell) (i n : ℕ) → i ≤ length v → part i (i + n) v ≡ take n (drop i v)
unfolding part
part-take v i n h = ap (drop i) (take-add i n v) ∙ drop_at (take i v) (take n (drop i v)) i (length-take-le i v h)

-- the cells of two parts of slices
pub cells-part : (bs ns : List ℕ) (a e : ℕ) → a ≤ e → e ≤ length bs → e ≤ length ns → cells (take (e - a) (drop a bs)) (take (e - a) (drop a ns)) ≡ part a e (cells bs ns)
cells-part bs ns a e h k l =
    let q : a + (e - a) ≡ e = omega arith in
    cells-sub bs ns a (e - a) ∙ sym (part-take (cells bs ns) a (e - a) (let z = cells-le bs ns e k l in omega arith)) ∙ ap (λ (j : ℕ). part a j (cells bs ns)) q

pub part-laid : (bs ns : List ℕ) (a e : ℕ) → a ≤ e → e ≤ length bs → e ≤ length ns
    → take (e - a) (cells (take (e - a) (drop a bs)) (take (e - a) (drop a ns))) ≡ part a e (cells bs ns)
part-laid bs ns a e h k l =
    ap (take (e - a)) (cells-sub bs ns a (e - a)) ∙ take-take (e - a) (e - a) (drop a (cells bs ns)) (omega arith) ∙ sym (cells-sub bs ns a (e - a))
    ∙ cells-part bs ns a e h k l

-- ---- the source

module _ (text bs ns : List ℕ) (n : ℕ) (size : n ≡ length text) (hb : take (length text) bs ≡ text) (hn : cells text ns ≡ cells_of text) where
  pub source-front : cells (take n bs) (take n ns) ≡ cells_of text
  source-front =
      ap (λ (k : ℕ). cells (take k bs) (take k ns)) size ∙ ap (λ (l : List ℕ). cells l (take (length text) ns)) hb
      ∙ ap (λ (l : List ℕ). cells l (take (length text) ns)) (sym (take-length text)) ∙ cells-taken (length text) text ns
      ∙ take_all (length text) (cells text ns) (cells-short text ns) ∙ hn

  pub source-part : part 0 n (cells bs ns) ≡ cells_of text
  unfolding part
  source-part = sym (cells-taken n bs ns) ∙ source-front

-- ---- from a place on

-- xs, of which all from `base` on has been lent and is ys now
module _ (xs ys : List ℕ) (base : ℕ) (le : base ≤ length xs) where
  abbrev pub then : List ℕ
  then = take base xs ++ (ys ++ drop (length xs - base) (drop base xs))

  pub back_is : drop base then ≡ ys
  back_is =
      let n = length-drop base xs in
      drop_at (take base xs) (ys ++ drop (length xs - base) (drop base xs)) base (length-take-le base xs le)
      ∙ ap (λ (r : List ℕ). ys ++ r) (drop_of_length-le (drop base xs) {i = length xs - base} (omega (arith, n))) ∙ append-nil ys

  pub front-is : (end : ℕ) → end ≤ base → take end then ≡ take end xs
  front-is end h =
      let m = length-take-le base xs le in
      take-append-le end (take base xs) (ys ++ drop (length xs - base) (drop base xs)) (omega (arith, m, h)) ∙ take-take end base xs h

-- a text whose bytes and numbers stand from a place on
pub source-at : (text bs ns ys zs : List ℕ) (at : ℕ) → at ≤ length bs → at ≤ length ns → drop at bs ≡ ys → drop at ns ≡ zs → take (length text) ys ≡ text → cells text zs ≡ cells_of text
    → part at (at + length text) (cells bs ns) ≡ cells_of text
source-at text bs ns ys zs at hb hn qb qn h k =
    part-take (cells bs ns) at (length text) (cells-le bs ns at hb hn)
    ∙ ap (take (length text)) (sym (cells-dropped at bs ns) ∙ ap (λ (l : List ℕ). cells l (drop at ns)) qb ∙ ap (cells ys) qn)
    ∙ sym (cells-taken (length text) ys zs) ∙ source-front text ys zs (length text) refl h k
