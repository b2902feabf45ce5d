-- Laws of trimming and of lines, cell by cell. Assumes nothing.
use mathlib.Core.Path.{◌≡◌, refl, sym, ap, ◌∙◌}
use mathlib.Core.Bool.{Bool, true, false, cond, ◌&&◌}
use Prim.Native.Nat.{ℕ, zero, suc, ◌+◌, ◌-◌, ◌≤◌, ◌<◌}
use native.Mathlib.Nat.{le_of_suc-le-suc, not-suc-le-zero, add-zero}
use native.Mathlib.Numerals.{add-one}
use native.Mathlib.Omega.{arith}
use mathlib.Core.List.{List, [], ◌∷◌, ◌++◌, append-nil}
use lib.ListN.{length, take, drop, get_or, length-take, length-drop}
use lib.Seq.{drop-cons, get_or-take, length-take-le}
use lib.Dec.{eqb}
use Rattle.text.specs.Ascii.{to_first}
use Rattle.text.specs.Cells.{Cell, cell, cells, is_blank, part}
use Rattle.std.specs.Bool.{MatchBool}
use Rattle.std.specs.List.{AllWithin, HoldsAt}
use Rattle.text.specs.Lines.{trim_start, trim_onto, trim_end, all_blank, is_feed, line_onto, lines}
use Rattle.text.proofs.Bytes.{first-within}
use Rattle.text.proofs.Decide.{and_no}
use Rattle.text.proofs.Sources.{cells-part}
use Rattle.text.proofs.Writing.{part_none, part_end, part-cons, part-snoc}

-- ---- from the start

module _ (bs ns : List ℕ) (i e : ℕ) (lt : i < e) (hb : e ≤ length bs) (hn : e ≤ length ns) where
  pub trim_start-blank : is_blank (get_or ns i 0) ≡ true → trim_start (part i e (cells bs ns)) ≡ trim_start (part (i + 1) e (cells bs ns))
  unfolding trim_start
  trim_start-blank t = rw (part-cons bs ns i e lt hb hn, t)

  pub trim_start-other : is_blank (get_or ns i 0) ≡ false → trim_start (part i e (cells bs ns)) ≡ part i e (cells bs ns)
  unfolding trim_start
  trim_start-other t = rw (part-cons bs ns i e lt hb hn, t)

module _ (x : List Cell) (i e : ℕ) (h : e ≤ i) where
  pub trim_start-end : trim_start (part i e x) ≡ part i e x
  unfolding trim_start
  trim_start-end = rw (part_end i e x h)

  pub trim_end-end : trim_end (part i e x) ≡ part i e x
  unfolding trim_end
  trim_end-end = rw (part_end i e x h)

-- what `all` over the numbers of a part says of its cells
all-blank-each : (xs ys : List ℕ) → length xs ≡ length ys → AllWithin (λ x. is_blank x ≡ true) ys 0 (length ys) → true ≡ all_blank (cells xs ys)
unfolding all_blank cells
all-blank-each [] ys e h = refl
all-blank-each (x ∷ xs) [] e h = absurd (omega (arith, e))
all-blank-each (x ∷ xs) (y ∷ ys) e h =
    rw (h 0 0 (omega arith) (omega arith)) (all-blank-each xs ys (omega (arith, e)) (λ k d lo hi. h (suc k) d (omega arith) (omega arith)))

all-blank-but : (k : ℕ) (xs ys : List ℕ) → length xs ≡ length ys → k < length ys → HoldsAt (λ x. is_blank x ≡ false) ys k → false ≡ all_blank (cells xs ys)
unfolding all_blank cells
all-blank-but k xs [] e lt h = absurd (not-suc-le-zero lt)
all-blank-but k [] (y ∷ ys) e lt h = absurd (omega (arith, e))
all-blank-but zero (x ∷ xs) (y ∷ ys) e lt h = rw (h 0)
all-blank-but (suc k) (x ∷ xs) (y ∷ ys) e lt h = by (is_blank y) (all-blank-but k xs ys (omega (arith, e)) (omega arith) (λ d. h d))
  where
    by : (t : Bool) → false ≡ all_blank (cells xs ys) → false ≡ (t && all_blank (cells xs ys))
    by true h = h
    by false h = refl

pub all-blank-part : (bs ns : List ℕ) (a e : ℕ) → a ≤ e → e ≤ length bs → e ≤ length ns → (r : Bool)
    → MatchBool r (AllWithin (λ x. is_blank x ≡ true) (take (e - a) (drop a ns)) 0 (length (take (e - a) (drop a ns))))
    ((k : ℕ) × (k < length (take (e - a) (drop a ns))) × HoldsAt (λ x. is_blank x ≡ false) (take (e - a) (drop a ns)) k) → r ≡ all_blank (part a e (cells bs ns))
all-blank-part bs ns a e h k l r found = by r found ∙ ap all_blank (cells-part bs ns a e h k l)
  where
    same : length (take (e - a) (drop a bs)) ≡ length (take (e - a) (drop a ns))
    same = simp (length-take, length-drop) (omega arith)

    by : (r : Bool) → MatchBool r (AllWithin (λ x. is_blank x ≡ true) (take (e - a) (drop a ns)) 0 (length (take (e - a) (drop a ns))))
        ((k : ℕ) × (k < length (take (e - a) (drop a ns))) × HoldsAt (λ x. is_blank x ≡ false) (take (e - a) (drop a ns)) k)
        → r ≡ all_blank (cells (take (e - a) (drop a bs)) (take (e - a) (drop a ns)))
    by true f = all-blank-each (take (e - a) (drop a bs)) (take (e - a) (drop a ns)) same f
    by false f = all-blank-but f.0 (take (e - a) (drop a bs)) (take (e - a) (drop a ns)) same f.1 f.2

-- ---- from the end

trim_end-snoc-blank : (x : List Cell) (c : Cell) → c.blank ≡ true → trim_end (x ++ (c ∷ [])) ≡ trim_end x
unfolding trim_end
trim_end-snoc-blank [] c t = rw t
trim_end-snoc-blank (d ∷ x) c t = ap (trim_onto d) (trim_end-snoc-blank x c t)

trim_onto-snoc : (d : Cell) (x : List Cell) (c : Cell) → trim_onto d (x ++ (c ∷ [])) ≡ d ∷ (x ++ (c ∷ []))
trim_onto-snoc d [] c = refl
trim_onto-snoc d (e ∷ x) c = refl

trim_end-snoc-other : (x : List Cell) (c : Cell) → c.blank ≡ false → trim_end (x ++ (c ∷ [])) ≡ x ++ (c ∷ [])
unfolding trim_end
trim_end-snoc-other [] c t = rw t
trim_end-snoc-other (d ∷ x) c t = ap (trim_onto d) (trim_end-snoc-other x c t) ∙ trim_onto-snoc d x c

-- j is the place before i
module _ (bs ns : List ℕ) (a j i : ℕ) (one : i ≡ j + 1) (le : a ≤ j) (hb : j < length bs) (hn : j < length ns) where
  pub trim_end-blank : is_blank (get_or ns j 0) ≡ true → trim_end (part a i (cells bs ns)) ≡ trim_end (part a j (cells bs ns))
  trim_end-blank t = rw (one, part-snoc bs ns a j hb hn le) (trim_end-snoc-blank (part a j (cells bs ns)) (cell (get_or bs j 0) (get_or ns j 0)) (t))

  pub trim_end-other : is_blank (get_or ns j 0) ≡ false → trim_end (part a i (cells bs ns)) ≡ part a i (cells bs ns)
  trim_end-other t = rw (one, part-snoc bs ns a j hb hn le) (trim_end-snoc-other (part a j (cells bs ns)) (cell (get_or bs j 0) (get_or ns j 0)) (t))

-- ---- lines

-- the cells p, without a line feed, before a text that has the lines ls
abbrev pub onto : List Cell → List (List Cell) → List (List Cell)
onto [] ls = ls
onto (c ∷ p) ls = line_onto false c (onto p ls)

onto-snoc : (p : List Cell) (c : Cell) (ls : List (List Cell)) → onto (p ++ (c ∷ [])) ls ≡ onto p (line_onto false c ls)
onto-snoc [] c ls = refl
onto-snoc (d ∷ p) c ls = ap (line_onto false d) (onto-snoc p c ls)

onto-line : (p l : List Cell) (ls : List (List Cell)) → onto p (l ∷ ls) ≡ (p ++ l) ∷ ls
onto-line [] l ls = refl
onto-line (c ∷ p) l ls = ap (line_onto false c) (onto-line p l ls)

onto-none : (c : Cell) (p : List Cell) → onto (c ∷ p) [] ≡ (c ∷ p) ∷ []
onto-none c [] = refl
onto-none c (d ∷ p) = ap (line_onto false c) (onto-none d p)

pub lines_none : (a : ℕ) (x y : List Cell) → lines y ≡ onto (part a a x) (lines y)
lines_none a x y = rw part_none

module _ (bs ns : List ℕ) (a i e : ℕ) (le : a ≤ i) (lt : i < e) (hb : e ≤ length bs) (hn : e ≤ length ns) where
  -- a cell more that is no line feed
  lines_more : is_feed (cell (get_or bs i 0) (get_or ns i 0)) ≡ false
      → onto (part a i (cells bs ns)) (lines (part i e (cells bs ns))) ≡ onto (part a (i + 1) (cells bs ns)) (lines (part (i + 1) e (cells bs ns)))
  unfolding lines
  lines_more t =
      rw (part-cons bs ns i e lt hb hn, part-snoc bs ns a i (omega arith) (omega arith) le, t)
      (sym (onto-snoc (part a i (cells bs ns)) (cell (get_or bs i 0) (get_or ns i 0)) (lines (part (i + 1) e (cells bs ns)))))

  -- the line ends at a line feed
  pub lines-feed : is_feed (cell (get_or bs i 0) (get_or ns i 0)) ≡ true
      → onto (part a i (cells bs ns)) (lines (part i e (cells bs ns))) ≡ part a i (cells bs ns) ∷ lines (part (i + 1) e (cells bs ns))
  unfolding lines
  lines-feed t = rw (part-cons bs ns i e lt hb hn, t, onto-line, append-nil)

-- n cells more, none of which has the byte of a line feed
lines-skip : (bs ns : List ℕ) (a e n i : ℕ) → a ≤ i → i + n ≤ e → e ≤ length bs → e ≤ length ns → n ≤ to_first (λ x. eqb x 10) (drop i (take e bs))
    → onto (part a i (cells bs ns)) (lines (part i e (cells bs ns))) ≡ onto (part a (i + n) (cells bs ns)) (lines (part (i + n) e (cells bs ns)))
unfolding to_first is_feed
lines-skip bs ns a e zero i le fit hb hn h = rw (add-zero i)
lines-skip bs ns a e (suc n) i le fit hb hn h =
    let lt : i < e = omega arith in
    let l : length (take e bs) ≡ e = length-take-le e bs hb in
    let d : drop i (take e bs) ≡ get_or (take e bs) i 0 ∷ drop (suc i) (take e bs) = drop-cons (take e bs) i 0 (omega arith) in
    by (eqb (get_or (take e bs) i 0) 10) refl lt (rw d at h) (λ k. lines-skip bs ns a e n (i + 1) (omega arith) (omega arith) hb hn k)
  where
    by : (t : Bool) → eqb (get_or (take e bs) i 0) 10 ≡ t → i < e → suc n ≤ cond (eqb (get_or (take e bs) i 0) 10) 0 (suc (to_first (λ x. eqb x 10) (drop (suc i) (take e bs))))
        → (n ≤ to_first (λ x. eqb x 10) (drop (i + 1) (take e bs))
        → onto (part a (i + 1) (cells bs ns)) (lines (part (i + 1) e (cells bs ns))) ≡ onto (part a (i + 1 + n) (cells bs ns)) (lines (part (i + 1 + n) e (cells bs ns))))
        → onto (part a i (cells bs ns)) (lines (part i e (cells bs ns))) ≡ onto (part a (i + suc n) (cells bs ns)) (lines (part (i + suc n) e (cells bs ns)))
    by true q lt g rest = absurd (not-suc-le-zero (rw q at g))
    by false q lt g rest =
        let k : n ≤ to_first (λ x. eqb x 10) (drop (i + 1) (take e bs)) = rw (add-one i) (le_of_suc-le-suc (rw q at g)) in
        let o : eqb (get_or bs i 0) 10 ≡ false = ap (λ (b : ℕ). eqb b 10) (sym (get_or-take e bs i 0 lt)) ∙ q in
        let m : i + 1 + n ≡ i + suc n = omega arith in
        lines_more bs ns a i e le lt hb hn (and_no (eqb (get_or bs i 0) 10) _ false o refl) ∙ rest k
        ∙ ap (λ (j : ℕ). onto (part a j (cells bs ns)) (lines (part j e (cells bs ns)))) m

-- on from a cell that is no line feed to the next byte of one
pub lines-on : (bs ns : List ℕ) (a i e r : ℕ) → a ≤ i → i < e → e ≤ length bs → e ≤ length ns → is_feed (cell (get_or bs i 0) (get_or ns i 0)) ≡ false
    → r ≡ (i + 1) + to_first (λ x. eqb x 10) (drop (i + 1) (take e bs))
    → (i < r) × ((r ≤ e) × (onto (part a i (cells bs ns)) (lines (part i e (cells bs ns))) ≡ onto (part a r (cells bs ns)) (lines (part r e (cells bs ns)))))
lines-on bs ns a i e r le lt hb hn t q =
    let f = first-within (λ x. eqb x 10) (drop (i + 1) (take e bs)) in
    let l : length (take e bs) ≡ e = length-take-le e bs hb in
    let d = length-drop (i + 1) (take e bs) in
    let far : r ≤ e = omega (arith, f, l, d, q) in (
      omega (arith, q),
      (
        far,
        lines_more bs ns a i e le lt hb hn t
            ∙ lines-skip bs ns a e (to_first (λ x. eqb x 10) (drop (i + 1) (take e bs))) (i + 1) (omega arith) (omega (arith, q, far)) hb hn (omega arith)
            ∙ ap (λ (j : ℕ). onto (part a j (cells bs ns)) (lines (part j e (cells bs ns)))) (sym q),
      ),
    )

-- or at the end
pub lines-last : (bs ns : List ℕ) (a i e : ℕ) → a < e → i ≡ e → e ≤ length bs → e ≤ length ns
    → onto (part a i (cells bs ns)) (lines (part i e (cells bs ns))) ≡ part a i (cells bs ns) ∷ lines (part (i + 1) e (cells bs ns))
unfolding lines
lines-last bs ns a i e lt q hb hn =
    rw (q, part_end e e (cells bs ns) (omega arith), part_end (e + 1) e (cells bs ns) (omega arith), part-cons bs ns a e lt hb hn)
    (onto-none (cell (get_or bs a 0) (get_or ns a 0)) (part (a + 1) e (cells bs ns)))
