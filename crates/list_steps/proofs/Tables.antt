-- Laws of the table: where a list's parts begin, and what the slices hold at these places. Assumes nothing.
use mathlib.Core.Path.{◌≡◌, refl, sym, ap, ◌∙◌}
use mathlib.Core.Bool.{Bool, true, false}
use mathlib.Core.List.{List, [], ◌∷◌, ◌++◌, append_assoc}
use Prim.Native.Nat.{ℕ, suc, ◌+◌, ◌-◌, ◌%◌, ◌≤◌, ◌<◌}
use native.Mathlib.Numerals.{add-one}
use native.Mathlib.Omega.{arith}
use lib.ListN.{length, take, drop, get_or, set, length-append}
use lib.Seq.{take_at, drop_at, take-add, take-take, drop-drop, drop-append-le, get_or-take, get_or-drop, length-take-le, length-slice, get_or-append-add, take-suc-set}
use lib.Dec.{eqb, leb}
use Rattle.text.specs.Cells.{Cell, part}
use Rattle.list_blocks.specs.Blocks.{kind_of, between, head_or, parts_in, Rises}
use Rattle.list_steps.specs.Standing.{strung, starts_from}

-- ---- parts of a text

module _ (v : List Cell) (p q e : ℕ) (pq : p ≤ q) (qe : q ≤ e) (h : e ≤ length v) where
  pub part_length : length (part p q v) ≡ q - p
  unfolding part
  part_length = length-slice p q v (omega arith)

  pub part-split : part p e v ≡ part p q v ++ part q e v
  unfolding part
  part-split =
      let n : e ≡ q + (e - q) = omega arith in
      let l : length (take q v) ≡ q = length-take-le q v (omega arith) in
      let t : take e v ≡ take q v ++ take (e - q) (drop q v) = ap (λ (k : ℕ). take k v) n ∙ take-add q (e - q) v in
      rw (t, drop-append-le p (take q v) (take (e - q) (drop q v)) (omega arith), drop_at (take q v) (take (e - q) (drop q v)) q l)

  -- a part that is two texts one behind the other
  module _ (x y : List Cell) (both : part p e v ≡ x ++ y) (size : q ≡ p + length x) where
    pub part_left : part p q v ≡ x
    part_left =
        let l = part_length in
        let l' : length (part p q v) ≡ length x = omega arith in
        sym (take_at (part p q v) (part q e v) (length x) l') ∙ ap (take (length x)) (sym part-split ∙ both) ∙ take_at x y (length x) refl

    pub part_right : part q e v ≡ y
    part_right =
        let l = part_length in
        let l' : length (part p q v) ≡ length x = omega arith in
        sym (drop_at (part p q v) (part q e v) (length x) l') ∙ ap (drop (length x)) (sym part-split ∙ both) ∙ drop_at x y (length x) refl

-- ---- where parts begin

pub starts-head : (p e : ℕ) (xs : List (List Cell)) → head_or e (starts_from p xs) ≡ p
unfolding starts_from
starts-head p e [] = refl
starts-head p e (x ∷ xs) = refl

pub starts-length : (p : ℕ) (xs : List (List Cell)) → length (starts_from p xs) ≡ suc (length xs)
unfolding starts_from
starts-length p [] = refl
starts-length p (x ∷ xs) = ap suc (starts-length (p + length x) xs)

pub starts-last : (p : ℕ) (xs : List (List Cell)) → get_or (starts_from p xs) (length xs) 0 ≡ p + length (strung xs)
unfolding starts_from strung
starts-last p [] = omega arith
starts-last p (x ∷ xs) = starts-last (p + length x) xs ∙ (let l = length-append x (strung xs) in omega arith)

pub starts-snoc : (p : ℕ) (xs : List (List Cell)) (x : List Cell) → starts_from p (xs ++ x ∷ []) ≡ starts_from p xs ++ (p + length (strung xs ++ x)) ∷ []
unfolding starts_from strung
starts-snoc p [] x = refl
starts-snoc p (y ∷ xs) x =
    let e : p + length y + length (strung xs ++ x) ≡ p + length ((y ++ strung xs) ++ x) =
    (let a = length-append y (strung xs ++ x) in let b : length ((y ++ strung xs) ++ x) ≡ length (y ++ (strung xs ++ x)) = ap length (append_assoc y (strung xs) x) in omega arith) in
    ap (λ (l : List ℕ). p ∷ l) (starts-snoc (p + length y) xs x ∙ ap (λ (n : ℕ). starts_from (p + length y) xs ++ n ∷ []) e)

pub starts-rise : (p e : ℕ) (xs : List (List Cell)) → p + length (strung xs) ≤ e → Rises (starts_from p xs) e
unfolding starts_from strung Rises
starts-rise p e [] h = (omega arith, tt)
starts-rise p e (x ∷ xs) h =
    let l = length-append x (strung xs) in
    let g = starts-head (p + length x) e xs in
    (omega arith, starts-rise (p + length x) e xs (omega arith))

-- the parts that begin there
pub starts-parts : (v : List Cell) (p e : ℕ) (xs : List (List Cell)) (x : List Cell) → part p e v ≡ strung xs ++ x → e ≡ p + length (strung xs ++ x) → e ≤ length v
    → parts_in v (starts_from p xs) e ≡ xs ++ x ∷ []
unfolding starts_from strung parts_in
starts-parts v p e [] x q n h = rw q
starts-parts v p e (y ∷ xs) x q n h =
    let a : part p e v ≡ y ++ (strung xs ++ x) = q ∙ append_assoc y (strung xs) x in
    let m : length ((y ++ strung xs) ++ x) ≡ length y + length (strung xs ++ x) = ap length (append_assoc y (strung xs) x) ∙ length-append y (strung xs ++ x) in
    let le : p ≤ p + length y = omega arith in
    let ge : p + length y ≤ e = omega arith in
    let here : part p (head_or e (starts_from (p + length y) xs)) v ≡ y = rw (starts-head (p + length y) e xs) (part_left v p (p + length y) e le ge h y (strung xs ++ x) a refl) in
    let next : parts_in v (starts_from (p + length y) xs) e ≡ xs ++ x ∷ [] =
    starts-parts v (p + length y) e xs x (part_right v p (p + length y) e le ge h y (strung xs ++ x) a refl) (omega arith) h in
    rw (here, next)

-- ---- kinds

pub kind-ordered : (o s : Bool) → leb 2 (kind_of o s) ≡ o
unfolding kind_of
kind-ordered true true = refl
kind-ordered true false = refl
kind-ordered false true = refl
kind-ordered false false = refl

pub kind-second : (o s : Bool) → eqb (kind_of o s % 2) 1 ≡ s
unfolding kind_of
kind-second true true = refl
kind-second true false = refl
kind-second false true = refl
kind-second false false = refl

-- ---- reading the table

module _ (ns : List ℕ) (end top : ℕ) (t u : List ℕ) (q : between end top ns ≡ t ++ u) (le : (end ≤ top) × (top ≤ length ns)) where
  -- behind t
  pub table-behind : between (end + length t) top ns ≡ u
  unfolding between
  table-behind = sym (drop-drop (length t) end (take top ns)) ∙ ap (drop (length t)) q ∙ drop_at t u (length t) refl

  pub table-size : top ≡ end + (length t + length u)
  unfolding between
  table-size =
      let a : length (drop end (take top ns)) ≡ top - end = length-slice end top ns le.1 in
      let b : length (drop end (take top ns)) ≡ length t + length u = ap length q ∙ length-append t u in
      let c = le.0 in
      omega arith

  pub table-read : (i : ℕ) → i < length t + length u → get_or ns (end + i) 0 ≡ get_or (t ++ u) i 0
  unfolding between
  table-read i lt =
      let s = table-size in
      sym (get_or-take top ns (end + i) 0 (omega arith)) ∙ sym (get_or-drop end (take top ns) i 0) ∙ ap (λ (l : List ℕ). get_or l i 0) q

  -- the i-th number of u
  pub table_at : (i : ℕ) → i < length u → get_or ns (end + length t + i) 0 ≡ get_or u i 0
  table_at i lt =
      let e : end + length t + i ≡ end + (length t + i) = omega arith in
      ap (λ (k : ℕ). get_or ns k 0) e ∙ table-read (length t + i) (omega arith) ∙ get_or-append-add t u i 0

  pub table-front : between end (end + length t) ns ≡ t
  unfolding between
  table-front =
      let s = table-size in
      let m = le.1 in
      let lt : end + length t ≤ top = omega arith in
      let l : length (take end (take top ns)) ≡ end = length-take-le end (take top ns) (let k = length-take-le top ns m in omega arith) in
      ap (drop end) (sym (take-take (end + length t) top ns lt) ∙ take-add end (length t) (take top ns))
      ∙ drop_at (take end (take top ns)) (take (length t) (drop end (take top ns))) end l ∙ ap (take (length t)) q ∙ take_at t u (length t) refl

-- a number more at the end
pub table-push : (ns : List ℕ) (end top x : ℕ) → end ≤ top → top < length ns → between end (top + 1) (set ns top x) ≡ between end top ns ++ x ∷ []
unfolding between
table-push ns end top x le lt =
    rw (add-one top, take-suc-set ns top x lt, drop-append-le end (take top ns) (x ∷ []) (let k = length-take-le top ns (omega arith) in omega arith))
