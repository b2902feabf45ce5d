-- Laws of the pieces that are written, and of a cell put before others. Assumes nothing.
use mathlib.Core.Path.{◌≡◌, refl, sym, ap, ◌∙◌}
use mathlib.Core.Bool.{Bool, true, false, not, cond, ◌&&◌}
use mathlib.Core.List.{List, [], ◌∷◌, ◌++◌, reverse, reverse-reverse, reverse-cons}
use Prim.Native.Nat.{ℕ, zero, suc, ◌+◌, ◌-◌, ◌%◌, ◌≤◌, ◌<◌}
use native.Mathlib.Numerals.{add-one}
use native.Mathlib.Omega.{arith}
use lib.Dec.{eqb}
use lib.ListN.{length, take, drop, get_or, set, length-append, length-set, take-append-drop, length-drop}
use lib.Seq.{take-append-le, drop_at, slice-cons, take-take, take-set-le, take-set-lt, drop-set-lt, get_or-set_same, take-append_seam, drop-append_seam, length-take-le}
use Rattle.std.specs.List.{prefix_len, copy_within}
use Rattle.std.proofs.lemmas.List.Folds.{length-prefix_len}
use Rattle.std.proofs.lemmas.List.Edits.{take-paste, length-paste}
use Rattle.text.proofs.Areas.{drop-take}
use Rattle.text.proofs.Sources.{cells-taken, cells-dropped}
use Rattle.text.specs.Ascii.{is, is_empty}
use Rattle.text.specs.Cells.{Cell, cell, cells, part, bytes, sign}
use Rattle.text.specs.Writes.{Appends}
use Rattle.text.proofs.Writing.{holds_fits, appends-then, part-snoc, part-cons, part_none, cells-set, cells-short, cells-le}
use Rattle.text.proofs.Clearing.{cells-bytes}
use Rattle.mark_tags.specs.Marks.{escape_last, backslash, touching, piece_text, first_or, absent}
use Rattle.mark_tags.specs.Flat.{even_run, Inserts}

-- ---- runs of backslashes

even-snoc : (even : Bool) (s : List ℕ) (b : ℕ) → even_run even (s ++ (b ∷ [])) ≡ not (eqb b 92 && even_run even s)
unfolding even_run
even-snoc even [] b = refl
even-snoc even (x ∷ s) b = even-snoc (not (eqb x 92 && even)) s b

even-turns : (n : ℕ) → eqb (suc n % 2) 0 ≡ not (eqb (n % 2) 0)
even-turns zero = refl
even-turns (suc zero) = refl
even-turns (suc (suc n)) =
    let a : suc (suc (suc n)) % 2 ≡ suc n % 2 = omega arith in
    let b : suc (suc n) % 2 ≡ n % 2 = omega arith in
    rw (a, b) (even-turns n)

even-more : (y : Bool) (n : ℕ) (e : Bool) → eqb (n % 2) 0 ≡ e → eqb (cond y (1 + n) 0 % 2) 0 ≡ not (y && e)
even-more true n e h = let z : 1 + n ≡ suc n = omega arith in rw z (even-turns n ∙ ap not h)
even-more false n e h = refl

-- a run is even if as many backslashes stand at its end
even-prefix : (r : List ℕ) → eqb (prefix_len (λ x. eqb x 92) r % 2) 0 ≡ even_run true (reverse r)
unfolding even_run
even-prefix [] = refl
even-prefix (b ∷ r) = rw (reverse-cons b r, even-snoc true (reverse r) b) (even-more (eqb b 92) (prefix_len (λ x. eqb x 92) r) (even_run true (reverse r)) (even-prefix r))

pub even-counted : (s t : List ℕ) (n : ℕ) → s ≡ t → n ≡ length (take (prefix_len (λ x. eqb x 92) (reverse s)) (reverse s)) → eqb (n % 2) 0 ≡ even_run true t
even-counted s t n e k = rw (k, length-prefix_len (λ x. eqb x 92) (reverse s)) (even-prefix (reverse s) ∙ ap (even_run true) (reverse-reverse s ∙ e))

not-empty : (p : List Cell) (c : Cell) → is_empty (p ++ (c ∷ [])) ≡ false
not-empty [] c = refl
not-empty (d ∷ p) c = refl

-- the backslash before a last byte
pub escape-last : (f : ℕ → Bool) (even : Bool) (p : List Cell) (c : Cell)
    → escape_last f even (p ++ (c ∷ [])) ≡ p ++ (backslash (f c.byte && even_run even (bytes p)) ++ (c ∷ []))
unfolding escape_last even_run
escape-last f even [] c = refl
escape-last f even (d ∷ p) c = rw (not-empty p c) (ap (λ (l : List Cell). d ∷ l) (escape-last f (not (eqb d.byte 92 && even)) p c))

pub bytes_drop : (a : ℕ) (l : List Cell) → bytes (drop a l) ≡ drop a (bytes l)
bytes_drop zero l = refl
bytes_drop (suc a) [] = refl
bytes_drop (suc a) (c ∷ l) = bytes_drop a l

pub part_bytes : (a e : ℕ) (bs ns : List ℕ) → e ≤ length bs → e ≤ length ns → bytes (part a e (cells bs ns)) ≡ drop a (take e bs)
unfolding part
part_bytes a e bs ns h k = bytes_drop a (take e (cells bs ns)) ∙ ap (drop a) (cells-bytes e bs ns h k)

-- the last cell of a part by itself
module _ (bs ns : List ℕ) (a e : ℕ) (h : a < e) (hb : e ≤ length bs) (hn : e ≤ length ns) where
  abbrev last : Cell
  last = cell (get_or bs (e - 1) 0) (get_or ns (e - 1) 0)

  part-to-last : part a e (cells bs ns) ≡ part a (e - 1) (cells bs ns) ++ (last ∷ [])
  part-to-last = let k : e ≡ e - 1 + 1 = omega arith in ap (λ (n : ℕ). part a n (cells bs ns)) k ∙ part-snoc bs ns a (e - 1) (omega arith) (omega arith) (omega arith)

  part-last : part (e - 1) e (cells bs ns) ≡ last ∷ []
  part-last =
      let k : e - 1 + 1 ≡ e = omega arith in
      part-cons bs ns (e - 1) e (omega arith) hb hn ∙ ap (λ (t : List Cell). last ∷ t) (ap (λ (n : ℕ). part n e (cells bs ns)) k ∙ part_none e (cells bs ns))

  -- without a backslash
  pub unescaped : {v v' : List Cell} {at at' : ℕ} (escape : Bool) → escape ≡ false → Appends v at v' at' (part a e (cells bs ns))
      → Appends v at v' at' (part a (e - 1) (cells bs ns) ++ (backslash escape ++ part (e - 1) e (cells bs ns)))
  unescaped escape n p = rw (n, part-last, ← part-to-last) p

  -- a piece by its parts
  pub piece-by : {v v₁ v₂ : List Cell} {at at₁ at₂ : ℕ} (g m b₁ b₂ : Bool)
      → b₁ ≡ (g && is "}" (get_or bs a 0)) → b₂ ≡ (touching m (get_or bs (e - 1) 0) && even_run true (drop a (take (e - 1) bs)))
      → Appends v at v₁ at₁ (backslash b₁) → Appends v₁ at₁ v₂ at₂ (part a (e - 1) (cells bs ns) ++ (backslash b₂ ++ part (e - 1) e (cells bs ns)))
      → Appends v at v₂ at₂ (piece_text g m (part a e (cells bs ns)))
  unfolding piece_text
  piece-by g m b₁ b₂ e₁ e₂ p q =
      let first : first_or absent (part a e (cells bs ns)) ≡ get_or bs a 0 = ap (first_or absent) (part-cons bs ns a e h hb hn) in
      let whole : escape_last (touching m) true (part a e (cells bs ns)) ≡ part a (e - 1) (cells bs ns) ++ (backslash b₂ ++ part (e - 1) e (cells bs ns)) =
      ap (escape_last (touching m) true) part-to-last ∙ escape-last (touching m) true (part a (e - 1) (cells bs ns)) last
      ∙ rw (part-last, e₂, part_bytes a (e - 1) bs ns (omega arith) (omega arith)) in
      rw (first, ← e₁, whole) (appends-then p q)

-- ---- a cell put before others

abbrev pub d : Cell
d = cell 0 0

-- the cells from i up to end have moved up by one
pub record Moved (v₀ v : List Cell) (i end : ℕ) : Type 0 where
  pub low : take i v ≡ take i v₀
  pub high : part (suc i) (suc end) v ≡ part i end v₀

part-set : (v : List Cell) (i e : ℕ) (c : Cell) → i < e → part (suc i) e (set v i c) ≡ part (suc i) e v
unfolding part
part-set v i e c h = ap (drop (suc i)) (take-set-lt e v i c h) ∙ drop-set-lt (suc i) (take e v) i c (omega arith)

part-first : (v : List Cell) (i e : ℕ) → i < e → e ≤ length v → part i e v ≡ get_or v i d ∷ part (suc i) e v
unfolding part
part-first v i e h k = slice-cons i e v d h k

part_at : (v : List Cell) (i e : ℕ) (c : Cell) → i < e → e ≤ length v → part i e (set v i c) ≡ c ∷ part (suc i) e v
part_at v i e c h k =
    let n = length-set v i c in
    part-first (set v i c) i e h (omega arith) ∙ rw (get_or-set_same v i c d (omega arith), part-set v i e c h)

pub part-behind : (v s t : List Cell) (p e : ℕ) → length s ≡ p → take e v ≡ s ++ t → part p e v ≡ t
unfolding part
part-behind v s t p e n x = ap (drop p) x ∙ rw (← n) (drop-append_seam s t)

pub take_part : (v : List Cell) (p e : ℕ) → p ≤ e → take e v ≡ take p v ++ part p e v
unfolding part
take_part v p e h = sym (take-append-drop p (take e v)) ∙ ap (λ (u : List Cell). u ++ drop p (take e v)) (take-take p e v h)

pub inserts-here : (v₀ v : List Cell) (p end : ℕ) (c : Cell) → p ≤ end → end < length v → length v ≡ length v₀ → Moved v₀ v p end → Inserts v₀ p end (set v p c) (end + 1) c
inserts-here v₀ v p end c h k l m = record {
  step = λ s t n g.
      let fit : length (s ++ t) ≤ length v₀ = holds_fits v₀ end (s ++ t) g (omega arith) in
      let e : end ≡ length (s ++ t) = g.end fit in
      let x : take end v₀ ≡ s ++ t = g.text fit in
      let a = length-append s t in
      let b = length-append s (c ∷ t) in
      let z = length-set v p c in
      let front : take p (set v p c) ≡ s = take-set-le p v p c (omega arith) ∙ m.low ∙ sym (take-take p end v₀ h) ∙ ap (take p) x ∙ rw (← n) (take-append_seam s t) in
      let back : part p end v₀ ≡ t = part-behind v₀ s t p end n x in
      let all : take (suc end) (set v p c) ≡ s ++ (c ∷ t) = take_part (set v p c) p (suc end) (omega arith) ∙ rw (front, part_at v p (suc end) c (omega arith) (omega arith), m.high, back) in
      record { end = λ le. omega arith; text = λ le. rw add-one all; full = λ lt. omega arith };
  keeps = take-set-le p v p c (omega arith) ∙ m.low;
  grows = omega arith;
}

pub inserts-full : (v : List Cell) (p at r : ℕ) (c : Cell) → length v ≤ at → length v < r → at ≤ r → Inserts v p at v r c
inserts-full v p at r c out far up = record {
  step = λ s t n g.
      let a = length-append s t in
      let b = length-append s (c ∷ t) in
      let no_room : length (s ++ (c ∷ t)) ≤ length v → ⊥ = λ le. (let e : at ≡ length (s ++ t) = g.end (omega arith) in omega arith) in
      record { end = λ le. absurd (no_room le); text = λ le. absurd (no_room le); full = λ lt. far };
  keeps = refl;
  grows = up;
}

-- ---- the same of a pair of slices

pub cells-long : (bs ns : List ℕ) → length bs ≤ length ns → length (cells bs ns) ≡ length bs
cells-long bs ns h = let a = cells-short bs ns in let b = cells-le bs ns (length bs) (omega arith) h in omega arith

-- a list of which the elements from p up to e have moved up by one
module _ (xs : List ℕ) (p e : ℕ) (h : p ≤ e) (k : e < length xs) where
  shifted-take : take (suc e) (copy_within xs p e (p + 1)) ≡ take (p + 1) xs ++ take (e - p) (drop p xs)
  shifted-take =
      let z : suc e ≡ p + 1 + (e - p) = omega arith in
      let l = length-drop p xs in
      rw z (take-paste xs (p + 1) (drop p xs) (e - p) (omega arith) (omega arith))

  shifted-low : take p (copy_within xs p e (p + 1)) ≡ take p xs
  shifted-low =
      let l = length-take-le (p + 1) xs (omega arith) in
      sym (take-take p (suc e) (copy_within xs p e (p + 1)) (omega arith)) ∙ ap (take p) shifted-take ∙ take-append-le p (take (p + 1) xs) (take (e - p) (drop p xs)) (omega arith) ∙ take-take p (p + 1) xs (omega arith)

  shifted-high : drop (suc p) (take (suc e) (copy_within xs p e (p + 1))) ≡ drop p (take e xs)
  shifted-high =
      let l = length-take-le (p + 1) xs (omega arith) in
      ap (drop (suc p)) shifted-take ∙ drop_at (take (p + 1) xs) (take (e - p) (drop p xs)) (suc p) (omega arith) ∙ sym (drop-take p e xs)

  shifted-length : length (copy_within xs p e (p + 1)) ≡ length xs
  shifted-length = let l = length-drop p xs in length-paste xs (p + 1) (drop p xs) (e - p) (omega arith) (omega arith)

module _ (bs ns : List ℕ) (p e : ℕ) (h : p ≤ e) (k : e < length bs) (wide : length bs ≤ length ns) where
  abbrev bs₁ : List ℕ
  bs₁ = copy_within bs p e (p + 1)

  abbrev ns₁ : List ℕ
  ns₁ = copy_within ns p e (p + 1)

  moved : Moved (cells bs ns) (cells bs₁ ns₁) p e
  unfolding part
  moved = record {
    low = sym (cells-taken p bs₁ ns₁) ∙ rw (shifted-low bs p e h k, shifted-low ns p e h (omega arith)) (cells-taken p bs ns);
    high = sym (cells-of-part (suc p) (suc e) bs₁ ns₁) ∙ rw (shifted-high bs p e h k, shifted-high ns p e h (omega arith)) (cells-of-part p e bs ns);
  }
    where
      cells-of-part : (a e : ℕ) (xs ys : List ℕ) → cells (drop a (take e xs)) (drop a (take e ys)) ≡ drop a (take e (cells xs ys))
      cells-of-part a e xs ys = cells-dropped a (take e xs) (take e ys) ∙ ap (drop a) (cells-taken e xs ys)

  pub insert-done : (b : ℕ) → Inserts (cells bs ns) p e (cells (set bs₁ p b) (set ns₁ p 0)) (e + 1) (sign b)
  insert-done b =
      let l = shifted-length bs p e h k in
      let l₁ = shifted-length ns p e h (omega arith) in
      let c = cells-long bs ns wide in
      let c₁ = cells-long bs₁ ns₁ (omega arith) in
      rw (cells-set bs₁ ns₁ p b 0) (inserts-here (cells bs ns) (cells bs₁ ns₁) p e (cell b 0) h (omega arith) (omega arith) moved)
