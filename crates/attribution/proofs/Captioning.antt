-- Laws of the caption's pieces. Assumes nothing.
use mathlib.Core.Path.{◌≡◌, refl, sym, ap, ◌∙◌}
use mathlib.Core.Bool.{Bool, true, false, cond, not, ◌&&◌, ◌||◌, true≢false}
use mathlib.Core.List.{List, [], ◌∷◌, ◌++◌, append-nil, append_assoc}
use Prim.Native.Nat.{ℕ, suc, ◌+◌, ◌-◌, ◌≤◌, ◌<◌}
use native.Mathlib.Nat.{add-sub_cancel_left}
use native.Mathlib.Omega.{arith}
use lib.Dec.{eqb, ltb}
use lib.ListN.{length, take, drop, length-append}
use borrow.Author.Tests.{lt-ltb}
use Rattle.text.specs.Ascii.{inside, ascii, is_empty}
use Rattle.text.specs.Blanks.{computes as blanks_compute}
use Rattle.text.specs.Cells.{Cell, cell, sign, written, cells_from}
use Rattle.day.specs.Day.{iso, is_seconds, day_of}
use Rattle.attribution_parts.specs.declared.Kind.{Kind}
use Rattle.attribution_parts.specs.declared.Kind.TheVariants.{Name, Date, Time}
use Rattle.attribution_reading.specs.declared.facts.Field.{Field}
use Rattle.attribution_parts.specs.Parts.{parts}
use Rattle.attribution_parts.specs.Attribution.{spaced, within, field_of, is_day, date, id, name, texts, or_else, caption_of, caption}
use Rattle.attribution_reading.specs.Reads.{FieldAt, IdAt}
use Rattle.attribution_reading.specs.declared.facts.Fields.{Fields}
use Rattle.attribution_reading.specs.declared.scan.Extent.{Extent}
use Rattle.attribution_losses.specs.Lists.{Told}
use Rattle.attribution_losses.proofs.Losing.{empty-is}
use Rattle.attribution_reading.specs.Places.{bytes}
use Rattle.attribution_losses.specs.Captions.{gap, named, name_texts}
use Rattle.attribution.proofs.TextLaws.{written-append, written-first}
use Rattle.attribution_reading.proofs.Fielding.{length-bytes}

pub written_none : written [] ≡ []
unfolding written cells_from
written_none = refl

-- ---- bytes that the caption puts around its pieces

open_is : (y : List ℕ) → written (40 ∷ y) ≡ sign 40 ∷ written y
unfolding blanks_compute inside
open_is y = written-first 40 y (omega arith)

close-is : written (41 ∷ []) ≡ sign 41 ∷ []
unfolding blanks_compute inside
close-is = written-first 41 [] (omega arith) ∙ ap (λ (l : List Cell). sign 41 ∷ l) written_none

hash-is : (y : List ℕ) → written (35 ∷ y) ≡ sign 35 ∷ written y
unfolding blanks_compute inside
hash-is y = written-first 35 y (omega arith)

space-is : (y : List ℕ) → written (32 ∷ y) ≡ cell 32 1 ∷ written y
unfolding blanks_compute inside
space-is y = written-first 32 y (omega arith)

closed_is : (w : List ℕ) → written (w ++ (41 ∷ [])) ≡ written w ++ (sign 41 ∷ [])
closed_is w = written-append w 41 [] (omega arith) ∙ ap (λ (l : List Cell). written w ++ l) close-is

pub bracketed-is : (w : List ℕ) → ((sign 40 ∷ []) ++ written w) ++ (sign 41 ∷ []) ≡ written (ascii "(" ++ (w ++ ascii ")"))
bracketed-is w = sym (open_is (w ++ (41 ∷ [])) ∙ ap (λ (l : List Cell). sign 40 ∷ l) (closed_is w))

second_is : (w : List ℕ) → ((cell 32 1 ∷ []) ++ written w) ++ (sign 41 ∷ []) ≡ written (32 ∷ w ++ ascii ")")
second_is w = sym (space-is (w ++ (41 ∷ [])) ∙ ap (λ (l : List Cell). cell 32 1 ∷ l) (closed_is w))

both_is : (d t : List ℕ) → ((sign 40 ∷ []) ++ written d) ++ written (32 ∷ t ++ ascii ")") ≡ written (ascii "(" ++ ((d ++ (32 ∷ t)) ++ ascii ")"))
both_is d t = sym (open_is ((d ++ (32 ∷ t)) ++ (41 ∷ [])) ∙ ap (λ (l : List Cell). sign 40 ∷ l) (ap written (append_assoc d (32 ∷ t) (41 ∷ [])) ∙ written-append d 32 (t ++ (41 ∷ [])) (omega arith)))

-- a bracket, a value, a space, a value and a bracket, one behind another
pub both-put : (d t : List ℕ) → ((((sign 40 ∷ []) ++ written d) ++ (cell 32 1 ∷ [])) ++ written t) ++ (sign 41 ∷ []) ≡ written (ascii "(" ++ ((d ++ (32 ∷ t)) ++ ascii ")"))
both-put d t =
    let a : List Cell = (sign 40 ∷ []) ++ written d in
    let b : List Cell = cell 32 1 ∷ [] in
    let e : List Cell = sign 41 ∷ [] in
    append_assoc (a ++ b) (written t) e ∙ append_assoc a b (written t ++ e) ∙ ap (λ (x : List Cell). a ++ x) (sym (append_assoc b (written t) e) ∙ second_is t) ∙ both_is d t

pub hashed-is : (w : List ℕ) → (sign 35 ∷ []) ++ written w ≡ written (35 ∷ (w ++ []))
hashed-is w = sym (hash-is (w ++ []) ∙ ap (λ (x : List ℕ). sign 35 ∷ written x) (append-nil w))

pub gap_is : cell 32 1 ∷ [] ≡ written (gap true true)
unfolding gap
gap_is = sym (space-is [] ∙ ap (λ (l : List Cell). cell 32 1 ∷ l) written_none)

-- ---- a piece that is not empty, with what stands around it

pub within-some : (x w z : List ℕ) → 0 < length w → within x w z ≡ x ++ (w ++ z)
within-some x [] z h = absurd (omega arith)
within-some x (b ∷ w) z h = refl

pub within_none : (x w z : List ℕ) → length w ≡ 0 → within x w z ≡ []
within_none x [] z e = refl
within_none x (b ∷ w) z e = let y : suc (length w) ≡ 0 = e in absurd (omega arith)

-- ---- the date

-- a field's value as the code cuts it out
pub cut_out : (s : List ℕ) (k : Kind) (f : Field) → FieldAt s k f → take (f.value.from + f.value.size - f.value.from) (drop f.value.from s) ≡ field_of k (parts 0 s)
unfolding bytes
cut_out s k f h = rw (add-sub_cancel_left f.value.from f.value.size) h.words

value-size : (s : List ℕ) (k : Kind) (f : Field) → FieldAt s k f → length (field_of k (parts 0 s)) ≡ f.value.size
value-size s k f h = sym (ap length h.words) ∙ length-bytes s f.value.from f.value.size h.inside

day-some : (s : List ℕ) → 0 < length (day_of s)
unfolding day_of iso
day-some s = omega arith

nothing : (x : List ℕ) → length x ≡ 0 → x ≡ []
nothing [] e = refl
nothing (b ∷ x) e = let y : suc (length x) ≡ 0 = e in absurd (omega arith)

spaced-left : (x y : List ℕ) → length y ≡ 0 → spaced x y ≡ x
spaced-left [] y e = nothing y e
spaced-left (a ∷ x) [] e = refl
spaced-left (a ∷ x) (b ∷ y) e = let z : suc (length y) ≡ 0 = e in absurd (omega arith)

spaced-right : (x y : List ℕ) → length x ≡ 0 → spaced x y ≡ y
spaced-right [] y e = refl
spaced-right (a ∷ x) y e = let z : suc (length x) ≡ 0 = e in absurd (omega arith)

pub spaced-both : (x y : List ℕ) → (length x ≡ 0 → ⊥) → (length y ≡ 0 → ⊥) → spaced x y ≡ x ++ (32 ∷ y)
spaced-both [] y n m = absurd (n refl)
spaced-both (a ∷ x) [] n m = absurd (m refl)
spaced-both (a ∷ x) (b ∷ y) n m = refl

module _ (s : List ℕ) (d t : Field) (df : FieldAt s Date d) (tf : FieldAt s Time t) where
  abbrev shown : List ℕ
  shown = within (ascii "(") (date (parts 0 s)) (ascii ")")

  pub day-shown : (b : Bool) (w : List ℕ) → b ≡ is_day (parts 0 s) → b ≡ true → w ≡ day_of (take (t.value.from + t.value.size - t.value.from) (drop t.value.from s)) ++ []
      → written (ascii "(" ++ (w ++ ascii ")")) ≡ written shown
  unfolding date
  day-shown b w e p q =
      let y : is_day (parts 0 s) ≡ true = sym e ∙ p in
      let v : w ≡ day_of (field_of Time (parts 0 s)) = q ∙ append-nil (day_of (take (t.value.from + t.value.size - t.value.from) (drop t.value.from s))) ∙ ap day_of (cut_out s Time t tf) in
      ap written (rw (y, v) (sym (within-some (ascii "(") (day_of (field_of Time (parts 0 s))) (ascii ")") (day-some (field_of Time (parts 0 s))))))

  module _ (b : Bool) (e : b ≡ is_day (parts 0 s)) (p : b ≡ false) where
    plain : date (parts 0 s) ≡ spaced (field_of Date (parts 0 s)) (field_of Time (parts 0 s))
    unfolding date
    plain = let y : is_day (parts 0 s) ≡ false = sym e ∙ p in rw y

    pub none-shown : d.value.size ≡ 0 → t.value.size ≡ 0 → [] ≡ written shown
    none-shown x y =
        let n = value-size s Date d df in
        let m = value-size s Time t tf in
        sym (ap written (within_none (ascii "(") (date (parts 0 s)) (ascii ")") (ap length (plain ∙ spaced-left (field_of Date (parts 0 s)) (field_of Time (parts 0 s)) (m ∙ y)) ∙ n ∙ x)) ∙ written_none)

    pub time-shown : d.value.size ≡ 0 → (t.value.size ≡ 0 → ⊥) → written (ascii "(" ++ (take (t.value.from + t.value.size - t.value.from) (drop t.value.from s) ++ ascii ")")) ≡ written shown
    time-shown x y =
        let n = value-size s Date d df in
        let m = value-size s Time t tf in
        let v : date (parts 0 s) ≡ field_of Time (parts 0 s) = plain ∙ spaced-right (field_of Date (parts 0 s)) (field_of Time (parts 0 s)) (n ∙ x) in
        ap written (rw (cut_out s Time t tf, v) (sym (within-some (ascii "(") (field_of Time (parts 0 s)) (ascii ")") (omega (arith, m, y)))))

    pub date-shown : (d.value.size ≡ 0 → ⊥) → t.value.size ≡ 0 → written (ascii "(" ++ (take (d.value.from + d.value.size - d.value.from) (drop d.value.from s) ++ ascii ")")) ≡ written shown
    date-shown x y =
        let n = value-size s Date d df in
        let m = value-size s Time t tf in
        let v : date (parts 0 s) ≡ field_of Date (parts 0 s) = plain ∙ spaced-left (field_of Date (parts 0 s)) (field_of Time (parts 0 s)) (m ∙ y) in
        ap written (rw (cut_out s Date d df, v) (sym (within-some (ascii "(") (field_of Date (parts 0 s)) (ascii ")") (omega (arith, n, x)))))

    pub both-shown : (d.value.size ≡ 0 → ⊥) → (t.value.size ≡ 0 → ⊥)
        → written (ascii "(" ++ ((take (d.value.from + d.value.size - d.value.from) (drop d.value.from s) ++ (32 ∷ take (t.value.from + t.value.size - t.value.from) (drop t.value.from s))) ++ ascii ")")) ≡ written shown
    both-shown x y =
        let n = value-size s Date d df in
        let m = value-size s Time t tf in
        let v : date (parts 0 s) ≡ field_of Date (parts 0 s) ++ (32 ∷ field_of Time (parts 0 s)) = plain ∙ spaced-both (field_of Date (parts 0 s)) (field_of Time (parts 0 s)) (λ z. x (sym n ∙ z)) (λ z. y (sym m ∙ z)) in
        let k = length-append (field_of Date (parts 0 s)) (32 ∷ field_of Time (parts 0 s)) in
        ap written (rw (cut_out s Date d df, cut_out s Time t tf, v) (sym (within-some (ascii "(") (field_of Date (parts 0 s) ++ (32 ∷ field_of Time (parts 0 s))) (ascii ")") (omega (arith, k)))))

-- ---- gaps and the id

module _ (left right : Bool) where
  pub gap-written : (left && right) ≡ true → cell 32 1 ∷ [] ≡ written (gap left right)
  unfolding gap
  gap-written p = gap_is ∙ rw p

  pub gap-none : (left && right) ≡ false → [] ≡ written (gap left right)
  unfolding gap
  gap-none p = rw p (sym written_none)

pub bytes_cut : (s : List ℕ) (f z : ℕ) → take (f + z - f) (drop f s) ≡ bytes s f z
unfolding bytes
bytes_cut s f z = rw (add-sub_cancel_left f z)

pub no-id : (s : List ℕ) (f z : ℕ) → z ≡ 0 → [] ≡ written (within (ascii "#") (bytes s f z) [])
unfolding bytes
no-id s f z e = rw e (sym written_none)

pub an-id : (s : List ℕ) (f z : ℕ) → f + z ≤ length s → (z ≡ 0 → ⊥) → (sign 35 ∷ []) ++ written (take (f + z - f) (drop f s)) ≡ written (within (ascii "#") (bytes s f z) [])
an-id s f z le n =
    let m = length-bytes s f z le in
    ap (λ (x : List ℕ). (sign 35 ∷ []) ++ written x) (bytes_cut s f z) ∙ hashed-is (bytes s f z) ∙ ap written (sym (within-some (ascii "#") (bytes s f z) [] (omega (arith, m, n))))

pub day-seconds : (s : List ℕ) (t : Field) → FieldAt s Time t → (b : Bool) → b ≡ is_day (parts 0 s) → b ≡ true → is_seconds (take (t.value.from + t.value.size - t.value.from) (drop t.value.from s)) ≡ true
day-seconds s t h b e p = ap is_seconds (cut_out s Time t h) ∙ sym e ∙ p

-- ---- pieces with a space between

pub spaced-written : (x y : List ℕ) (l r : Bool) → l ≡ not (is_empty x) → r ≡ not (is_empty y) → (written x ++ written (gap l r)) ++ written y ≡ written (spaced x y)
unfolding gap
spaced-written [] y l r p q = rw (p, written_none)
spaced-written (a ∷ x) [] l r p q = rw (p, q, written_none) (append-nil (written (a ∷ x) ++ []) ∙ append-nil (written (a ∷ x)))
spaced-written (a ∷ x) (b ∷ y) l r p q =
    rw (p, q) (append_assoc (written (a ∷ x)) (written (32 ∷ [])) (written (b ∷ y))
    ∙ ap (λ (l : List Cell). written (a ∷ x) ++ l) (ap (λ (l : List Cell). l ++ written (b ∷ y)) (space-is [] ∙ ap (λ (l : List Cell). cell 32 1 ∷ l) written_none) ∙ sym (space-is (b ∷ y)))
    ∙ sym (written-append (a ∷ x) 32 (b ∷ y) (omega arith)))

some_is : (w : List ℕ) (n : ℕ) → length w ≡ n → ltb 0 n ≡ not (is_empty w)
some_is [] n e = rw (← e)
some_is (b ∷ w) n e = lt-ltb 0 n (omega (arith, e))

spaced-empty : (x y : List ℕ) → is_empty (spaced x y) ≡ (is_empty x && is_empty y)
spaced-empty [] y = refl
spaced-empty (a ∷ x) [] = refl
spaced-empty (a ∷ x) (b ∷ y) = refl

within-empty : (c : ℕ) (x w z : List ℕ) → is_empty (within (c ∷ x) w z) ≡ is_empty w
within-empty c x [] z = refl
within-empty c x (b ∷ w) z = refl

pub not-and : (a b : Bool) → not (a && b) ≡ (not a || not b)
not-and true b = refl
not-and false b = refl

day-empty : (d t : List ℕ) → is_seconds t ≡ true → is_empty (day_of t) ≡ (is_empty d && is_empty t)
unfolding is_seconds day_of iso
day-empty d [] p = absurd (true≢false (sym p))
day-empty [] (b ∷ t) p = refl
day-empty (a ∷ d) (b ∷ t) p = refl

module _ (s : List ℕ) (f : Fields) (day : Bool) (t : Told s f day) (e : Extent) (d : IdAt s e) where
  abbrev date_shown : List ℕ
  date_shown = within (ascii "(") (date (parts 0 s)) (ascii ")")

  abbrev id_shown : List ℕ
  id_shown = within (ascii "#") (id (parts 0 s)) []

  dated-empty : is_empty (date (parts 0 s)) ≡ (eqb f.date.value.size 0 && eqb f.time.value.size 0)
  unfolding date
  dated-empty = rw (empty-is s Date f.date t.fields.date, empty-is s Time f.time t.fields.time) (by (is_day (parts 0 s)) refl)
    where
      by : (b : Bool) → is_day (parts 0 s) ≡ b → is_empty (cond b (day_of (field_of Time (parts 0 s))) (spaced (field_of Date (parts 0 s)) (field_of Time (parts 0 s)))) ≡ (is_empty (field_of Date (parts 0 s)) && is_empty (field_of Time (parts 0 s)))
      by true p = day-empty (field_of Date (parts 0 s)) (field_of Time (parts 0 s)) p
      by false p = spaced-empty (field_of Date (parts 0 s)) (field_of Time (parts 0 s))

  pub dated-is : (r : Bool) → r ≡ not (eqb f.date.value.size 0 && eqb f.time.value.size 0) → r ≡ not (is_empty date_shown)
  dated-is r p = p ∙ ap not (sym dated-empty ∙ sym (within-empty 40 [] (date (parts 0 s)) (ascii ")")))

  pub id-is : ltb 0 e.size ≡ not (is_empty id_shown)
  id-is =
      let n = length-bytes s e.from e.size d.inside in
      some_is (id (parts 0 s)) e.size (sym (ap length d.words) ∙ n) ∙ ap not (sym (within-empty 35 [] (id (parts 0 s)) []))

  pub more-is : (d r : Bool) → d ≡ not (eqb f.date.value.size 0 && eqb f.time.value.size 0) → r ≡ (d || ltb 0 e.size) → r ≡ not (is_empty (spaced date_shown id_shown))
  more-is d r p q = q ∙ rw (dated-is d p, id-is) (sym (ap not (spaced-empty date_shown id_shown) ∙ not-and (is_empty date_shown) (is_empty id_shown)))

  pub id-shown : written (within (ascii "#") (bytes s e.from e.size) []) ≡ written id_shown
  id-shown = ap (λ (x : List ℕ). written (within (ascii "#") x [])) d.words

  -- ---- the name

  module _ (joined : List ℕ) (j : joined ≡ name_texts s) where
    name-is : named s joined f.name.value.from f.name.value.size ≡ name (parts 0 s)
    unfolding named name name_texts bytes
    name-is = by (field_of Name (parts 0 s)) refl
      where
        by : (x : List ℕ) → field_of Name (parts 0 s) ≡ x → cond (eqb f.name.value.size 0) joined (take f.name.value.size (drop f.name.value.from s)) ≡ or_else (field_of Name (parts 0 s)) (texts (parts 0 s))
        by [] p = rw (empty-is s Name f.name t.fields.name, p, j, p)
        by (b ∷ x) p = rw (empty-is s Name f.name t.fields.name, p) (t.fields.name.words ∙ p)

    pub caption-is : (w : List ℕ) (d r : Bool) → w ≡ named s joined f.name.value.from f.name.value.size → d ≡ not (eqb f.date.value.size 0 && eqb f.time.value.size 0) → r ≡ (d || ltb 0 e.size)
        → (written w ++ written (gap (ltb 0 (length w)) r)) ++ written (spaced date_shown id_shown) ≡ written (caption s)
    unfolding caption caption_of
    caption-is w d r p q h =
        spaced-written w (spaced date_shown id_shown) (ltb 0 (length w)) r (some_is w (length w) refl) (more-is d r q h)
        ∙ ap (λ (x : List ℕ). written (spaced x (spaced date_shown id_shown))) (p ∙ name-is)
