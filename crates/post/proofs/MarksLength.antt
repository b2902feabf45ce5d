-- A marks text is no longer than the text it is written of: a mark has seven cells, its opener and its closer, and writes at most six, the
-- backslashes around it among them. Assumes nothing.
use mathlib.Core.Path.{◌≡◌, refl, ap, ◌∙◌}
use mathlib.Core.List.{List, [], ◌∷◌, ◌++◌}
use mathlib.Core.Bool.{Bool, true, false, not, ◌&&◌, cond}
use mathlib.Core.Option.{Option, none, some}
use Prim.Native.Nat.{ℕ, zero, suc, ◌+◌, ◌-◌, ◌≤◌}
use native.Mathlib.Omega.{arith}
use lib.Dec.{eqb}
use lib.ListN.{length, length-map, length-append}
use lib.Seq.{length-take-le}
use Rattle.text.specs.Ascii.{is}
use Rattle.text.specs.Cells.{Cell, bytes, sign}
use Rattle.mark_tags.specs.Marks.{Kind, Tag, opener, closer, tag_at, more, Tokens, last, cut, onto, token, scan, Items, end, text, gone, mark, Slots, open-end, closed, front, after, ends, put, parse, ◌⧺◌, whole, items, Kinds, no-kinds, has, add, join, merge, content, a-mark, next, next_byte, marked, backslash, escape_last, State, start, touching, piece_text, text_step, braced, wrap_text, wrap, mark_step, write, marks, delimiter, first_or, last_or, absent, ◌▹◌}
use Rattle.mark_items.proofs.Scanning.{tag_fits}

-- the cells of a text that its items stand for, at least: seven for each mark
weight : Items → ℕ
weight end = 0
weight (text p t) = length p + weight t
weight (gone s t) = weight t
weight (mark k s a t) = 7 + (weight a + weight t)

-- a closed slot has its closer, of four cells
weight_around : Slots → ℕ
weight_around (open-end t) = weight t
weight_around (closed t o) = 4 + (weight t + weight_around o)

tag_size : Tag → List Cell → ℕ
tag_size (opener k) s = 3 + (length s - 3)
tag_size (closer k) s = 4

cells_in : Tokens → ℕ
cells_in (last p) = length p
cells_in (cut p t s ts) = length p + (tag_size t s + cells_in ts)

-- ---- the items of a text

cells-onto : (c : Cell) (ts : Tokens) → cells_in (onto c ts) ≡ suc (cells_in ts)
unfolding cells_in
cells-onto c (last p) = refl
cells-onto c (cut p t s ts) = omega arith

cells-token : (t : Option Tag) (c : Cell) (x : List Cell) (ts : Tokens) → tag_at (bytes (c ∷ x)) ≡ t → cells_in ts ≤ length x - more t → cells_in (token t c x ts) ≤ suc (length x)
unfolding cells_in tag_size
cells-token none c x ts e h = let z = cells-onto c ts in omega arith
cells-token (some (opener k)) c x ts e h =
    let f = tag_fits (bytes (c ∷ x)) (opener k) e in
    let l = length-map (c ∷ x) (λ (a : Cell). a.byte) in
    let n = length-take-le 3 (c ∷ x) (omega (arith, f, l)) in
    omega (arith, f, l, n)
cells-token (some (closer k)) c x ts e h =
    let f = tag_fits (bytes (c ∷ x)) (closer k) e in
    let l = length-map (c ∷ x) (λ (a : Cell). a.byte) in
    omega (arith, f, l)

cells-scan : (skip : ℕ) (x : List Cell) → cells_in (scan skip x) ≤ length x - skip
unfolding scan cells_in
cells-scan zero [] = omega arith
cells-scan (suc skip) [] = omega arith
cells-scan zero (c ∷ x) = let t = tag_at (bytes (c ∷ x)) in let h = cells-token t c x (scan (more t) x) refl (cells-scan (more t) x) in omega arith
cells-scan (suc skip) (c ∷ x) = let h = cells-scan skip x in omega arith

module _ (f : Items → Items) (n : ℕ) (e : (t : Items) → weight (f t) ≡ n + weight t) where
  weight-front : (o : Slots) → weight_around (front f o) ≡ n + weight_around o
  unfolding weight_around
  weight-front (open-end t) = e t
  weight-front (closed t o) = let z = e t in omega arith

weight-text : (p : List Cell) (o : Slots) → weight_around (front (text p) o) ≡ length p + weight_around o
unfolding weight
weight-text p o = weight-front (text p) (length p) (λ t. refl) o

weight-gone : (s : List Cell) (o : Slots) → weight_around (front (gone s) o) ≡ weight_around o
unfolding weight
weight-gone s o = weight-front (gone s) 0 (λ t. omega arith) o ∙ omega arith

weight-put : (t : Tag) (e : Bool) (s : List Cell) (o : Slots) → weight_around (put t e s o) ≤ tag_size t s + weight_around o
unfolding weight_around weight tag_size
weight-put (opener k) e s (open-end t) = omega arith
weight-put (opener k) e s (closed t o) = let z = weight-front (mark k s t) (7 + weight t) (λ u. omega arith) o in omega arith
weight-put (closer k) true s o = let z = weight-gone s o in omega arith
weight-put (closer k) false s o = let z = weight-gone s o in omega arith

weight-parse : (ts : Tokens) (ks : List Kind) → weight_around (parse ts ks) ≤ cells_in ts
unfolding parse weight_around weight cells_in
weight-parse (last p) ks = omega arith
weight-parse (cut p t s ts) ks =
    let o = put t (ends t ks) s (parse ts (after t ks)) in
    omega (arith, weight-text p o, weight-put t (ends t ks) s (parse ts (after t ks)), weight-parse ts (after t ks))

weight-⧺ : (t u : Items) → weight (t ⧺ u) ≡ weight t + weight u
unfolding weight ◌⧺◌
weight-⧺ end u = omega arith
weight-⧺ (text p t) u = let z = weight-⧺ t u in omega arith
weight-⧺ (gone s t) u = weight-⧺ t u
weight-⧺ (mark k s a t) u = let z = weight-⧺ t u in omega arith

weight-whole : (o : Slots) → weight (whole o) ≤ weight_around o
unfolding whole weight_around
weight-whole (open-end t) = omega arith
weight-whole (closed t o) = omega (arith, weight-⧺ t (whole o), weight-whole o)

weight-join : (b : Bool) (k : Kind) (s : List Cell) (a t : Items) → weight (join b k s a t) ≤ 7 + (weight a + weight t)
unfolding weight
weight-join true k s a t = let z = weight-⧺ a t in omega arith
weight-join false k s a t = omega arith

weight-merge : (m : Kinds) (t : Items) → weight (merge m t) ≤ weight t
unfolding weight merge
weight-merge m end = omega arith
weight-merge m (text p t) = let z = weight-merge m t in omega arith
weight-merge m (gone s t) = weight-merge m t
weight-merge m (mark k s a t) = omega (arith, weight-join (has k m) k s (merge (add k m) a) (merge m t), weight-merge (add k m) a, weight-merge m t)

-- ---- what they write

one : Bool → ℕ
one true = 1
one false = 0

slash-length : (b : Bool) (r : List Cell) → length (backslash b ++ r) ≡ one b + length r
unfolding one
slash-length true r = omega arith
slash-length false r = omega arith

one-most : (b : Bool) → one b ≤ 1
unfolding one
one-most true = omega arith
one-most false = omega arith

escape-length : (f : ℕ → Bool) (even : Bool) (p : List Cell) → length (escape_last f even p) ≤ suc (length p)
unfolding escape_last
escape-length f even [] = omega arith
escape-length f even (c ∷ []) = let z = slash-length (true && f c.byte && even) (c ∷ []) in let y = one-most (true && f c.byte && even) in omega arith
escape-length f even (c ∷ d ∷ p) = let z = escape-length f (not (eqb c.byte 92 && even)) (d ∷ p) in omega arith

-- with nothing to escape
escape-none : (f : ℕ → Bool) → ((a : ℕ) → f a ≡ false) → (even : Bool) (p : List Cell) → length (escape_last f even p) ≡ length p
unfolding escape_last one
escape-none f e even [] = refl
escape-none f e even (c ∷ []) = ap (λ (b : Bool). length (backslash (true && b && even) ++ (c ∷ []))) (e c.byte)
escape-none f e even (c ∷ d ∷ p) = ap suc (escape-none f e (not (eqb c.byte 92 && even)) (d ∷ p))

touching-length : (m : Bool) (p : List Cell) → length (escape_last (touching m) true p) ≤ one m + length p
unfolding one
touching-length true p = let z = escape-length (touching true) true p in omega arith
touching-length false p = let z = escape-none (touching false) (λ a. refl) true p in omega arith

piece-length : (g m : Bool) (p : List Cell) → length (piece_text g m p) ≤ one g + (one m + length p)
unfolding piece_text one
piece-length true m p =
    let z = slash-length (true && is "}" (first_or absent p)) (escape_last (touching m) true p) in
    let y = one-most (true && is "}" (first_or absent p)) in
    omega (arith, touching-length m p, z, y)
piece-length false m p = let z = touching-length m p in omega arith

-- its braces or delimiters, a backslash in the body, and a backslash that guards a `}` behind it
wrap-length : (d : ℕ) (br z : Bool) (body : List Cell) → length (wrap_text d br body) + one (not br && z) ≤ 5 + length body
unfolding wrap_text one
wrap-length d true z body =
    let e = escape-length (is "{") true body in
    let a = length-append (escape_last (is "{") true body) (sign d ∷ sign 125 ∷ []) in
    omega (arith, e, a)
wrap-length d false z body =
    let e = escape-length (is "{") true body in
    let a = length-append (escape_last (is "{") true body) (sign d ∷ []) in
    let y = one-most z in
    omega (arith, e, a, y)

-- a mark that comes next may cost a backslash before it
module _ (k : Kind) (a t : Items) (st : State) (inside : length (write a start).cells + one (marked (next a)) ≤ weight a + 0)
    (behind : (st' : State) → length (write t st').cells + one (marked (next t)) ≤ weight t + one st'.guarded) where
  mark-length : (b : Bool)
      → length ((mark_step b k (write a start) (next t) st).wrote ▹ write t (mark_step b k (write a start) (next t) st).state).cells + one (marked (cond b a-mark (next t)))
      ≤ 7 + (weight a + weight t) + one st.guarded
  unfolding mark_step wrap one
  mark-length false = let z = behind st in omega arith
  mark-length true =
      let body = (write a start).cells in
      let br = braced (delimiter k) (first_or absent body) (last_or absent body) st.before (next_byte (next t)) in
      let all = wrap_text (delimiter k) br body in
      let st' : State = record { before = last_or absent all; guarded = not br && is "{" st.before } in
      let n = length-append all (write t st').cells in
      let w = wrap-length (delimiter k) br (is "{" st.before) body in
      let z = behind st' in
      omega (arith, inside, n, w, z)

write-length : (t : Items) (st : State) → length (write t st).cells + one (marked (next t)) ≤ weight t + one st.guarded
unfolding write next weight text_step one
write-length end st = omega arith
write-length (text [] t) st = let z = write-length t st in omega arith
write-length (text (c ∷ p) t) st =
    let q = piece_text st.guarded (marked (next t)) (c ∷ p) in
    let st' : State = record { before = last_or absent (c ∷ p); guarded = false } in
    let n = length-append q (write t st').cells in
    omega (arith, n, piece-length st.guarded (marked (next t)) (c ∷ p), write-length t st')
write-length (gone s t) st = write-length t st
write-length (mark k s a t) st = mark-length k a t st (write-length a start) (write-length t) (content a)

pub marks-short : (x : List Cell) → length (marks x).cells ≤ length x
unfolding marks items one
marks-short x =
    omega (arith, write-length (merge no-kinds (items x)) start, weight-merge no-kinds (items x), weight-whole (parse (scan 0 x) []), weight-parse (scan 0 x) [], cells-scan 0 x)
