-- A text has at most one mark for each three of its cells: the opener of a mark is spelled with three. Assumes nothing.
use mathlib.Core.Path.{◌≡◌, refl, ◌∙◌}
use mathlib.Core.List.{List, [], ◌∷◌}
use mathlib.Core.Bool.{Bool, true, false}
use mathlib.Core.Option.{Option, none, some}
use Prim.Native.Nat.{ℕ, zero, suc, ◌+◌, ◌-◌, ◌*◌, ◌≤◌}
use native.Mathlib.Omega.{arith}
use lib.ListN.{length, length-map}
use Rattle.text.specs.Cells.{Cell, bytes}
use Rattle.mark_tags.specs.Marks.{Kind, Tag, opener, closer, tag_at, more, Tokens, last, cut, onto, token, scan, Items, end, text, gone, mark, Slots, open-end, closed, front, after, ends, put, parse, ◌⧺◌, whole, items, Kinds, no-kinds, has, add, join, merge}
use Rattle.mark_pieces.specs.Spans.{marks_in}
use Rattle.mark_items.proofs.Scanning.{tag_fits}

-- how many openers there are in tokens, and marks in slots
openers_in : Tokens → ℕ
openers_in (last p) = 0
openers_in (cut p (opener k) s ts) = suc (openers_in ts)
openers_in (cut p (closer k) s ts) = openers_in ts

marks_around : Slots → ℕ
marks_around (open-end t) = marks_in t
marks_around (closed t o) = marks_in t + marks_around o

openers-onto : (c : Cell) (ts : Tokens) → openers_in (onto c ts) ≡ openers_in ts
unfolding openers_in
openers-onto c (last p) = refl
openers-onto c (cut p (opener k) s ts) = refl
openers-onto c (cut p (closer k) s ts) = refl

openers-token : (t : Option Tag) (c : Cell) (x : List Cell) (ts : Tokens) → tag_at (bytes (c ∷ x)) ≡ t → 3 * openers_in ts ≤ length x - more t → 3 * openers_in (token t c x ts) ≤ suc (length x)
unfolding openers_in
openers-token none c x ts e h = let z = openers-onto c ts in omega arith
openers-token (some (opener k)) c x ts e h = let f = tag_fits (bytes (c ∷ x)) (opener k) e in let l = length-map (c ∷ x) (λ (a : Cell). a.byte) in omega arith
openers-token (some (closer k)) c x ts e h = omega arith

openers-scan : (skip : ℕ) (x : List Cell) → 3 * openers_in (scan skip x) ≤ length x - skip
unfolding scan openers_in
openers-scan zero [] = omega arith
openers-scan (suc skip) [] = omega arith
openers-scan zero (c ∷ x) = let t = tag_at (bytes (c ∷ x)) in let h = openers-token t c x (scan (more t) x) refl (openers-scan (more t) x) in omega arith
openers-scan (suc skip) (c ∷ x) = let h = openers-scan skip x in omega arith

module _ (f : Items → Items) (n : ℕ) (e : (t : Items) → marks_in (f t) ≡ n + marks_in t) where
  marks-front : (o : Slots) → marks_around (front f o) ≡ n + marks_around o
  unfolding marks_around
  marks-front (open-end t) = e t
  marks-front (closed t o) = let z = e t in omega arith

marks-text : (p : List Cell) (o : Slots) → marks_around (front (text p) o) ≡ marks_around o
unfolding marks_in
marks-text p o = marks-front (text p) 0 (λ t. omega arith) o ∙ omega arith

marks-gone : (s : List Cell) (o : Slots) → marks_around (front (gone s) o) ≡ marks_around o
unfolding marks_in
marks-gone s o = marks-front (gone s) 0 (λ t. omega arith) o ∙ omega arith

marks-put : (t : Tag) (e : Bool) (p s : List Cell) (ts : Tokens) (o : Slots) → marks_around o ≤ openers_in ts → marks_around (put t e s o) ≤ openers_in (cut p t s ts)
unfolding openers_in marks_around marks_in
marks-put (opener k) e p s ts (open-end t) h = omega arith
marks-put (opener k) e p s ts (closed t o) h = let z = marks-front (mark k s t) (suc (marks_in t)) (λ u. omega arith) o in omega arith
marks-put (closer k) true p s ts o h = let z = marks-gone s o in omega arith
marks-put (closer k) false p s ts o h = let z = marks-gone s o in omega arith

marks-parse : (ts : Tokens) (ks : List Kind) → marks_around (parse ts ks) ≤ openers_in ts
unfolding parse openers_in marks_around marks_in
marks-parse (last p) ks = omega arith
marks-parse (cut p t s ts) ks =
    let o = put t (ends t ks) s (parse ts (after t ks)) in
    omega (arith, marks-text p o, marks-put t (ends t ks) p s ts (parse ts (after t ks)) (marks-parse ts (after t ks)))

marks-⧺ : (t u : Items) → marks_in (t ⧺ u) ≡ marks_in t + marks_in u
unfolding marks_in ◌⧺◌
marks-⧺ end u = omega arith
marks-⧺ (text p t) u = marks-⧺ t u
marks-⧺ (gone s t) u = marks-⧺ t u
marks-⧺ (mark k s a t) u = let z = marks-⧺ t u in omega arith

marks-whole : (o : Slots) → marks_in (whole o) ≡ marks_around o
unfolding whole marks_around
marks-whole (open-end t) = refl
marks-whole (closed t o) = omega (arith, marks-⧺ t (whole o), marks-whole o)

marks-join : (b : Bool) (k : Kind) (s : List Cell) (a t : Items) → marks_in (join b k s a t) ≤ suc (marks_in a + marks_in t)
unfolding marks_in
marks-join true k s a t = let z = marks-⧺ a t in omega arith
marks-join false k s a t = omega arith

marks-merge : (m : Kinds) (t : Items) → marks_in (merge m t) ≤ marks_in t
unfolding marks_in merge
marks-merge m end = omega arith
marks-merge m (text p t) = marks-merge m t
marks-merge m (gone s t) = marks-merge m t
marks-merge m (mark k s a t) = omega (arith, marks-join (has k m) k s (merge (add k m) a) (merge m t), marks-merge (add k m) a, marks-merge m t)

pub marks-third : (x : List Cell) → 3 * marks_in (merge no-kinds (items x)) ≤ length x
unfolding items
marks-third x =
    omega (arith, marks-merge no-kinds (items x), marks-whole (parse (scan 0 x) []), marks-parse (scan 0 x) [], openers-scan 0 x)
