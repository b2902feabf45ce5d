-- The flat sequence that code makes of a text stands for the merged items of the definition. Assumes nothing.
use mathlib.Core.Path.{◌≡◌, refl, sym, ap, ap₂, ◌∙◌}
use mathlib.Core.List.{List, [], ◌∷◌}
use mathlib.Core.Bool.{Bool, true, false, cond, ◌||◌}
use Prim.Native.Nat.{ℕ, zero, suc, ◌≤◌}
use native.Mathlib.Omega.{arith}
use lib.ListN.{length}
use Rattle.text.specs.Cells.{Cell}
use Rattle.mark_tags.specs.Marks.{Kind, same, Tag, opener, closer, Tokens, last, cut, scan, Items, end, text, gone, mark, Slots, open-end, closed, front, after, ends, opened, put, parse, ◌⧺◌, whole, items, Kinds, no-kinds, has, add, join, merge, content, Next, next, a-mark, State, start, text_step, mark_step, Written, ◌▹◌, write, marks}
use Rattle.mark_tags.specs.Flat.{Flat, piece, vanish, leave, enter, begun, around, view, within, raw_tag, raws, Settled, settled_open, settle, settled, Outer, entered, merged, flat_marks, Fresh}
use Rattle.mark_tags.proofs.Depth.{fresh-merge}

-- The items that a flat sequence stands for.
unfoldable grow : List Flat → Slots
grow [] = open-end end
grow (piece p ∷ f) = front (text p) (grow f)
grow (vanish s ∷ f) = front (gone s) (grow f)
grow (leave s ∷ f) = closed end (front (gone s) (grow f))
grow (enter k s ∷ f) = around k s (grow f)
grow (begun k s ∷ f) = around k s (grow f)

-- How many slots are closed in what is to come.
abbrev height : Slots → ℕ
height (open-end t) = 0
height (closed t o) = suc (height o)

-- ---- The tags' fates

-- They stand for what `parse` gives.
Stands : Settled → Slots → Type 0
Stands f o = (grow f.flat ≡ o) × (f.closes ≡ height o)

height-front : (g : Items → Items) (o : Slots) → height (front g o) ≡ height o
height-front g (open-end t) = refl
height-front g (closed t o) = refl

stands-open : (k : Kind) (s : List Cell) (n : ℕ) (f : List Flat) (o : Slots) → grow f ≡ o → n ≡ height o → Stands (settled_open k s n f) (opened k s o)
unfolding Stands grow
stands-open k s zero f (open-end t) g h = (ap (front (text s)) g, refl)
stands-open k s zero f (closed t o) g h = absurd (omega arith)
stands-open k s (suc n) f (open-end t) g h = absurd (omega arith)
stands-open k s (suc n) f (closed t o) g h = (ap (around k s) g, omega (arith, height-front (mark k s t) o))

stands-tag : (t : Tag) (e : Bool) (s : List Cell) (f : Settled) (o : Slots) → Stands f o → Stands (settle (raw_tag t e s) f) (put t e s o)
unfolding Stands grow
stands-tag (opener k) e s f o h = stands-open k s f.closes f.flat o h.0 h.1
stands-tag (closer k) true s f o h = (ap (λ (z : Slots). closed end (front (gone s) z)) h.0, ap suc (h.1 ∙ sym (height-front (gone s) o)))
stands-tag (closer k) false s f o h = (ap (front (gone s)) h.0, h.1 ∙ sym (height-front (gone s) o))

stands : (ts : Tokens) (ks : List Kind) → Stands (settled (raws ts ks)) (parse ts ks)
unfolding Stands raws settled parse grow
stands (last p) ks = (refl, refl)
stands (cut p t s ts) ks =
    let f = settled (raws ts (after t ks)) in
    let o = parse ts (after t ks) in
    let h = stands-tag t (ends t ks) s f o (stands ts (after t ks)) in
    (ap (front (text p)) h.0, h.1 ∙ sym (height-front (text p) (put t (ends t ks) s o)))

-- Every mark that is entered is left again.
abbrev Left : List Flat → Type 0
Left [] = Unit {0}
Left (piece p ∷ f) = Left f
Left (vanish s ∷ f) = Left f
Left (leave s ∷ f) = Left f
Left (enter k s ∷ f) = (1 ≤ height (grow f)) × Left f
Left (begun k s ∷ f) = ⊥

left_open : (k : Kind) (s : List Cell) (n : ℕ) (f : List Flat) → n ≡ height (grow f) → Left f → Left (settled_open k s n f).flat
left_open k s zero f e h = h
left_open k s (suc n) f e h = (omega arith, h)

left-tag : (t : Tag) (e : Bool) (s : List Cell) (f : Settled) → f.closes ≡ height (grow f.flat) → Left f.flat → Left (settle (raw_tag t e s) f).flat
left-tag (opener k) e s f g h = left_open k s f.closes f.flat g h
left-tag (closer k) true s f g h = h
left-tag (closer k) false s f g h = h

left : (ts : Tokens) (ks : List Kind) → Left (settled (raws ts ks)).flat
unfolding raws settled Stands
left (last p) ks = tt
left (cut p t s ts) ks =
    let f = settled (raws ts (after t ks)) in
    let h = stands ts (after t ks) in
    left-tag t (ends t ks) s f (h.1 ∙ ap height (sym h.0)) (left ts (after t ks))

-- ---- Merging

-- What that does to the items.
unfoldable merge_slots : Slots → Kinds → List Outer → Slots
merge_slots (open-end t) m st = open-end (merge m t)
merge_slots (closed t o) m [] = closed (merge m t) o
merge_slots (closed t o) m (r ∷ st) =
    cond r.merges (front (λ u. merge m t ⧺ u) (merge_slots o r.kinds-outside st)) (closed (merge m t) (merge_slots o r.kinds-outside st))

front-front : (g h : Items → Items) (o : Slots) → front g (front h o) ≡ front (λ t. g (h t)) o
front-front g h (open-end t) = refl
front-front g h (closed t o) = refl

front_same : (g h : Items → Items) → ((t : Items) → g t ≡ h t) → (o : Slots) → front g o ≡ front h o
front_same g h e (open-end t) = ap open-end (e t)
front_same g h e (closed t o) = ap (λ (u : Items). closed u o) (e t)

front-id : (o : Slots) → front (λ t. t) o ≡ o
front-id (open-end t) = refl
front-id (closed t o) = refl

-- An item at the front stays there.
module _ (g h : Items → Items) (m : Kinds) (e : (t : Items) → merge m (g t) ≡ h (merge m t)) (d : (t u : Items) → h t ⧺ u ≡ h (t ⧺ u)) where
  merge-front : (o : Slots) (st : List Outer) → merge_slots (front g o) m st ≡ front h (merge_slots o m st)
  unfolding merge_slots
  merge-front (open-end t) st = ap open-end (e t)
  merge-front (closed t o) [] = ap (λ (u : Items). closed u o) (e t)
  merge-front (closed t o) (r ∷ st) = at r.merges (merge_slots o r.kinds-outside st)
    where
      at : (b : Bool) (z : Slots)
          → cond b (front (λ u. merge m (g t) ⧺ u) z) (closed (merge m (g t)) z) ≡ front h (cond b (front (λ u. merge m t ⧺ u) z) (closed (merge m t) z))
      at true z =
          front_same (λ u. merge m (g t) ⧺ u) (λ u. h (merge m t ⧺ u)) (λ u. ap (λ (v : Items). v ⧺ u) (e t) ∙ d (merge m t) u) z
          ∙ sym (front-front h (λ u. merge m t ⧺ u) z)
      at false z = ap (λ (v : Items). closed v z) (e t)

⧺-assoc : (t u v : Items) → (t ⧺ u) ⧺ v ≡ t ⧺ (u ⧺ v)
unfolding ◌⧺◌
⧺-assoc end u v = refl
⧺-assoc (text p t) u v = ap (text p) (⧺-assoc t u v)
⧺-assoc (gone s t) u v = ap (gone s) (⧺-assoc t u v)
⧺-assoc (mark k s a t) u v = ap (mark k s a) (⧺-assoc t u v)

join-⧺ : (b : Bool) (k : Kind) (s : List Cell) (a t u : Items) → join b k s a t ⧺ u ≡ join b k s a (t ⧺ u)
unfolding ◌⧺◌
join-⧺ true k s a t u = ap (gone s) (⧺-assoc a t u)
join-⧺ false k s a t u = refl

merge-text : (p : List Cell) (m : Kinds) (o : Slots) (st : List Outer) → merge_slots (front (text p) o) m st ≡ front (text p) (merge_slots o m st)
unfolding merge ◌⧺◌
merge-text p m = merge-front (text p) (text p) m (λ t. refl) (λ t u. refl)

merge-gone : (s : List Cell) (m : Kinds) (o : Slots) (st : List Outer) → merge_slots (front (gone s) o) m st ≡ front (gone s) (merge_slots o m st)
unfolding merge ◌⧺◌
merge-gone s m = merge-front (gone s) (gone s) m (λ t. refl) (λ t u. refl)

merge-mark : (k : Kind) (s : List Cell) (t : Items) (m : Kinds) (o : Slots) (st : List Outer)
    → merge_slots (front (mark k s t) o) m st ≡ front (join (has k m) k s (merge (add k m) t)) (merge_slots o m st)
unfolding merge
merge-mark k s t m = merge-front (mark k s t) (join (has k m) k s (merge (add k m) t)) m (λ u. refl) (λ u v. join-⧺ (has k m) k s (merge (add k m) t) u v)

grow-enter : (b : Bool) (k : Kind) (s : List Cell) (m : Kinds) (st : List Outer) (F : List Flat) (o : Slots) → has k m ≡ b → 1 ≤ height o
    → grow F ≡ merge_slots o (add k m) (record { kinds-outside = m; merges = b } ∷ st) → grow (entered b k s ∷ F) ≡ merge_slots (around k s o) m st
unfolding grow merge_slots
grow-enter b k s m st F (open-end t) e q g = absurd (omega arith)
grow-enter true k s m st F (closed t o) e q g =
    rw (merge-mark k s t m o st, e, g) (front-front (gone s) (λ u. merge (add k m) t ⧺ u) (merge_slots o m st))
grow-enter false k s m st F (closed t o) e q g = rw (merge-mark k s t m o st, e, g)

grow-leave : (b : Bool) (s : List Cell) (m m' : Kinds) (st : List Outer) (F : List Flat) (o : Slots)
    → grow F ≡ merge_slots o m' st → grow (cond b (vanish s) (leave s) ∷ F) ≡ merge_slots (closed end (front (gone s) o)) m (record { kinds-outside = m'; merges = b } ∷ st)
unfolding grow merge_slots merge ◌⧺◌
grow-leave true s m m' st F o g = rw (merge-gone s m' o st, g) (sym (front-id (front (gone s) (merge_slots o m' st))))
grow-leave false s m m' st F o g = rw (merge-gone s m' o st, g)

height-around : (k : Kind) (s : List Cell) (o : Slots) (n : ℕ) → 1 ≤ height o → height (around k s o) ≤ n → height o ≤ suc n
height-around k s (open-end t) n q h = absurd (omega arith)
height-around k s (closed t o) n q h = omega (arith, height-front (mark k s t) o)

grow-merge : (f : List Flat) (m : Kinds) (st : List Outer) → Left f → height (grow f) ≤ length st → grow (merged f m st) ≡ merge_slots (grow f) m st
unfolding grow merged merge_slots merge
grow-merge [] m st l q = refl
grow-merge (piece p ∷ f) m st l q =
    rw (merge-text p m (grow f) st) (ap (front (text p)) (grow-merge f m st l (omega (arith, height-front (text p) (grow f)))))
grow-merge (vanish s ∷ f) m st l q =
    rw (merge-gone s m (grow f) st) (ap (front (gone s)) (grow-merge f m st l (omega (arith, height-front (gone s) (grow f)))))
grow-merge (leave s ∷ f) m [] l q = absurd (omega arith)
grow-merge (leave s ∷ f) m (r ∷ st) l q =
    grow-leave r.merges s m r.kinds-outside st (merged f r.kinds-outside st) (grow f)
    (grow-merge f r.kinds-outside st l (omega (arith, height-front (gone s) (grow f))))
grow-merge (begun k s ∷ f) m st l q = absurd l
grow-merge (enter k s ∷ f) m st l q =
    let st' : List Outer = record { kinds-outside = m; merges = has k m } ∷ st in
    grow-enter (has k m) k s m st (merged f (add k m) st') (grow f) refl l.0
    (grow-merge f (add k m) st' l.1 (height-around k s (grow f) (length st) l.0 q))

-- ---- All together: the flat sequence that the machines make of a text stands for the merged items of the definition.

-- With nothing open nothing is closed.
height-close : (b : Bool) (j k : Kind) (ks : List Kind) (s : List Cell) (o : Slots) → height o ≤ length (cond b ks (j ∷ ks)) → height (put (closer k) b s o) ≤ suc (length ks)
height-close true j k ks s o h = omega (arith, height-front (gone s) o)
height-close false j k ks s o h = omega (arith, height-front (gone s) o)

height-put : (t : Tag) (ks : List Kind) (s : List Cell) (o : Slots) → height o ≤ length (after t ks) → height (put t (ends t ks) s o) ≤ length ks
unfolding after ends
height-put (opener k) ks s (open-end t) h = omega arith
height-put (opener k) ks s (closed t o) h = omega (arith, height-front (mark k s t) o)
height-put (closer k) [] s o h = omega (arith, height-front (gone s) o)
height-put (closer k) (j ∷ ks) s o h = height-close (same j k) j k ks s o h

height-parse : (ts : Tokens) (ks : List Kind) → height (parse ts ks) ≤ length ks
unfolding parse
height-parse (last p) ks = omega arith
height-parse (cut p t s ts) ks =
    omega (arith, height-front (text p) (put t (ends t ks) s (parse ts (after t ks))), height-put t ks s (parse ts (after t ks)) (height-parse ts (after t ks)))

flat-parse : (ts : Tokens) (ks : List Kind) → grow (settled (raws ts ks)).flat ≡ parse ts ks
unfolding Stands
flat-parse ts ks = (stands ts ks).0

open-slots : (o : Slots) (m : Kinds) → height o ≤ 0 → merge_slots o m [] ≡ open-end (merge m (whole o))
unfolding merge_slots whole
open-slots (open-end t) m h = refl
open-slots (closed t o) m h = absurd (omega arith)

flat_items : (x : List Cell) → grow (flat_marks x) ≡ open-end (merge no-kinds (items x))
unfolding flat_marks items
flat_items x =
    let ts = scan 0 x in
    let h : height (parse ts []) ≤ 0 = height-parse ts [] in
    grow-merge (settled (raws ts [])).flat no-kinds [] (left ts []) (rw (flat-parse ts []) h)
    ∙ ap (λ (o : Slots). merge_slots o no-kinds []) (flat-parse ts [])
    ∙ open-slots (parse ts []) no-kinds h

-- ---- What writing needs of the items: neither the tags that vanish nor how an opener was spelled

unfoldable pub bare : Items → Items
bare end = end
bare (text p t) = text p (bare t)
bare (gone s t) = bare t
bare (mark k s a t) = mark k [] (bare a) (bare t)

content-bare : (t : Items) → content (bare t) ≡ content t
unfolding bare content
content-bare end = refl
content-bare (text [] t) = content-bare t
content-bare (text (c ∷ p) t) = refl
content-bare (gone s t) = content-bare t
content-bare (mark k s a t) = ap₂ (λ (x y : Bool). x || y) (content-bare a) (content-bare t)

next-bare : (t : Items) → next (bare t) ≡ next t
unfolding bare next
next-bare end = refl
next-bare (text [] t) = next-bare t
next-bare (text (c ∷ p) t) = refl
next-bare (gone s t) = next-bare t
next-bare (mark k s a t) = ap₂ (λ (x : Bool) (y : Next). cond x a-mark y) (content-bare a) (next-bare t)

pub write-bare : (t : Items) (st : State) → write (bare t) st ≡ write t st
unfolding bare write
write-bare end st = refl
write-bare (text p t) st = rw (next-bare t) (ap (λ (w : Written). (text_step p (next t) st).wrote ▹ w) (write-bare t (text_step p (next t) st).state))
write-bare (gone s t) st = write-bare t st
write-bare (mark k s a t) st =
    let q = mark_step (content a) k (write a start) (next t) st in
    rw (next-bare t, content-bare a, write-bare a start) (ap (λ (w : Written). q.wrote ▹ w) (write-bare t q.state))

unfoldable bare_slots : Slots → Slots
bare_slots (open-end t) = open-end (bare t)
bare_slots (closed t o) = closed (bare t) (bare_slots o)

around-bare : (k : Kind) (s : List Cell) (o : Slots) → around k [] (bare_slots o) ≡ bare_slots (around k s o)
unfolding bare_slots bare
around-bare k s (open-end t) = refl
around-bare k s (closed t (open-end u)) = refl
around-bare k s (closed t (closed u o)) = refl

view-bare : (f : List Flat) → view f ≡ bare_slots (grow f)
unfolding view grow bare_slots bare
view-bare [] = refl
view-bare (piece p ∷ f) = ap (front (text p)) (view-bare f) ∙ at (grow f)
  where
    at : (o : Slots) → front (text p) (bare_slots o) ≡ bare_slots (front (text p) o)
    at (open-end t) = refl
    at (closed t o) = refl
view-bare (vanish s ∷ f) = view-bare f ∙ at (grow f)
  where
    at : (o : Slots) → bare_slots o ≡ bare_slots (front (gone s) o)
    at (open-end t) = refl
    at (closed t o) = refl
view-bare (leave s ∷ f) = ap (closed end) (view-bare f ∙ at (grow f))
  where
    at : (o : Slots) → bare_slots o ≡ bare_slots (front (gone s) o)
    at (open-end t) = refl
    at (closed t o) = refl
view-bare (begun k s ∷ f) = ap (around k []) (view-bare f) ∙ around-bare k s (grow f)
view-bare (enter k s ∷ f) = ap (around k []) (view-bare f) ∙ around-bare k s (grow f)

pub view-marks : (x : List Cell) → view (flat_marks x) ≡ open-end (bare (merge no-kinds (items x)))
unfolding bare_slots
view-marks x = view-bare (flat_marks x) ∙ ap bare_slots (flat_items x)

-- So the pass writes what the flat sequence shows.
pub write_view : (x : List Cell) (t : Items) → view (flat_marks x) ≡ open-end t → write t start ≡ marks x
unfolding marks
write_view x t e =
    let h : t ≡ bare (merge no-kinds (items x)) = cc (view-marks x) in
    ap (λ (u : Items). write u start) h ∙ write-bare (merge no-kinds (items x)) start

-- No kind is open twice.
fresh-bare : (m : Kinds) (t : Items) → Fresh m t → Fresh m (bare t)
unfolding bare
fresh-bare m end f = tt
fresh-bare m (text p t) f = fresh-bare m t f
fresh-bare m (gone s t) f = fresh-bare m t f
fresh-bare m (mark k s a t) f = (f.0, fresh-bare (add k m) a f.1, fresh-bare m t f.2)

pub fresh-view : (x : List Cell) → Fresh no-kinds (within (view (flat_marks x)))
fresh-view x = rw (view-marks x) (fresh-bare no-kinds (merge no-kinds (items x)) (fresh-merge no-kinds (items x)))

pub written-view : (x : List Cell) → write (within (view (flat_marks x))) start ≡ marks x
unfolding marks
written-view x = rw (view-marks x) (write-bare (merge no-kinds (items x)) start)
