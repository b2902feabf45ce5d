-- The marks pass copies every cell of its input in order, but for those of consumed tags, and all else that it writes has origin 0. Assumes nothing.
use mathlib.Core.Path.{◌≡◌, refl, sym, ap, ap₂, ◌∙◌}
use mathlib.Core.List.{List, [], ◌∷◌, ◌++◌, append_assoc, append-nil}
use mathlib.Core.Bool.{Bool, true, false, not, ◌&&◌, ◌||◌, true≢false}
use mathlib.Core.Option.{Option, none, some}
use Prim.Native.Nat.{ℕ, zero, suc}
use lib.Dec.{eqb}
use lib.ListN.{take, drop, take-append-drop}
use Rattle.text.specs.Ascii.{is, is_empty}
use Rattle.text.specs.Cells.{Cell, bytes, sign}
use Rattle.text.specs.Split.{Split, done, copied, consumed, lost, wrote}
use Rattle.text.proofs.SplitLaws.{append, keeps-all, takes_all}
use Rattle.mark_tags.specs.Marks.{Kind, Tag, Tokens, last, cut, onto, token, more, tag_at, scan, Items, end, text, gone, mark, Slots, open-end, closed, front, opener, closer, put, after, ends, parse, ◌⧺◌, whole, items, Kinds, no-kinds, has, add, merge, Written, delimiter, content, next, Next, last_or, first_or, escape_last, State, start, text_step, piece_text, marked, braced, wrap_text, wrap, mark_step, write, marks, taken, taken_marks, absent, next_byte, backslash, opening, closing, touching}
use Rattle.mark_tags.specs.Marks as M

pub or-false-left : (a b : Bool) → (a || b) ≡ false → a ≡ false
or-false-left true b e = e
or-false-left false b e = refl

pub or-false-right : (a b : Bool) → (a || b) ≡ false → b ≡ false
or-false-right true b e = absurd (true≢false e)
or-false-right false b e = e

-- ---- The cells that tokens, items and slots hold, in order, are the input.

spell_tokens : Tokens → List Cell
spell_tokens (last p) = p
spell_tokens (cut p t s ts) = p ++ (s ++ spell_tokens ts)

unfoldable pub spell : Items → List Cell
spell end = []
spell (text p t) = p ++ spell t
spell (gone s t) = s ++ spell t
spell (mark k s a t) = s ++ (spell a ++ spell t)

spell_slots : Slots → List Cell
spell_slots (open-end t) = spell t
spell_slots (closed t o) = spell t ++ spell_slots o

-- `scan` loses nothing.
spell-onto : (c : Cell) (ts : Tokens) → spell_tokens (onto c ts) ≡ c ∷ spell_tokens ts
unfolding spell_tokens
spell-onto c (last p) = refl
spell-onto c (cut p t s ts) = refl

spell-token : (t : Option Tag) (c : Cell) (x : List Cell) (ts : Tokens) → spell_tokens ts ≡ drop (more t) x → spell_tokens (token t c x ts) ≡ c ∷ x
unfolding spell_tokens
spell-token none c x ts e = spell-onto c ts ∙ ap (λ (l : List Cell). c ∷ l) e
spell-token (some t) c x ts e = ap (λ (l : List Cell). take (suc (more (some t))) (c ∷ x) ++ l) e ∙ take-append-drop (suc (more (some t))) (c ∷ x)

spell-scan : (n : ℕ) (x : List Cell) → spell_tokens (scan n x) ≡ drop n x
unfolding scan spell_tokens
spell-scan zero [] = refl
spell-scan (suc n) [] = refl
spell-scan zero (c ∷ x) = spell-token (tag_at (bytes (c ∷ x))) c x (scan (more (tag_at (bytes (c ∷ x)))) x) (spell-scan (more (tag_at (bytes (c ∷ x)))) x)
spell-scan (suc n) (c ∷ x) = spell-scan n x

-- Nor does `parse`.
module _ (f : Items → Items) (p : List Cell) (e : (t : Items) → spell (f t) ≡ p ++ spell t) where
  spell-front : (o : Slots) → spell_slots (front f o) ≡ p ++ spell_slots o
  unfolding spell_slots
  spell-front (open-end t) = e t
  spell-front (closed t o) = ap (λ (l : List Cell). l ++ spell_slots o) (e t) ∙ append_assoc p (spell t) (spell_slots o)

spell-text : (p : List Cell) (o : Slots) → spell_slots (front (text p) o) ≡ p ++ spell_slots o
unfolding spell
spell-text p = spell-front (text p) p (λ t. refl)

spell-gone : (p : List Cell) (o : Slots) → spell_slots (front (gone p) o) ≡ p ++ spell_slots o
unfolding spell
spell-gone p = spell-front (gone p) p (λ t. refl)

spell-put : (t : Tag) (e : Bool) (s : List Cell) (o : Slots) → spell_slots (put t e s o) ≡ s ++ spell_slots o
unfolding spell spell_slots
spell-put (opener k) e s (open-end t) = refl
spell-put (opener k) e s (closed t o) = spell-front (mark k s t) (s ++ spell t) (λ u. sym (append_assoc s (spell t) (spell u))) o ∙ append_assoc s (spell t) (spell_slots o)
spell-put (closer k) true s o = spell-gone s o
spell-put (closer k) false s o = spell-gone s o

spell-parse : (ts : Tokens) (ks : List Kind) → spell_slots (parse ts ks) ≡ spell_tokens ts
unfolding parse spell spell_slots spell_tokens
spell-parse (last p) ks = append-nil p
spell-parse (cut p t s ts) ks =
    let o = parse ts (after t ks) in
    spell-text p (put t (ends t ks) s o) ∙ ap (λ (l : List Cell). p ++ l) (spell-put t (ends t ks) s o ∙ ap (λ (l : List Cell). s ++ l) (spell-parse ts (after t ks)))

spell-⧺ : (t u : Items) → spell (t ⧺ u) ≡ spell t ++ spell u
unfolding spell ◌⧺◌
spell-⧺ end u = refl
spell-⧺ (text p t) u = rw (spell-⧺ t u) (sym (append_assoc p (spell t) (spell u)))
spell-⧺ (gone p t) u = rw (spell-⧺ t u) (sym (append_assoc p (spell t) (spell u)))
spell-⧺ (mark k p a t) u = rw (spell-⧺ t u) (simp append_assoc)

spell-whole : (o : Slots) → spell (whole o) ≡ spell_slots o
unfolding spell_slots whole
spell-whole (open-end t) = refl
spell-whole (closed t o) = spell-⧺ t (whole o) ∙ ap (λ (l : List Cell). spell t ++ l) (spell-whole o)

pub spell-items : (x : List Cell) → spell (items x) ≡ x
unfolding items
spell-items x = spell-whole (parse (scan 0 x) []) ∙ spell-parse (scan 0 x) [] ∙ spell-scan 0 x

-- `merge` loses nothing either, and takes the same tags.
spell-join : (b : Bool) (k : Kind) (s : List Cell) (a t : Items) → spell (M.join b k s a t) ≡ s ++ (spell a ++ spell t)
unfolding spell
spell-join true k s a t = ap (λ (l : List Cell). s ++ l) (spell-⧺ a t)
spell-join false k s a t = refl

spell-merge : (m : Kinds) (t : Items) → spell (merge m t) ≡ spell t
unfolding spell merge
spell-merge m end = refl
spell-merge m (text p t) = ap (λ (l : List Cell). p ++ l) (spell-merge m t)
spell-merge m (gone s t) = ap (λ (l : List Cell). s ++ l) (spell-merge m t)
spell-merge m (mark k s a t) =
    spell-join (has k m) k s (merge (add k m) a) (merge m t) ∙ ap₂ (λ (l r : List Cell). s ++ (l ++ r)) (spell-merge (add k m) a) (spell-merge m t)

taken-⧺ : (t u : Items) → taken (t ⧺ u) ≡ taken t ++ taken u
unfolding taken ◌⧺◌
taken-⧺ end u = refl
taken-⧺ (text p t) u = taken-⧺ t u
taken-⧺ (gone p t) u = rw (taken-⧺ t u) (sym (append_assoc p (taken t) (taken u)))
taken-⧺ (mark k p a t) u = rw (taken-⧺ t u) (simp append_assoc)

taken-join : (b : Bool) (k : Kind) (s : List Cell) (a t : Items) → taken (M.join b k s a t) ≡ s ++ (taken a ++ taken t)
unfolding taken
taken-join true k s a t = ap (λ (l : List Cell). s ++ l) (taken-⧺ a t)
taken-join false k s a t = refl

taken-merge : (m : Kinds) (t : Items) → taken (merge m t) ≡ taken t
unfolding taken merge
taken-merge m end = refl
taken-merge m (text p t) = taken-merge m t
taken-merge m (gone s t) = ap (λ (l : List Cell). s ++ l) (taken-merge m t)
taken-merge m (mark k s a t) =
    taken-join (has k m) k s (merge (add k m) a) (merge m t) ∙ ap₂ (λ (l r : List Cell). s ++ (l ++ r)) (taken-merge (add k m) a) (taken-merge m t)

-- ---- Writing splits what the items spell.

-- Cells of a rule before, between and behind.
split-backslash : (b : Bool) {o t i : List Cell} → Split o t i → Split (backslash b ++ o) t i
split-backslash true s = wrote (sign 92) refl s
split-backslash false s = s

split-escape : (f : ℕ → Bool) (even : Bool) {o t i : List Cell} → Split o t i → Split (escape_last f even o) t i
unfolding escape_last
split-escape f even done = done
split-escape f even (copied c {o = o} s) =
    split-backslash (is_empty o && f c.byte && even) (copied c (split-escape f (not (eqb c.byte 92 && even)) s))
split-escape f even (consumed c s) = consumed c (split-escape f even s)
split-escape f even (lost c b s) = lost c b (split-escape f even s)
split-escape f even (wrote c z {o = o} s) =
    split-backslash (is_empty o && f c.byte && even) (wrote c z (split-escape f (not (eqb c.byte 92 && even)) s))

split-opening : (b : Bool) (d : ℕ) {o t i : List Cell} → Split o t i → Split (opening b d ++ o) t i
split-opening true d s = wrote (sign 123) refl (wrote (sign d) refl s)
split-opening false d s = wrote (sign d) refl s

split-closing : (b : Bool) (d : ℕ) → Split (closing b d) [] []
split-closing true d = wrote (sign d) refl (wrote (sign 125) refl done)
split-closing false d = wrote (sign d) refl done

split-wrap : (k : Kind) (b : Bool) (w : Written) {t i : List Cell} → Split w.cells t i → Split (wrap k b w).cells t i
unfolding wrap wrap_text
split-wrap k b w {t} {i} s =
    split-opening b (delimiter k) (rw (← append-nil t, ← append-nil i) (append (split-escape (is "{") true s) (split-closing b (delimiter k))))

split_text : (p : List Cell) (n : Next) (st : State) → Split (text_step p n st).wrote.cells [] p
unfolding text_step piece_text
split_text [] n st = done
split_text (c ∷ p) n st = split-backslash (st.guarded && is "}" c.byte) (split-escape (touching (marked n)) _ (keeps-all (c ∷ p)))

-- A slot without content is nothing but tags that are taken.
no-content : (t : Items) → content t ≡ false → taken t ≡ spell t
unfolding content taken spell
no-content end e = refl
no-content (text [] t) e = no-content t e
no-content (text (c ∷ p) t) e = absurd (true≢false e)
no-content (gone s t) e = ap (λ (l : List Cell). s ++ l) (no-content t e)
no-content (mark k s a t) e = ap₂ (λ (l r : List Cell). s ++ (l ++ r)) (no-content a (or-false-left (content a) (content t) e)) (no-content t (or-false-right (content a) (content t) e))

split-mark : (b : Bool) (k : Kind) (a : Items) (w : Written) (n : Next) (st : State) → content a ≡ b → Split w.cells (taken a) (spell a)
    → Split (mark_step b k w n st).wrote.cells (taken a) (spell a)
unfolding mark_step
split-mark true k a w n st e s = split-wrap k (braced (delimiter k) (first_or absent w.cells) (last_or absent w.cells) st.before (next_byte n)) w s
split-mark false k a w n st e s = rw (no-content a e) (takes_all (spell a))

split-write : (t : Items) (st : State) → Split (write t st).cells (taken t) (spell t)
unfolding write taken spell
split-write end st = done
split-write (text p t) st = append (split_text p (next t) st) (split-write t (text_step p (next t) st).state)
split-write (gone s t) st = append (takes_all s) (split-write t st)
split-write (mark k s a t) st =
    let q = mark_step (content a) k (write a start) (next t) st in
    append (takes_all s) (append (split-mark (content a) k a (write a start) (next t) st refl (split-write a start)) (split-write t q.state))

-- The law of the pass.
pub marks-split : (x : List Cell) → Split (marks x).cells (taken_marks x) x
unfolding marks taken_marks
marks-split x =
    let t = merge no-kinds (items x) in
    rw (← taken-merge no-kinds (items x)) (rw (spell-merge no-kinds (items x) ∙ spell-items x) at (split-write t start))
