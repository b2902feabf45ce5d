-- Laws of a mark that is written: its body, its form, its span. Assumes nothing.
use mathlib.Core.Path.{◌≡◌, refl, sym, ap, ap₂, ◌∙◌, subst}
use mathlib.Core.List.{List, [], ◌∷◌, ◌++◌, append_assoc, map}
use mathlib.Core.Bool.{Bool, true, false, not, cond, ◌&&◌, ◌||◌, false≢true}
use mathlib.Core.Logic.{◌⊎◌, inl, inr}
use Prim.Native.Nat.{ℕ, zero, suc, ◌+◌, ◌-◌, ◌*◌, ◌%◌, ◌≤◌, ◌<◌}
use native.Mathlib.Nat.{add-zero}
use native.Mathlib.Omega.{arith}
use native.Mathlib.Decide.{dec_le}
use lib.Dec.{eqb}
use lib.ListN.{length, take, drop, get_or, length-append, length-map}
use lib.Seq.{get_or-take, get_or-append-add, length-take-le, drop_at, take-take, take-append-le}
use Rattle.text.specs.Ascii.{is, is_empty}
use Rattle.text.specs.Cells.{Cell, cell, cells, part, bytes, sign}
use Rattle.text.specs.Writes.{Holds, Appends}
use Rattle.text.proofs.Writing.{holds_fits, appends-then, part-snoc}
use Rattle.text.proofs.Clearing.{cells-bytes}
use Rattle.mark_tags.specs.Marks.{Kind, bold, italic, underline, strike, Items, end, text, gone, mark, Slots, Span, Written, shift, ◌▹◌, content, Next, next, next_byte, State, start, text_step, piece_text, touching, marked, mark_step, wrap, wrap_text, opening, closing, delimiter, braced, first_or, last_or, absent, backslash, escape_last, write, span_numbers}
use Rattle.mark_tags.specs.Flat.{within, beyond, slot_at, kind_numbered, behind_brace}
use Rattle.mark_pieces.specs.Spans.{raised, marks_in, Finished, SlotWritten, mark_at, MarkReady, MarkWritten, Finishable}
use Rattle.mark_pieces.proofs.Pieces.{cells-long}
use Rattle.mark_writing.proofs.Drawing.{appends-end, shift-shift}
use Rattle.mark_writing.specs.Bodied.{Bodied}
use Rattle.mark_writing.proofs.SlotWriting.{one_more}
use Rattle.mark_writing.proofs.SlotAsking.{last-small}

-- ---- how many spans

none : (k : Kind) (w : Written) (n : Next) (st : State) (most : ℕ) → length (mark_step false k w n st).wrote.spans ≤ suc most
unfolding mark_step
none k w n st most = omega arith

no-spans : (p : List Cell) (n : Next) (st : State) → length (text_step p n st).wrote.spans ≡ 0
unfolding text_step
no-spans [] n st = refl
no-spans (c ∷ p) n st = refl

count_by : (b : Bool) (k : Kind) (w : Written) (n : Next) (st : State) (most : ℕ) → length w.spans ≤ most → length (mark_step b k w n st).wrote.spans ≤ suc most
count_by true k w n st most h = let y = one_more k w n st in omega arith
count_by false k w n st most h = none k w n st most

pub spans-few : (t : Items) (st : State) → length (write t st).spans ≤ marks_in t
unfolding write marks_in
spans-few end st = omega arith
spans-few (text p t) st =
    let q = text_step p (next t) st in
    let z = no-spans p (next t) st in
    omega (arith, length-append q.wrote.spans (map (shift (length q.wrote.cells)) (write t q.state).spans), length-map (write t q.state).spans (shift (length q.wrote.cells)), spans-few t q.state)
spans-few (gone s t) st = spans-few t st
spans-few (mark k s a t) st =
    let q = mark_step (content a) k (write a start) (next t) st in
    let z = count_by (content a) k (write a start) (next t) st (marks_in a) (spans-few a start) in
    omega (arith, length-append q.wrote.spans (map (shift (length q.wrote.cells)) (write t q.state).spans), length-map (write t q.state).spans (shift (length q.wrote.cells)), spans-few t q.state)

-- ---- where they lie

abbrev pub Within : ℕ → List Span → Type 0
Within n [] = Unit {0}
Within n (s ∷ l) = (s.from ≤ n) × (s.to ≤ n) × Within n l

within_more : (n m : ℕ) (l : List Span) → n ≤ m → Within n l → Within m l
within_more n m [] h w = tt
within_more n m (s ∷ l) h w = (let a = w.0 in omega arith, let b = w.1 in omega arith, within_more n m l h w.2)

within-shift : (a n : ℕ) (l : List Span) → Within n l → Within (a + n) (map (shift a) l)
within-shift a n [] w = tt
within-shift a n (s ∷ l) w = (let x = w.0 in omega arith, let y = w.1 in omega arith, within-shift a n l w.2)

within-append : (n : ℕ) (l r : List Span) → Within n l → Within n r → Within n (l ++ r)
within-append n [] r w u = u
within-append n (s ∷ l) r w u = (w.0, w.1, within-append n l r w.2 u)

within-▹ : (u w : Written) → Within (length u.cells) u.spans → Within (length w.cells) w.spans → Within (length (u ▹ w).cells) (u ▹ w).spans
within-▹ u w p q =
    let n = length-append u.cells w.cells in
    within-append (length (u.cells ++ w.cells)) u.spans (map (shift (length u.cells)) w.spans) (within_more (length u.cells) _ u.spans (omega arith) p)
    (rw n (within-shift (length u.cells) (length w.cells) w.spans q))

escape-long : (f : ℕ → Bool) (e : Bool) (p : List Cell) → length p ≤ length (escape_last f e p)
unfolding escape_last
escape-long f e [] = omega arith
escape-long f e (c ∷ p) =
    let r = escape-long f (not (eqb c.byte 92 && e)) p in
    omega (arith, length-append (backslash (is_empty p && f c.byte && e)) (c ∷ escape_last f (not (eqb c.byte 92 && e)) p))

closing-long : (b : Bool) (d : ℕ) → 1 ≤ length (closing b d)
closing-long true d = omega arith
closing-long false d = omega arith

opening-long : (b : Bool) (d : ℕ) → length (opening b d) ≡ suc (cond b 1 0)
opening-long true d = refl
opening-long false d = refl

wrap-long : (d : ℕ) (b : Bool) (p : List Cell) → length (opening b d) + suc (length p) ≤ length (wrap_text d b p)
unfolding wrap_text
wrap-long d b p =
    omega (arith, escape-long (is "{") true p, closing-long b d, length-append (opening b d) (escape_last (is "{") true p ++ closing b d), length-append (escape_last (is "{") true p) (closing b d))

within_text : (p : List Cell) (n : Next) (st : State) → Within (length (text_step p n st).wrote.cells) (text_step p n st).wrote.spans
unfolding text_step
within_text [] n st = tt
within_text (c ∷ p) n st = tt

within-mark : (b : Bool) (k : Kind) (w : Written) (n : Next) (st : State) → Within (length w.cells) w.spans → Within (length (mark_step b k w n st).wrote.cells) (mark_step b k w n st).wrote.spans
unfolding mark_step wrap
within-mark true k w n st h =
    let br = braced (delimiter k) (first_or absent w.cells) (last_or absent w.cells) st.before (next_byte n) in
    let z = wrap-long (delimiter k) br w.cells in
    (omega arith, omega arith, within_more (length (opening br (delimiter k)) + length w.cells) (length (wrap_text (delimiter k) br w.cells)) (map (shift (length (opening br (delimiter k)))) w.spans) (omega arith) (within-shift (length (opening br (delimiter k))) (length w.cells) w.spans h))
within-mark false k w n st h = tt

pub spans-within : (t : Items) (st : State) → Within (length (write t st).cells) (write t st).spans
unfolding write
spans-within end st = tt
spans-within (text p t) st = let q = text_step p (next t) st in within-▹ q.wrote (write t q.state) (within_text p (next t) st) (spans-within t q.state)
spans-within (gone s t) st = spans-within t st
spans-within (mark k s a t) st =
    let q = mark_step (content a) k (write a start) (next t) st in
    within-▹ q.wrote (write t q.state) (within-mark (content a) k (write a start) (next t) st (spans-within a start)) (spans-within t q.state)

pub within-number : (a n : ℕ) (l : List Span) (i : ℕ) → Within n l → get_or (span_numbers (map (shift a) l)) i 0 ≤ a + n
unfolding span_numbers
within-number a n [] i w = omega arith
within-number a n (s ∷ l) zero w = let x = w.0 in omega arith
within-number a n (s ∷ l) (suc zero) w = let x = w.1 in omega arith
within-number a n (s ∷ l) (suc (suc i)) w = within-number a n l i w.2

-- A mark with content has a body that is not empty.
or_cases : (a b : Bool) → (a || b) ≡ true → (a ≡ true) ⊎ ((a ≡ false) × (b ≡ true))
or_cases true b e = inl refl
or_cases false b e = inr (refl, e)

text-some : (c : Cell) (p : List Cell) (n : Next) (st : State) → 1 ≤ length (text_step (c ∷ p) n st).wrote.cells
unfolding text_step piece_text escape_last
text-some c p n st =
    let e = escape_last (touching (marked n)) (not (eqb c.byte 92 && true)) p in
    omega (
      arith,
      length-append (backslash (st.guarded && is "}" c.byte)) (backslash (is_empty p && touching (marked n) c.byte && true) ++ (c ∷ e)),
      length-append (backslash (is_empty p && touching (marked n) c.byte && true)) (c ∷ e),
    )

mark-some : (k : Kind) (w : Written) (n : Next) (st : State) → 1 ≤ length (mark_step true k w n st).wrote.cells
unfolding mark_step wrap
mark-some k w n st =
    let br = braced (delimiter k) (first_or absent w.cells) (last_or absent w.cells) st.before (next_byte n) in
    let z = wrap-long (delimiter k) br w.cells in
    omega arith

pub content-written : (t : Items) (st : State) → content t ≡ true → 1 ≤ length (write t st).cells
unfolding content write
content-written end st e = absurd (false≢true e)
content-written (text [] t) st e =
    let q = text_step [] (next t) st in
    omega (arith, length-append q.wrote.cells (write t q.state).cells, content-written t q.state e)
content-written (text (c ∷ p) t) st e =
    let q = text_step (c ∷ p) (next t) st in
    omega (arith, length-append q.wrote.cells (write t q.state).cells, text-some c p (next t) st)
content-written (gone s t) st e = content-written t st e
content-written (mark k s a t) st e = at (content a) (or_cases (content a) (content t) e) (content-written t)
  where
    at : (b : Bool) → ((b ≡ true) ⊎ ((b ≡ false) × (content t ≡ true))) → ((st : State) → content t ≡ true → 1 ≤ length (write t st).cells)
        → 1 ≤ length ((mark_step b k (write a start) (next t) st).wrote ▹ write t (mark_step b k (write a start) (next t) st).state).cells
    at true h r =
        let q = mark_step true k (write a start) (next t) st in
        omega (arith, length-append q.wrote.cells (write t q.state).cells, mark-some k (write a start) (next t) st)
    at false (inl h) r = absurd (false≢true h)
    at false (inr h) r =
        let q = mark_step false k (write a start) (next t) st in
        omega (arith, length-append q.wrote.cells (write t q.state).cells, r q.state h.1)

-- ---- the body's first and last byte

edge-first : (a : List ℕ) (o : ℕ) (b : List Cell) → 1 ≤ length b → get_or (a ++ (o ∷ bytes b)) (length a + 1) 0 ≡ first_or absent b
edge-first a o [] h = absurd (omega arith)
edge-first a o (c ∷ b) h = get_or-append-add a (o ∷ bytes (c ∷ b)) 1 0

last-at : (d : ℕ) (c : Cell) (b : List Cell) → get_or (bytes (c ∷ b)) (length b) 0 ≡ last_or d (c ∷ b)
unfolding last_or
last-at d c [] = refl
last-at d c (e ∷ b) = last-at c.byte e b

edge-last : (a : List ℕ) (o : ℕ) (b : List Cell) → 1 ≤ length b → get_or (a ++ (o ∷ bytes b)) (length a + length b) 0 ≡ last_or absent b
edge-last a o [] h = absurd (omega arith)
edge-last a o (c ∷ b) h = get_or-append-add a (o ∷ bytes (c ∷ b)) (suc (length b)) 0 ∙ last-at absent c b

bytes-append : (x y : List Cell) → bytes (x ++ y) ≡ bytes x ++ bytes y
bytes-append [] y = refl
bytes-append (c ∷ x) y = ap (λ (l : List ℕ). c.byte ∷ l) (bytes-append x y)

last-behind : (d : ℕ) (x : List Cell) (c : Cell) → last_or d (x ++ (c ∷ [])) ≡ c.byte
unfolding last_or
last-behind d [] c = refl
last-behind d (e ∷ x) c = last-behind e.byte x c

wrap-last : (d : ℕ) (b : Bool) (p : List Cell) → last_or absent (wrap_text d b p) ≡ cond b 125 d
unfolding wrap_text
wrap-last d true p =
    ap (last_or absent) (ap (λ (l : List Cell). opening true d ++ l) (sym (append_assoc (escape_last (is "{") true p) (sign d ∷ []) (sign 125 ∷ []))) ∙ sym (append_assoc (opening true d) (escape_last (is "{") true p ++ (sign d ∷ [])) (sign 125 ∷ [])))
    ∙ last-behind absent (opening true d ++ (escape_last (is "{") true p ++ (sign d ∷ []))) (sign 125)
wrap-last d false p = ap (last_or absent) (sym (append_assoc (opening false d) (escape_last (is "{") true p) (sign d ∷ []))) ∙ last-behind absent (opening false d ++ escape_last (is "{") true p) (sign d)

wrap-by : (b : Bool) (d : ℕ) (p : List Cell) → behind_brace b d (sign d ∷ escape_last (is "{") true p) ≡ wrap_text d b p
unfolding wrap_text
wrap-by true d p = refl
wrap-by false d p = refl

-- ---- the spans inside, raised

raised-shift : (by a : ℕ) (l : List Span) → raised by (span_numbers (map (shift a) l)) ≡ span_numbers (map (shift (a + by)) l)
unfolding span_numbers
raised-shift by a [] = refl
raised-shift by a (s ∷ l) =
    let x : a + s.from + by ≡ a + by + s.from = omega arith in
    let y : a + s.to + by ≡ a + by + s.to = omega arith in
    rw (x, y) (ap (λ (n : List ℕ). (a + by + s.from) ∷ (a + by + s.to) ∷ n) (raised-shift by a l))

-- a text that does not fit, and one at least as long
appends-longer : {v v' t : List Cell} {at at' : ℕ} (t' : List Cell) → length v' ≡ length v → length v' < at' → length t ≤ length t' → Appends v at v' at' t → Appends v at v' at' t'
appends-longer {v} {v'} {t} {at} {at'} t' l h n a = record {
  step = λ s k.
      let held = a.step s k in
      let far : length v' < length (s ++ t) = elim (dec_le (length (s ++ t)) (length v')) [ yes r ↦ absurd (let z = held.end r in omega arith) | no r ↦ omega arith ] in
      let x = length-append s t in
      let y = length-append s t' in
      record { end = λ q. absurd (omega arith); text = λ q. absurd (omega arith); full = λ q. h };
  keeps = a.keeps;
  grows = a.grows;
}

-- ---- a mark with its body

delimiter-small : (k : Kind) (d : ℕ) → d ≡ delimiter k → d < 256
delimiter-small bold d e = omega arith
delimiter-small italic d e = omega arith
delimiter-small underline d e = omega arith
delimiter-small strike d e = omega arith

pub cells-kept : (bs ns bs' ns' : List ℕ) → length bs' ≡ length bs → length ns' ≡ length ns → length bs ≤ length ns → length (cells bs' ns') ≡ length (cells bs ns)
cells-kept bs ns bs' ns' e f h = let a = cells-long bs ns h in let b = cells-long bs' ns' (omega arith) in omega arith

abbrev pub bodied : {i at₁ : ℕ} {out org out₂ org₂ ss : List ℕ} {src ns ss₂ : List ℕ} {k mask before d p end c listed item : ℕ} (out₁ org₁ : List ℕ) → MarkReady src ns k i mask before out org c
    → d ≡ delimiter (kind_numbered (get_or ns (2 * length src + 2 + i) 0 % 4)) → length out₁ ≡ length out → length org₁ ≡ length org → length out₂ ≡ length out₁ → length org₂ ≡ length org₁ → length ss₂ ≡ length ss
    → Appends (cells out org) p (cells out₁ org₁) at₁ (sign d ∷ []) → SlotWritten src ns k (i + 1) (cells out₁ org₁) at₁ ss (c + 2) (cells out₂ org₂) end ss₂ listed item
    → Bodied src ns k mask before d p out₂ org₂ end ss₂ c listed item
bodied {i} {at₁} {out} {org} {out₂} {org₂} {ss} out₁ org₁ r dl lo₁ lg₁ lo₂ lg₂ ls a b = record {
  i = i;
  v = cells out org;
  v₁ = cells out₁ org₁;
  at₁ = at₁;
  spans = ss;
  ready = record {
    slot = record { table = r.slot.table; up_to = r.slot.up_to; small = r.slot.small; fresh = r.slot.fresh; short = omega arith; wide = omega arith; few = r.slot.few };
    inside = r.inside;
    mark = r.mark;
    some = r.some;
    small = r.small;
  };
  delimits = dl;
  same₁ = cells-kept out org out₁ org₁ lo₁ lg₁ r.slot.wide;
  same = cells-kept out org out₂ org₂ (lo₂ ∙ lo₁) (lg₂ ∙ lg₁) r.slot.wide;
  same-spans = ls;
  opened = a;
  body = b;
}

module _ {src ns : List ℕ} {k mask before d at : ℕ} {out₂ org₂ : List ℕ} {e : ℕ} {ss₂ : List ℕ} {c c₂ item : ℕ} (m : Bodied src ns k mask before d at out₂ org₂ e ss₂ c c₂ item) where
  abbrev body : Written
  body = write (within (slot_at src ns k (m.i + 1))) start

  abbrev form : Bool
  form = braced (delimiter (kind_numbered (get_or ns (2 * length src + 2 + m.i) 0 % 4))) (first_or absent body.cells) (last_or absent body.cells) before (next_byte (next (within (beyond (slot_at src ns k (m.i + 1))))))

  both : Appends m.v at (cells out₂ org₂) e (sign d ∷ body.cells)
  both = appends-then m.opened m.body.wrote.text

  counted : c₂ ≡ c + 2 * length (mark_at src ns k m.i before).wrote.spans
  counted = let n = m.body.wrote.count in omega (arith, one_more (kind_numbered (get_or ns (2 * length src + 2 + m.i) 0 % 4)) body (next (within (beyond (slot_at src ns k (m.i + 1))))) (record { before = before; guarded = false }))

  wrapped : (mark_at src ns k m.i before).wrote.cells ≡ wrap_text d form body.cells
  unfolding mark_step wrap
  wrapped = rw m.delimits

  long : length (cells out₂ org₂) ≡ length out₂
  long = cells-long out₂ org₂ m.ready.slot.wide

  some : 1 ≤ length body.cells
  some = content-written (within (slot_at src ns k (m.i + 1))) start m.ready.some

  -- it does not fit
  pub mark-full : length out₂ < e → MarkWritten src ns k m.i before m.v at m.spans c (cells out₂ org₂) e ss₂ c₂ item 256 false
  mark-full h =
      let l = long in
      let n = wrap-long d form body.cells in
      let o = opening-long form d in
      let f = m.body.forward in
      record {
        wrote = record { text = rw wrapped (appends-longer (wrap_text d form body.cells) m.same (omega arith) (omega arith) both); count = counted; spans = λ q r. absurd (omega arith) };
        state = λ q. absurd (omega arith);
        small = omega arith;
        behind = m.body.behind;
        up_to = m.body.up_to;
        forward = omega arith;
      }

  module _ (fit : e ≤ length out₂) where
    fits : e ≤ length (cells out₂ org₂)
    fits = let l = long in omega arith

    started : m.at₁ ≡ at + 1
    started = let g = m.body.wrote.text.grows in let f = fits in (appends-end m.opened (omega arith) m.same₁).0

    ended : e ≡ at + suc (length body.cells)
    ended = (appends-end both fits m.same).0

    mark-more : at + 1 < e
    mark-more = let z = ended in let o = some in omega arith

    text-there : take e out₂ ≡ bytes (take at m.v) ++ (d ∷ bytes body.cells)
    text-there =
        let s = long in
        sym (cells-bytes e out₂ org₂ (omega arith) (omega arith)) ∙ ap bytes (appends-end both fits m.same).1 ∙ bytes-append (take at m.v) (sign d ∷ body.cells)

    front_long : length (bytes (take at m.v)) ≡ at
    front_long = let z = ended in let f = fits in length-map (take at m.v) (λ (c : Cell). c.byte) ∙ length-take-le at m.v (omega arith)

    first-there : get_or out₂ (at + 1) 0 ≡ first_or absent body.cells
    first-there =
        let z = ended in
        let o = some in
        sym (get_or-take e out₂ (at + 1) 0 (omega arith)) ∙ ap₂ (λ (l : List ℕ) (n : ℕ). get_or l (n + 1) 0) text-there (sym front_long) ∙ edge-first (bytes (take at m.v)) d body.cells some

    last-there : get_or out₂ (e - 1) 0 ≡ last_or absent body.cells
    last-there =
        let z = ended in
        let y : e - 1 ≡ at + length body.cells = omega arith in
        sym (get_or-take e out₂ (e - 1) 0 (omega arith)) ∙ ap₂ (λ (l : List ℕ) (n : ℕ). get_or l n 0) text-there y ∙ ap (λ (n : ℕ). get_or (bytes (take at m.v) ++ (d ∷ bytes body.cells)) (n + length body.cells) 0) (sym front_long) ∙ edge-last (bytes (take at m.v)) d body.cells some

    module _ (room : c₂ ≤ length ss₂) where
      room-before : c + 2 ≤ length m.spans
      room-before = let n = m.body.wrote.count in omega arith

      spans-there : take c₂ ss₂ ≡ take (c + 2) m.spans ++ span_numbers (map (shift (at + 1)) body.spans)
      spans-there = m.body.wrote.spans fits room ∙ ap (λ (n : ℕ). take (c + 2) m.spans ++ span_numbers (map (shift n) body.spans)) started

      spans-inside : drop (c + 2) (take c₂ ss₂) ≡ span_numbers (map (shift (at + 1)) body.spans)
      spans-inside = ap (drop (c + 2)) spans-there ∙ drop_at (take (c + 2) m.spans) (span_numbers (map (shift (at + 1)) body.spans)) (c + 2) (length-take-le (c + 2) m.spans room-before)

      spans-small : (j : ℕ) → c + 2 ≤ j → j < c₂ → get_or ss₂ j 0 ≤ e
      spans-small j p q =
          let z = ended in
          let y : c + 2 + (j - (c + 2)) ≡ j = omega arith in
          let w = within-number (at + 1) (length body.cells) body.spans (j - (c + 2)) (spans-within (within (slot_at src ns k (m.i + 1))) start) in
          let n = length-take-le (c + 2) m.spans room-before in
          let u : get_or ss₂ j 0 ≡ get_or (span_numbers (map (shift (at + 1)) body.spans)) (j - (c + 2)) 0 =
          sym (get_or-take c₂ ss₂ j 0 q) ∙ ap₂ (λ (l : List ℕ) (x : ℕ). get_or l x 0) spans-there (sym y)
          ∙ ap (λ (x : ℕ). get_or (take (c + 2) m.spans ++ span_numbers (map (shift (at + 1)) body.spans)) (x + (j - (c + 2))) 0) (sym n)
          ∙ get_or-append-add (take (c + 2) m.spans) (span_numbers (map (shift (at + 1)) body.spans)) (j - (c + 2)) 0 in
          omega arith

      low : take c ss₂ ≡ take c m.spans
      low =
          let n = m.body.wrote.count in
          let l = length-take-le (c + 2) m.spans room-before in
          sym (take-take c c₂ ss₂ (omega arith)) ∙ ap (take c) spans-there ∙ take-append-le c (take (c + 2) m.spans) (span_numbers (map (shift (at + 1)) body.spans)) (omega arith) ∙ take-take c (c + 2) m.spans (omega arith)

    -- what finishing it is asked
    pub mark-asks : (nx : ℕ) → nx ≤ 256
        → Finishable out₂ org₂ at e ss₂ c c₂ before nx
    mark-asks nx h =
        (((mark-more, fit), (m.ready.slot.wide, m.ready.slot.short)), (omega arith, ((m.ready.small, h), λ r j p q. (let w = spans-small r j p q in omega arith))))

    listing : (br : Bool) (to : ℕ) → br ≡ form → to ≡ at + length (wrap_text d br body.cells)
        → at ∷ to ∷ span_numbers (map (shift (at + 1 + cond br 1 0)) body.spans) ≡ span_numbers (map (shift at) (mark_at src ns k m.i before).wrote.spans)
    unfolding mark_step wrap span_numbers
    listing br to f t =
        let o : at + 1 + cond br 1 0 ≡ at + length (opening br d) = let y = opening-long br d in omega arith in
        rw (t, o, add-zero at, ← shift-shift at (length (opening br d)) body.spans, f, m.delimits)

    last-is : (br : Bool) → br ≡ form → cond br 125 d ≡ (mark_at src ns k m.i before).state.before
    unfolding mark_step wrap
    last-is br f = sym (wrap-last d br body.cells) ∙ rw (f, m.delimits)

    guard-is : (not form && is "{" before) ≡ (mark_at src ns k m.i before).state.guarded
    unfolding mark_step
    guard-is = refl

    pub mark-written : (out₃ org₃ : List ℕ) (to : ℕ) (ss₃ : List ℕ) (br : Bool) (n : Next) (nx before' : ℕ) (guarded' : Bool) → length out₃ ≡ length out₂ → length org₃ ≡ length org₂ → length ss₃ ≡ length ss₂
        → n ≡ next (within (slot_at src ns k item)) → nx ≡ next_byte n
        → Finished out₂ org₂ at e ss₂ c c₂ d before nx out₃ org₃ to ss₃ br → before' ≡ cond br 125 d → guarded' ≡ (not br && is "{" before)
        → MarkWritten src ns k m.i before m.v at m.spans c (cells out₃ org₃) to ss₃ c₂ item before' guarded'
    mark-written out₃ org₃ to ss₃ br n nx before' guarded' lo₃ lg₃ ls₃ ni ne fin eb eg =
        let l = long in
        let l₃ = cells-kept out₂ org₂ out₃ org₃ lo₃ lg₃ m.ready.slot.wide ∙ m.same in
        let en : nx ≡ next_byte (next (within (beyond (slot_at src ns k (m.i + 1))))) = ne ∙ ap next_byte (ni ∙ ap (λ (o : Slots). next (within o)) m.body.behind) in
        let f = m.body.forward in
        let z = ended in
        let isform : br ≡ form = fin.form ∙ rw (first-there, last-there, en, m.delimits) in
        let text : Appends m.v at (cells out₃ org₃) to (wrap_text d br body.cells) = record {
          step = λ s h.
              let n : at ≡ length s = h.end (holds_fits m.v at s h (omega arith)) in
              subst (λ (t : List Cell). Holds (cells out₃ org₃) to (s ++ t)) (wrap-by br d body.cells) (fin.step (sign d) s body.cells (sym n) (both.step s h));
          keeps = fin.keeps ∙ both.keeps;
          grows = let g = fin.grows in omega arith;
        } in
        let same : (mark_at src ns k m.i before).wrote.cells ≡ wrap_text d br body.cells = wrapped ∙ ap (λ (x : Bool). wrap_text d x body.cells) (sym isform) in
        record {
          wrote = record {
            text = rw same text;
            count = counted;
            spans = λ h r.
                let ends = (appends-end text h l₃).0 in
                let room : c₂ ≤ length ss₂ = omega arith in
                fin.spans (omega arith) room ∙ rw (low room, spans-inside room, raised-shift (cond br 1 0) (at + 1) body.spans)
                (ap (λ (l : List ℕ). take c m.spans ++ l) (listing br to isform ends));
          };
          state = λ h. (eb ∙ last-is br isform, eg ∙ ap (λ (x : Bool). not x && is "{" before) isform ∙ guard-is);
          small = last-small br d before' (delimiter-small (kind_numbered (get_or ns (2 * length src + 2 + m.i) 0 % 4)) d m.delimits) eb;
          behind = m.body.behind;
          up_to = m.body.up_to;
          forward = omega arith;
        }

pub last-piece : (bs ns : List ℕ) (a e : ℕ) → a < e → e ≤ length bs → e ≤ length ns → get_or bs (e - 1) 0 ≡ last_or absent (part a e (cells bs ns))
last-piece bs ns a e h k l =
    let z : e ≡ e - 1 + 1 = omega arith in
    sym (ap (λ (x : ℕ). last_or absent (part a x (cells bs ns))) z ∙ ap (last_or absent) (part-snoc bs ns a (e - 1) (omega arith) (omega arith) (omega arith)) ∙ last-behind absent (part a (e - 1) (cells bs ns)) (cell (get_or bs (e - 1) 0) (get_or ns (e - 1) 0)))
