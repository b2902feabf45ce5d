-- Laws of the loop that writes a slot's items. Assumes nothing.
use mathlib.Core.Path.{◌≡◌, refl, sym, ap, ◌∙◌, subst}
use mathlib.Core.List.{List, [], ◌∷◌, ◌++◌, map}
use mathlib.Core.Bool.{Bool, true, false, not, ◌&&◌}
use Prim.Native.Nat.{ℕ, suc, ◌+◌, ◌*◌, ◌%◌, ◌≤◌, ◌<◌}
use native.Mathlib.Omega.{arith}
use lib.Dec.{eqb}
use lib.ListN.{length, take, length-map}
use Rattle.text.specs.Ascii.{is}
use Rattle.text.specs.Cells.{Cell}
use Rattle.text.specs.Writes.{Appends}
use Rattle.text.specs.Bounds.{text_most}
use Rattle.mark_tags.specs.Marks.{Kind, Items, end, text, mark, Slots, Written, shift, plain, ◌▹◌, content, Next, next, marked, State, start, Step, backslash, escape_last, touching, first_or, text_step, piece_text, mark_step, wrap, last_or, absent, write, span_numbers}
use Rattle.mark_tags.specs.Flat.{within, beyond, bound_at, slot_at, Fresh, kind_numbered, kinds_of, Held, Empty}
use Rattle.mark_pieces.specs.Spans.{marks_in, Writes, Slot, SlotWritten, mark_at, MarkWritten}
use Rattle.mark_writing.proofs.Slotting.{code, spelled, front-within, front-beyond, around-within, around-beyond, at-text, at-leave, at-gone, at_mark, at-end, no_text, some-text}
use Rattle.mark_writing.proofs.Drawing.{▹-assoc, plain-▹, ▹-plain, appends-if, writes-none, writes-plain, writes_then}

-- a backslash before the last byte goes by what the test says of that byte
escape-same : (f g : ℕ → Bool) (even : Bool) (d : ℕ) (p : List Cell) → f (last_or d p) ≡ g (last_or d p) → escape_last f even p ≡ escape_last g even p
unfolding escape_last last_or
escape-same f g even d [] e = refl
escape-same f g even d (c ∷ []) e = ap (λ (b : Bool). backslash (b && even) ++ (c ∷ [])) e
escape-same f g even d (c ∷ x ∷ p) e = ap (λ (l : List Cell). c ∷ l) (escape-same f g (not (eqb c.byte 92 && even)) c.byte (x ∷ p) e)

piece-same : (guarded m n : Bool) (p : List Cell) → touching m (last_or absent p) ≡ touching n (last_or absent p) → piece_text guarded m p ≡ piece_text guarded n p
unfolding piece_text
piece-same guarded m n p e = ap (λ (l : List Cell). backslash (guarded && is "}" (first_or absent p)) ++ l) (escape-same (touching m) (touching n) true absent p e)

pub text-step : (p : List Cell) (d : Cell) (r : List Cell) (n : Next) (st : State) → p ≡ d ∷ r
    → text_step p n st ≡ record { wrote = plain (piece_text st.guarded (marked n) p); state = record { before = last_or absent p; guarded = false } }
unfolding text_step
text-step p d r n st e = rw e

-- the step of a mark goes by what stands before it, and not by whether a `}` is guarded
mark-step : (k : Kind) (w : Written) (n : Next) (st : State) → mark_step true k w n st ≡ mark_step true k w n (record { before = st.before; guarded = false })
unfolding mark_step
mark-step k w n st = refl

mark-count : (k : Kind) (w : Written) (n : Next) (st st' : State) → length (mark_step true k w n st).wrote.spans ≡ length (mark_step true k w n st').wrote.spans
unfolding mark_step wrap
mark-count k w n st st' = ap suc (length-map w.spans _ ∙ sym (length-map w.spans _))

pub one_more : (k : Kind) (w : Written) (n : Next) (st : State) → length (mark_step true k w n st).wrote.spans ≡ suc (length w.spans)
unfolding mark_step wrap
one_more k w n st = ap suc (length-map w.spans _)

writes-if : {v v' : List Cell} {at at' : ℕ} {ss ss' : List ℕ} {c c' : ℕ} {w : Written} (w' : Written) → length v' ≡ length v → length w.spans ≡ length w'.spans → (at ≤ length v → w ≡ w')
    → Writes v at ss c v' at' ss' c' w → Writes v at ss c v' at' ss' c' w'
writes-if {v} {v'} {at} {at'} {ss} {ss'} {c} {c'} {w} w' l n e r = record {
  text = appends-if w'.cells l (λ h. ap (λ (u : Written). u.cells) (e h)) r.text;
  count = (let a = r.count in omega arith);
  spans = λ h q. (let g = r.text.grows in r.spans h q ∙ ap (λ (u : Written). take c ss ++ span_numbers (map (shift at) u.spans)) (e (omega arith)));
}

-- at item i of the slot that starts at `from`
pub record Drawing (src ns : List ℕ) (k from mask : ℕ) (v₀ : List Cell) (at₀ : ℕ) (ss₀ : List ℕ) (c₀ : ℕ) (v : List Cell) (to : ℕ) (ss : List ℕ) (c i before : ℕ) (guarded : Bool) : Type 0 where
  pub forward : from ≤ i
  pub up_to : i ≤ k
  pub fresh : Fresh (kinds_of mask) (within (slot_at src ns k i))
  pub few : c + 2 * marks_in (within (slot_at src ns k i)) ≤ text_most
  pub around-it : beyond (slot_at src ns k i) ≡ beyond (slot_at src ns k from)
  pub done : Written
  pub st : State
  pub wrote : Writes v₀ at₀ ss₀ c₀ v to ss c done
  pub is : write (within (slot_at src ns k from)) start ≡ done ▹ write (within (slot_at src ns k i)) st
  pub state : to ≤ length v → (before ≡ st.before) × (guarded ≡ st.guarded)
  pub small : before ≤ 256

pub drawing-start : (src ns : List ℕ) (k from mask : ℕ) (out org ss : List ℕ) (v : List Cell) (at c : ℕ) → Slot src ns k from mask out org c → Drawing src ns k from mask v at ss c v at ss c from 256 false
drawing-start src ns k from mask out org ss v at c s = record {
  forward = omega arith;
  up_to = s.up_to;
  fresh = s.fresh;
  few = s.few;
  around-it = refl;
  done = plain [];
  st = start;
  wrote = writes-none v at ss c;
  is = sym (plain-▹ (write (within (slot_at src ns k from)) start));
  state = λ h. (refl, refl);
  small = omega arith;
}

module _ (src ns : List ℕ) (k from mask : ℕ) (v₀ : List Cell) (at₀ : ℕ) (ss₀ : List ℕ) (c₀ : ℕ) (v : List Cell) (to : ℕ) (ss : List ℕ) (c i before : ℕ) (guarded : Bool)
    (m : Drawing src ns k from mask v₀ at₀ ss₀ c₀ v to ss c i before guarded) where
  -- the end of the slot
  finished : (item : ℕ) → i ≤ item → item ≤ k → within (slot_at src ns k i) ≡ end → slot_at src ns k item ≡ beyond (slot_at src ns k i) → SlotWritten src ns k from v₀ at₀ ss₀ c₀ v to ss c item
  unfolding write
  finished item h l e b =
      let f = m.forward in
      let z : write (within (slot_at src ns k from)) start ≡ m.done = m.is ∙ rw e (▹-plain m.done) in
      record {
        wrote = subst (Writes v₀ at₀ ss₀ c₀ v to ss c) (sym z) m.wrote;
        behind = b ∙ m.around-it;
        up_to = l;
        forward = omega arith;
      }

  pub drawn-end : k ≤ i → SlotWritten src ns k from v₀ at₀ ss₀ c₀ v to ss c i
  drawn-end h = let z = at-end src ns k i h in finished i (omega arith) m.up_to (ap within z) (z ∙ sym (ap beyond z))

  module _ (q : i < k) where
    pub drawn-leave : code src ns k i q ≡ 2 → SlotWritten src ns k from v₀ at₀ ss₀ c₀ v to ss c (i + 1)
    drawn-leave e = let z = at-leave src ns k i q e in finished (i + 1) (omega arith) (omega arith) (ap within z) (sym (ap beyond z))

    -- an item that writes nothing
    on : (j : ℕ) → i ≤ j → j ≤ k → ((s : State) → write (within (slot_at src ns k i)) s ≡ write (within (slot_at src ns k j)) s) → beyond (slot_at src ns k i) ≡ beyond (slot_at src ns k j)
        → Fresh (kinds_of mask) (within (slot_at src ns k j)) → marks_in (within (slot_at src ns k j)) ≤ marks_in (within (slot_at src ns k i)) → Drawing src ns k from mask v₀ at₀ ss₀ c₀ v to ss c j before guarded
    on j h l w b f g =
        let fw = m.forward in
        let rm = m.few in
        record {
          forward = omega arith;
          up_to = l;
          fresh = f;
          few = omega arith;
          around-it = sym b ∙ m.around-it;
          done = m.done;
          st = m.st;
          wrote = m.wrote;
          is = m.is ∙ ap (λ (u : Written). m.done ▹ u) (w m.st);
          state = m.state;
          small = m.small;
        }

    pub drawn-gone : (code src ns k i q ≡ 0 → ⊥) → (code src ns k i q ≡ 2 → ⊥) → code src ns k i q < 4 → Drawing src ns k from mask v₀ at₀ ss₀ c₀ v to ss c (i + 1) before guarded
    drawn-gone a b l =
        let z = at-gone src ns k i q a b l in
        on (i + 1) (omega arith) (omega arith) (λ s. ap (λ (o : Slots). write (within o) s) z) (ap beyond z) (subst (λ (o : Slots). Fresh (kinds_of mask) (within o)) z m.fresh) (let y = ap (λ (o : Slots). marks_in (within o)) z in omega arith)

    module _ (t : Held src ns k) (zero-code : code src ns k i q ≡ 0) where
      abbrev later : Items
      later = within (slot_at src ns k (i + 1))

      texted : within (slot_at src ns k i) ≡ text (spelled src ns k i q) later
      texted = ap within (at-text src ns k i q zero-code) ∙ front-within (text (spelled src ns k i q)) (slot_at src ns k (i + 1))

      texted-beyond : beyond (slot_at src ns k i) ≡ beyond (slot_at src ns k (i + 1))
      texted-beyond = ap beyond (at-text src ns k i q zero-code) ∙ front-beyond (text (spelled src ns k i q)) (slot_at src ns k (i + 1))

      pub fresh-later : Fresh (kinds_of mask) later
      fresh-later = subst (Fresh (kinds_of mask)) texted m.fresh

      marks-later : marks_in (within (slot_at src ns k i)) ≡ marks_in later
      unfolding marks_in
      marks-later = ap marks_in texted

      pub drawn-nothing : bound_at ns (length src) (i + 1) ≤ bound_at ns (length src) i → Drawing src ns k from mask v₀ at₀ ss₀ c₀ v to ss c (i + 1) before guarded
      unfolding write text_step
      drawn-nothing l =
          let e : within (slot_at src ns k i) ≡ text [] later = texted ∙ ap (λ (p : List Cell). text p later) (no_text src ns k i t q l) in
          on (i + 1) (omega arith) (omega arith) (λ s. ap (λ (u : Items). write u s) e ∙ plain-▹ (write later s)) texted-beyond fresh-later (let y = marks-later in omega arith)

      pub drawn-text : (v' : List Cell) (to' : ℕ) (touches : Bool) (before' : ℕ) → length v' ≡ length v → length v ≡ length v₀ → bound_at ns (length src) i < bound_at ns (length src) (i + 1)
          → touching touches before' ≡ touching (marked (next later)) before' → Appends v to v' to' (piece_text guarded touches (spelled src ns k i q)) → before' ≡ last_or absent (spelled src ns k i q) → before' ≤ 256
          → Drawing src ns k from mask v₀ at₀ ss₀ c₀ v' to' ss c (i + 1) before' false
      unfolding write text_step
      drawn-text v' to' touches before' lv lv₀ l n a eb sb =
          let s = some-text src ns k i t q l in
          let fw = m.forward in
          let rm = m.few in
          let y = marks-later in
          let step = text_step (spelled src ns k i q) (next later) m.st in
          let stepped : step ≡ record { wrote = plain (piece_text m.st.guarded (marked (next later)) (spelled src ns k i q)); state = record { before = last_or absent (spelled src ns k i q); guarded = false } } = text-step (spelled src ns k i q) _ _ (next later) m.st s in
          let a' : Appends v to v' to' (piece_text m.st.guarded (marked (next later)) (spelled src ns k i q)) =
          appends-if (piece_text m.st.guarded (marked (next later)) (spelled src ns k i q)) lv (λ h. ap (λ (g : Bool). piece_text g touches (spelled src ns k i q)) (m.state h).1 ∙ piece-same m.st.guarded touches (marked (next later)) (spelled src ns k i q) (subst (λ (b : ℕ). touching touches b ≡ touching (marked (next later)) b) eb n)) a in
          let wr : Writes v to ss c v' to' ss c step.wrote = subst (λ (u : Step). Writes v to ss c v' to' ss c u.wrote) (sym stepped) (writes-plain ss c (piece_text m.st.guarded (marked (next later)) (spelled src ns k i q)) a') in
          record {
            forward = omega arith;
            up_to = omega arith;
            fresh = fresh-later;
            few = omega arith;
            around-it = sym texted-beyond ∙ m.around-it;
            done = m.done ▹ step.wrote;
            st = step.state;
            wrote = writes_then lv₀ lv refl m.wrote wr;
            is = m.is ∙ ap (λ (u : Items). m.done ▹ write u m.st) texted ∙ sym (▹-assoc m.done step.wrote (write later step.state));
            state = λ h. rw stepped (eb, refl);
            small = sb;
          }

    module _ (four : 4 ≤ code src ns k i q) where
      abbrev kind : Kind
      kind = kind_numbered (code src ns k i q % 4)

      abbrev inner : Items
      inner = within (slot_at src ns k (i + 1))

      abbrev behind : Items
      behind = within (beyond (slot_at src ns k (i + 1)))

      marking : within (slot_at src ns k i) ≡ mark kind [] inner behind
      marking = ap within (at_mark src ns k i q four) ∙ around-within kind (slot_at src ns k (i + 1))

      marking-beyond : beyond (slot_at src ns k i) ≡ beyond (beyond (slot_at src ns k (i + 1)))
      marking-beyond = ap beyond (at_mark src ns k i q four) ∙ around-beyond kind (slot_at src ns k (i + 1))

      fresh-mark : Fresh (kinds_of mask) (mark kind [] inner behind)
      fresh-mark = subst (Fresh (kinds_of mask)) marking m.fresh

      marks-mark : marks_in (within (slot_at src ns k i)) ≡ suc (marks_in inner + marks_in behind)
      unfolding marks_in
      marks-mark = ap marks_in marking

      pub drawn-empty : (j : ℕ) → Empty src ns k (i + 1) j → Drawing src ns k from mask v₀ at₀ ss₀ c₀ v to ss c j before guarded
      unfolding write mark_step
      drawn-empty j e =
          let z : within (slot_at src ns k j) ≡ behind = ap within e.behind in
          let fw = e.forward in
          on j (omega arith) e.up_to (λ s. ap (λ (u : Items). write u s) marking ∙ rw (e.none, z) (plain-▹ (write behind s)))
          (marking-beyond ∙ sym (ap beyond e.behind)) (subst (Fresh (kinds_of mask)) (sym z) fresh-mark.2) (let y = marks-mark in let x = ap marks_in z in omega arith)

      pub drawn-mark : (v' : List Cell) (to' : ℕ) (ss' : List ℕ) (c' item before' : ℕ) (guarded' : Bool) → length v' ≡ length v → length v ≡ length v₀ → length ss' ≡ length ss → content inner ≡ true
          → length (write inner start).spans ≤ marks_in inner
          → MarkWritten src ns k i before v to ss c v' to' ss' c' item before' guarded' → Drawing src ns k from mask v₀ at₀ ss₀ c₀ v' to' ss' c' item before' guarded'
      unfolding write
      drawn-mark v' to' ss' c' item before' guarded' lv lv₀ ls e few w =
          let fw = m.forward in
          let ff = w.forward in
          let rm = m.few in
          let y = marks-mark in
          let z : within (slot_at src ns k item) ≡ behind = ap within w.behind in
          let x = ap marks_in z in
          let step = mark_step true kind (write inner start) (next behind) m.st in
          let there : (h : to ≤ length v) → mark_at src ns k i before ≡ step = λ h. ap (λ (b : ℕ). mark_step true kind (write inner start) (next behind) (record { before = b; guarded = false })) (m.state h).0 ∙ sym (mark-step kind (write inner start) (next behind) m.st) in
          let wr : Writes v to ss c v' to' ss' c' step.wrote = writes-if step.wrote lv (mark-count kind (write inner start) (next behind) _ m.st) (λ h. ap (λ (u : Step). u.wrote) (there h)) w.wrote in
          let n = one_more kind (write inner start) (next behind) m.st in
          let cn = wr.count in
          let cond-true : write (mark kind [] inner behind) m.st ≡ step.wrote ▹ write behind step.state = ap (λ (b : Bool). (mark_step b kind (write inner start) (next behind) m.st).wrote ▹ write behind (mark_step b kind (write inner start) (next behind) m.st).state) e in
          record {
            forward = omega arith;
            up_to = w.up_to;
            fresh = subst (Fresh (kinds_of mask)) (sym z) fresh-mark.2;
            few = omega arith;
            around-it = ap beyond w.behind ∙ sym marking-beyond ∙ m.around-it;
            done = m.done ▹ step.wrote;
            st = step.state;
            wrote = writes_then lv₀ lv ls m.wrote wr;
            is = m.is ∙ ap (λ (u : Items). m.done ▹ write u m.st) marking ∙ ap (λ (u : Written). m.done ▹ u) cond-true ∙ sym (▹-assoc m.done step.wrote (write behind step.state)) ∙ ap (λ (u : Items). (m.done ▹ step.wrote) ▹ write u step.state) (sym z);
            state = λ h. (let g = wr.text.grows in subst (λ (u : Step). (before' ≡ u.state.before) × (guarded' ≡ u.state.guarded)) (there (omega arith)) (w.state h));
            small = w.small;
          }
