-- Laws of the loops that look through a slot: whether it has content, and what is written next. Assumes nothing.
use mathlib.Core.Path.{◌≡◌, refl, sym, ap, ◌∙◌}
use mathlib.Core.List.{List, []}
use mathlib.Core.Bool.{true}
use Prim.Native.Nat.{ℕ, suc, ◌+◌, ◌-◌, ◌%◌, ◌≤◌, ◌<◌, max}
use native.Mathlib.Omega.{arith}
use lib.ListN.{length, get_or}
use Rattle.text.specs.Cells.{Cell}
use Rattle.mark_tags.specs.Marks.{Kind, text, mark, Slots, front, content, nothing, a_byte, a-mark, next}
use Rattle.mark_tags.specs.Flat.{within, beyond, depth_of, bound_at, slot_at, kind_numbered, Ready, Empty}
use Rattle.mark_writing.proofs.Slotting.{code, spelled, front-within, front-beyond, around-within, around-beyond, at-text, at-leave, at-gone, at_mark, at-end, no_text, some-text}

-- the loop at item i of the slot that starts at `at`
pub record Here (src ns : List ℕ) (k at depth i : ℕ) : Type 0 where
  pub forward : at ≤ i
  pub ready : Ready src ns k i depth
  pub same : content (within (slot_at src ns k i)) ≡ content (within (slot_at src ns k at))
  pub coming : next (within (slot_at src ns k i)) ≡ next (within (slot_at src ns k at))
  pub around-it : beyond (slot_at src ns k i) ≡ beyond (slot_at src ns k at)

pub here-start : (src ns : List ℕ) (k at depth : ℕ) → Ready src ns k at depth → Here src ns k at depth at
here-start src ns k at depth h = record { forward = omega arith; ready = h; same = refl; coming = refl; around-it = refl }

module _ (src ns : List ℕ) (k at depth i : ℕ) (h : Here src ns k at depth i) where
  pub look-end : k ≤ i → (Empty src ns k at i) × (next (within (slot_at src ns k at)) ≡ nothing)
  unfolding content next
  look-end q =
      let z = at-end src ns k i q in (
        record {
          none = sym h.same ∙ ap (λ (o : Slots). content (within o)) z;
          forward = h.forward;
          up_to = h.ready.up_to;
          behind = z ∙ sym (ap beyond z) ∙ h.around-it;
        },
        sym h.coming ∙ ap (λ (o : Slots). next (within o)) z,
      )

  module _ (q : i < k) where
    pub look-leave : code src ns k i q ≡ 2 → (Empty src ns k at (i + 1)) × (next (within (slot_at src ns k at)) ≡ nothing)
    unfolding content next
    look-leave e =
        let z = at-leave src ns k i q e in
        let f = h.forward in (
          record {
            none = sym h.same ∙ ap (λ (o : Slots). content (within o)) z;
            forward = omega arith;
            up_to = omega arith;
            behind = sym (ap beyond z) ∙ h.around-it;
          },
          sym h.coming ∙ ap (λ (o : Slots). next (within o)) z,
        )

    pub look-text : code src ns k i q ≡ 0 → bound_at ns (length src) i < bound_at ns (length src) (i + 1)
        → (content (within (slot_at src ns k at)) ≡ true) × (next (within (slot_at src ns k at)) ≡ a_byte (get_or src (bound_at ns (length src) i) 0))
    unfolding content next
    look-text e l =
        let z : within (slot_at src ns k i) ≡ text (spelled src ns k i q) (within (slot_at src ns k (i + 1))) = ap within (at-text src ns k i q e) ∙ front-within (text (spelled src ns k i q)) (slot_at src ns k (i + 1)) in
        let s = some-text src ns k i h.ready.table q l in
        let y = z ∙ ap (λ (p : List Cell). text p (within (slot_at src ns k (i + 1)))) s in
        (sym h.same ∙ ap content y, sym h.coming ∙ ap next y)

    -- an item that writes nothing
    on : within (slot_at src ns k i) ≡ within (slot_at src ns k (i + 1)) → beyond (slot_at src ns k i) ≡ beyond (slot_at src ns k (i + 1)) → Here src ns k at depth (i + 1)
    on a b =
        let f = h.forward in
        let d = h.ready.deep in
        record {
          forward = omega arith;
          ready = record { table = h.ready.table; up_to = omega arith; deep = rw a at d };
          same = sym (ap content a) ∙ h.same;
          coming = sym (ap next a) ∙ h.coming;
          around-it = sym b ∙ h.around-it;
        }

    pub look-gone : (code src ns k i q ≡ 0 → ⊥) → (code src ns k i q ≡ 2 → ⊥) → code src ns k i q < 4 → Here src ns k at depth (i + 1)
    look-gone a b l = let z = at-gone src ns k i q a b l in on (ap within z) (ap beyond z)

    pub look-nothing : code src ns k i q ≡ 0 → bound_at ns (length src) (i + 1) ≤ bound_at ns (length src) i → Here src ns k at depth (i + 1)
    unfolding content next depth_of
    look-nothing e l =
        let z : slot_at src ns k i ≡ front (text []) (slot_at src ns k (i + 1)) = at-text src ns k i q e ∙ ap (λ (p : List Cell). front (text p) (slot_at src ns k (i + 1))) (no_text src ns k i h.ready.table q l) in
        let y : within (slot_at src ns k i) ≡ text [] (within (slot_at src ns k (i + 1))) = ap within z ∙ front-within (text []) (slot_at src ns k (i + 1)) in
        let f = h.forward in
        let d : depth_of (text [] (within (slot_at src ns k (i + 1)))) ≤ depth = rw y at h.ready.deep in
        record {
          forward = omega arith;
          ready = record { table = h.ready.table; up_to = omega arith; deep = d };
          same = sym (ap content y) ∙ h.same;
          coming = sym (ap next y) ∙ h.coming;
          around-it = sym (ap beyond z ∙ front-beyond (text []) (slot_at src ns k (i + 1))) ∙ h.around-it;
        }

    -- a mark: what the test of its slot is asked, and what follows from the answer
    module _ (four : 4 ≤ code src ns k i q) where
      abbrev kind : Kind
      kind = kind_numbered (code src ns k i q % 4)

      marked : within (slot_at src ns k i) ≡ mark kind [] (within (slot_at src ns k (i + 1))) (within (beyond (slot_at src ns k (i + 1))))
      marked = ap within (at_mark src ns k i q four) ∙ around-within kind (slot_at src ns k (i + 1))

      deeper : max (suc (depth_of (within (slot_at src ns k (i + 1))))) (depth_of (within (beyond (slot_at src ns k (i + 1))))) ≤ depth
      unfolding depth_of
      deeper = rw marked at h.ready.deep

      pub mark-deep : 1 ≤ depth
      mark-deep = let g = deeper in omega arith

      pub mark-ready : Ready src ns k (i + 1) (depth - 1)
      mark-ready = let g = deeper in record { table = h.ready.table; up_to = omega arith; deep = omega arith }

      pub mark-some : content (within (slot_at src ns k (i + 1))) ≡ true → (content (within (slot_at src ns k at)) ≡ true) × (next (within (slot_at src ns k at)) ≡ a-mark)
      unfolding content next
      mark-some c = (sym h.same ∙ ap content marked ∙ rw c, sym h.coming ∙ ap next marked ∙ rw c)

      pub mark-empty : (j : ℕ) → Empty src ns k (i + 1) j → Here src ns k at depth j
      unfolding content next
      mark-empty j c =
          let g = deeper in
          let f = h.forward in
          let u = c.forward in
          record {
            forward = omega arith;
            ready = record { table = h.ready.table; up_to = c.up_to; deep = rw c.behind (omega arith) };
            same = ap (λ (o : Slots). content (within o)) c.behind ∙ sym (ap content marked ∙ rw c.none) ∙ h.same;
            coming = ap (λ (o : Slots). next (within o)) c.behind ∙ sym (ap next marked ∙ rw c.none) ∙ h.coming;
            around-it = ap beyond c.behind ∙ sym (ap beyond (at_mark src ns k i q four) ∙ around-beyond kind (slot_at src ns k (i + 1))) ∙ h.around-it;
          }
