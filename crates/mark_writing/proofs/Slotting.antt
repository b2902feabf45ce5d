-- Laws of the slots that held items stand for, and of the loops that look through a slot. Assumes nothing.
use mathlib.Core.Path.{◌≡◌, refl, ap, ◌∙◌}
use mathlib.Core.List.{List, [], ◌∷◌}
use Prim.Native.Nat.{ℕ, suc, ◌+◌, ◌-◌, ◌*◌, ◌%◌, ◌≤◌, ◌<◌}
use native.Mathlib.Omega.{arith}
use native.Mathlib.Numerals.{add-one}
use native.Mathlib.Decide.{dec_le}
use lib.ListN.{length, get_or}
use Rattle.text.specs.Cells.{Cell, cell, cells, part}
use Rattle.text.proofs.Writing.{part-cons, part_end}
use Rattle.mark_tags.specs.Marks.{Kind, Items, end, text, mark, Slots, open-end, closed, front}
use Rattle.mark_tags.specs.Flat.{Flat, piece, vanish, leave, enter, begun, around, view, within, beyond, flat_of, bound_at, flats, slots_at, held, slot_at, kind_numbered, Bounded, Held}
use Rattle.mark_items.proofs.Settling.{flat-leave, flat-gone, flat-enter, flat-begun, flat-code}
use Rattle.mark_items.proofs.Merging.{cons-flats, zero-piece}

-- ---- slots by their first item

slots-cons : (f : ℕ → Flat) (k j : ℕ) (a : Flat) → j < k → f j ≡ a → slots_at f k j ≡ view (a ∷ flats f (k - suc j) (suc j))
unfolding slots_at
slots-cons f k j a h e = rw (cons-flats f k j h, e)

slots-none : (f : ℕ → Flat) (k j : ℕ) → k ≤ j → slots_at f k j ≡ open-end end
unfolding slots_at flats view
slots-none f k j h = let z : k - j ≡ 0 = omega arith in rw z

pub front-within : (f : Items → Items) (o : Slots) → within (front f o) ≡ f (within o)
front-within f (open-end t) = refl
front-within f (closed t o) = refl

pub front-beyond : (f : Items → Items) (o : Slots) → beyond (front f o) ≡ beyond o
front-beyond f (open-end t) = refl
front-beyond f (closed t o) = refl

pub around-within : (k : Kind) (o : Slots) → within (around k [] o) ≡ mark k [] (within o) (within (beyond o))
around-within k (open-end t) = refl
around-within k (closed t (open-end u)) = refl
around-within k (closed t (closed u o)) = refl

pub around-beyond : (k : Kind) (o : Slots) → beyond (around k [] o) ≡ beyond (beyond o)
around-beyond k (open-end t) = refl
around-beyond k (closed t o) = front-beyond (mark k [] t) o

-- ---- held items by their codes

module _ (src ns : List ℕ) (k i : ℕ) (h : i < k) where
  abbrev pub code : ℕ
  code = get_or ns (2 * length src + 2 + i) 0

  abbrev pub spelled : List Cell
  spelled = part (bound_at ns (length src) i) (bound_at ns (length src) (i + 1)) (cells src ns)

  held-code : held src ns i ≡ flat_of code spelled
  unfolding held
  held-code = flat-code (cells src ns) ns (length src) i

  next-slot : slots_at (held src ns) k (suc i) ≡ slot_at src ns k (i + 1)
  next-slot = rw add-one

  pub at-text : code ≡ 0 → slot_at src ns k i ≡ front (text spelled) (slot_at src ns k (i + 1))
  unfolding view slots_at
  at-text e = slots-cons (held src ns) k i (piece spelled) h (held-code ∙ ap (λ (c : ℕ). flat_of c spelled) e ∙ zero-piece spelled) ∙ rw add-one

  pub at-leave : code ≡ 2 → slot_at src ns k i ≡ closed end (slot_at src ns k (i + 1))
  unfolding view slots_at
  at-leave e = slots-cons (held src ns) k i (leave spelled) h (held-code ∙ ap (λ (c : ℕ). flat_of c spelled) e ∙ flat-leave spelled) ∙ rw add-one

  pub at-gone : (code ≡ 0 → ⊥) → (code ≡ 2 → ⊥) → code < 4 → slot_at src ns k i ≡ slot_at src ns k (i + 1)
  unfolding view slots_at
  at-gone a b l = slots-cons (held src ns) k i (vanish spelled) h (held-code ∙ flat-gone code spelled a b l) ∙ rw add-one

  pub at_mark : 4 ≤ code → slot_at src ns k i ≡ around (kind_numbered (code % 4)) [] (slot_at src ns k (i + 1))
  unfolding view slots_at
  at_mark l = elim (dec_le 8 code) [
    | yes p ↦ slots-cons (held src ns) k i (begun (kind_numbered (code % 4)) spelled) h (held-code ∙ flat-begun code spelled p) ∙ rw add-one
    | no q ↦ slots-cons (held src ns) k i (enter (kind_numbered (code % 4)) spelled) h (held-code ∙ flat-enter code spelled l (omega arith)) ∙ rw add-one
  ]

pub at-end : (src ns : List ℕ) (k i : ℕ) → k ≤ i → slot_at src ns k i ≡ open-end end
at-end src ns k i h = slots-none (held src ns) k i h

-- ---- a text item is empty, or begins with a byte

module _ (src ns : List ℕ) (k i : ℕ) (t : Held src ns k) (h : i < k) where
  pub bounds : (bound_at ns (length src) i ≤ bound_at ns (length src) (i + 1)) × (bound_at ns (length src) (i + 1) ≤ length src)
  unfolding Bounded
  bounds = t.bounded i h

  pub no_text : bound_at ns (length src) (i + 1) ≤ bound_at ns (length src) i → spelled src ns k i h ≡ []
  no_text l = part_end (bound_at ns (length src) i) (bound_at ns (length src) (i + 1)) (cells src ns) l

  pub some-text : bound_at ns (length src) i < bound_at ns (length src) (i + 1)
      → spelled src ns k i h ≡ cell (get_or src (bound_at ns (length src) i) 0) (get_or ns (bound_at ns (length src) i) 0) ∷ part (bound_at ns (length src) i + 1) (bound_at ns (length src) (i + 1)) (cells src ns)
  some-text l = let b = bounds in let r = t.room in part-cons src ns (bound_at ns (length src) i) (bound_at ns (length src) (i + 1)) l b.1 (omega arith)
