-- The whole pass over a text: what its items write is what the definition gives. Assumes nothing.
use mathlib.Core.Path.{◌≡◌, refl, sym, ap, ◌∙◌, subst}
use mathlib.Core.List.{List, [], ◌∷◌}
use Prim.Native.Nat.{ℕ, ◌+◌, ◌*◌, ◌≤◌}
use native.Mathlib.Nat.{sub-zero}
use native.Mathlib.Omega.{arith}
use lib.ListN.{length, take}
use lib.Seq.{take_all}
use Rattle.text.specs.Bounds.{text_most, out_most}
use Rattle.text.specs.Cells.{Cell, cell, cells, bytes}
use Rattle.text.specs.Writes.{Holds}
use Rattle.text.proofs.Writing.{cells-short}
use Rattle.text.proofs.Clearing.{cells-bytes}
use Rattle.mark_tags.specs.Marks as Marks
use Rattle.mark_tags.specs.Marks.{Items, end, text, gone, mark, Written, start, write, marks, merge, no-kinds, items}
use Rattle.mark_tags.specs.Flat.{view, within, flat_marks, slots_at, held, slot_at, kinds_of, Itemed}
use Rattle.mark_pieces.specs.Spans.{marks_in, Writes, Slot, SlotWritten}
use Rattle.marks.proofs.Counting.{marks-third}
use Rattle.marks.proofs.Flattening.{bare, view-marks, fresh-view, written-view}

marks-bare : (t : Items) → marks_in (bare t) ≡ marks_in t
unfolding bare marks_in
marks-bare end = refl
marks-bare (text p t) = marks-bare t
marks-bare (gone s t) = marks-bare t
marks-bare (mark k s a t) = omega (arith, marks-bare a, marks-bare t)

pub cells-take : (bs ns : List ℕ) → cells bs ns ≡ cells bs (take (length bs) ns)
unfolding cells
cells-take [] ns = refl
cells-take (b ∷ bs) [] = refl
cells-take (b ∷ bs) (x ∷ ns) = ap (λ (l : List Cell). cell b x ∷ l) (cells-take bs ns)

bytes-cells : (bs ns : List ℕ) → length bs ≤ length ns → bytes (cells bs ns) ≡ bs
bytes-cells bs ns h = let l = cells-short bs ns in ap bytes (sym (take_all (length bs) (cells bs ns) l)) ∙ cells-bytes (length bs) bs ns (omega arith) h ∙ take_all (length bs) bs (omega arith)

-- src: the bytes of a text; ns₁: its codes; ns₂: these and its items
module _ (src ns₁ ns₂ : List ℕ) (k : ℕ) (small : length src ≤ text_most) (room : 4 * length src + 4 ≤ length ns₂) (t : Itemed src ns₁ ns₂ k) where
  source : cells src ns₂ ≡ cells src ns₁
  source = cells-take src ns₂ ∙ ap (cells src) t.source ∙ sym (cells-take src ns₁)

  slot : slot_at src ns₂ k 0 ≡ view (flat_marks (cells src ns₁))
  unfolding slots_at held
  slot = rw (sub-zero k) (ap view (t.items (cells src ns₂) (bytes-cells src ns₂ (omega arith)))) ∙ ap (λ (x : List Cell). view (flat_marks x)) source

  pub pass-slot : (out org : List ℕ) → length out ≤ out_most → length out ≤ length org → Slot src ns₂ k 0 0 out org 0
  unfolding kinds_of
  pass-slot out org a b =
      let m : marks_in (within (slot_at src ns₂ k 0)) ≡ marks_in (merge no-kinds (items (cells src ns₁))) = rw (slot, view-marks (cells src ns₁)) (marks-bare (merge no-kinds (items (cells src ns₁)))) in
      let third = marks-third (cells src ns₁) in
      let long = cells-short src ns₁ in
      record {
        table = record { small = small; room = room; few = t.few; bounded = t.bounded };
        up_to = omega arith;
        small = omega arith;
        fresh = rw slot (fresh-view (cells src ns₁));
        short = a;
        wide = b;
        few = omega arith;
      }

  pub pass-writes : {v : List Cell} {ss : List ℕ} {v' : List Cell} {to : ℕ} {ss' : List ℕ} {c item : ℕ} → SlotWritten src ns₂ k 0 v 0 ss 0 v' to ss' c item → Writes v 0 ss 0 v' to ss' c (marks (cells src ns₁))
  pass-writes {v} {ss} {v'} {to} {ss'} {c} w =
      subst (Writes v 0 ss 0 v' to ss' c) (ap (λ (o : Marks.Slots). write (within o) start) slot ∙ written-view (cells src ns₁)) w.wrote

-- what a text that begins at place 0 holds
pub pass-held : {v v' : List Cell} {ss ss' : List ℕ} {to c : ℕ} {w : Written} → Writes v 0 ss 0 v' to ss' c w → Holds v' to w.cells
pass-held {v} w = w.text.step [] (record { end = λ h. refl; text = λ h. refl; full = λ h. absurd (omega arith) })
