-- The whole pass over a text in work memory. Assumes nothing.
use mathlib.Core.Path.{◌≡◌, sym, ap, ◌∙◌, subst}
use mathlib.Core.List.{List}
use Prim.Native.Nat.{ℕ, ◌+◌, ◌-◌, ◌*◌, ◌≤◌}
use native.Mathlib.Omega.{arith}
use lib.ListN.{length, take, drop, length-drop}
use lib.Seq.{length-take-le}
use Rattle.text.specs.Bounds.{text_most}
use Rattle.text.specs.Cells.{cells, part}
use Rattle.text.specs.Writes.{cut}
use Rattle.text.specs.declared.writer.Writer.{Writer}
use Rattle.text.proofs.Sources.{cells-taken, cells-part, then, back_is, front-is}
use Rattle.mark_tags.specs.Marks.{marks}
use Rattle.mark_tags.specs.Flat.{Itemed}
use Rattle.mark_pieces.specs.Spans.{Writes, Slot, SlotWritten}
use Rattle.mark_pieces.specs.Behind.{area}
use Rattle.mark_writing.proofs.Inwards.{tail-is}
use Rattle.marks.specs.Passed.{MarksRoom, MarksWritten}
use Rattle.marks.proofs.Passing.{cells-take, pass-slot, pass-writes}

-- ys: the numbers from `base` on, with the items of the text
module _ (bs ns ys : List ℕ) (n base end k : ℕ) (room : MarksRoom n base end (length bs) (length ns)) (same : length ys ≡ length (cut base (length ns) ns))
    (t : Itemed (cut base (base + n) bs) (cut base (length ns) ns) ys k) where
  abbrev src : List ℕ
  src = cut base (base + n) bs

  pub le : base ≤ length ns
  le = let r = room.1.1.1 in omega (arith, r)

  size : length src ≡ n
  size =
      let d = length-drop base bs in
      let i = room.1.1.0 in
      let z : base + n - base ≡ n = omega arith in
      length-take-le (base + n - base) (drop base bs) (omega (arith, d, i)) ∙ z

  enough : 4 * length src + 4 ≤ length ys
  enough =
      let d = length-drop base ns in
      let e = ap length (tail-is ns base) in
      let r = room.1.1.1 in
      let s = size in
      omega (arith, d, e, r, s, same)

  small : length src ≤ text_most
  small = let s = size in let r = room.0.0 in omega (arith, s, r)

  -- the text's cells
  whole : cells src (cut base (length ns) ns) ≡ part base (base + n) (cells bs ns)
  whole =
      let s = size in
      let z : base + n - base ≡ length src = omega (arith, s) in
      ap (cells src) (tail-is ns base) ∙ cells-take src (drop base ns) ∙ ap (λ (j : ℕ). cells src (take j (drop base ns))) (sym z)
      ∙ cells-part bs ns base (base + n) (omega arith) room.1.1.0 (let r = room.1.1.1 in omega (arith, r))

  pub placed-slot : Slot src (drop base (then ns ys base le)) k 0 0 (take end bs) (take end (then ns ys base le)) 0
  placed-slot =
      let e = room.0.1 in
      let h = room.1.0.0 in
      let i = room.1.1.0 in
      let x = length-take-le end bs (omega (arith, h, i)) in
      let f = ap length (front-is ns ys base le end h) in
      let l = le in
      let y = length-take-le end ns (omega (arith, h, l)) in
      subst (λ (table : List ℕ). Slot src table k 0 0 (take end bs) (take end (then ns ys base le)) 0) (sym (back_is ns ys base le))
      (pass-slot src (cut base (length ns) ns) ys k small enough t (take end bs) (take end (then ns ys base le)) (omega (arith, x, e)) (omega (arith, x, f, y)))

  placed-writes : {ss ss' : List ℕ} {to c item : ℕ} (bs' ns' : List ℕ) → SlotWritten src (drop base (then ns ys base le)) k 0 (cells (take end bs) (take end (then ns ys base le))) 0 ss 0 (cells (take end bs') (take end ns')) to ss' c item
      → Writes (take end (cells bs ns)) 0 ss 0 (take end (cells bs' ns')) to ss' c (marks (part base (base + n) (cells bs ns)))
  placed-writes {ss} {ss'} {to} {c} {item} bs' ns' w =
      let h = room.1.0.0 in
      let w₁ : SlotWritten src ys k 0 (cells (take end bs) (take end (then ns ys base le))) 0 ss 0 (cells (take end bs') (take end ns')) to ss' c item =
      subst (λ (table : List ℕ). SlotWritten src table k 0 (cells (take end bs) (take end (then ns ys base le))) 0 ss 0 (cells (take end bs') (take end ns')) to ss' c item) (back_is ns ys base le) w in
      let v : cells (take end bs) (take end (then ns ys base le)) ≡ take end (cells bs ns) = ap (cells (take end bs)) (front-is ns ys base le end h) ∙ cells-taken end bs ns in
      rw (← v, ← cells-taken end bs' ns', ← whole) (pass-writes src (cut base (length ns) ns) ys k small enough t w₁)

  -- what the writer has left stands in the slices that it held
  pub placed-done : (w' : Writer) {ss ss' bs' ns' : List ℕ} {c item : ℕ} → bs' ≡ w'.bytes.now → ns' ≡ w'.numbers.now → w'.end ≡ end
      → SlotWritten src (drop base (then ns ys base le)) k 0 (cells (take end bs) (take end (then ns ys base le))) 0 ss 0 (area w') w'.at.0 ss' c item → drop end w'.bytes.now ≡ drop end bs
      → MarksWritten bs ns ss n base end bs' ns' w'.at.0 ss' c
  placed-done w' {ss} {ss'} {c = c} {item = item} e f g s d =
      rw (e, f) (record {
        wrote = placed-writes w'.bytes.now w'.numbers.now
            (subst (λ (z : ℕ). SlotWritten src (drop base (then ns ys base le)) k 0 (cells (take end bs) (take end (then ns ys base le))) 0 ss 0 (cells (take z w'.bytes.now) (take z w'.numbers.now)) w'.at.0 ss' c item) g s);
        bytes-behind = d;
      })
