-- A mark in a writer's area, from its opening delimiter to its end: the text and its items stand behind the area all the while. Assumes nothing.
use native.Mathlib.Omega.{arith}
use mathlib.Core.Path.{◌≡◌, sym, ap, ◌∙◌}
use mathlib.Core.List.{List, [], ◌∷◌}
use mathlib.Core.Bool.{Bool}
use Prim.Native.Nat.{ℕ, ◌+◌, ◌-◌, ◌*◌, ◌%◌, ◌<◌}
use lib.ListN.{length, take, get_or}
use lib.Bits.{bit_or}
use lib.Count.{ones}
use Rattle.text.specs.Cells.{sign}
use Rattle.text.specs.Writers.{Wrote}
use Rattle.text.specs.declared.writer.Writer.{Writer}
use Rattle.mark_tags.specs.Marks.{delimiter}
use Rattle.mark_tags.specs.Flat.{kind_numbered, bit_of}
use Rattle.mark_pieces.specs.Spans.{SlotWritten, MarkWritten}
use Rattle.mark_pieces.specs.Behind.{area, Kept}
use Rattle.mark_pieces.proofs.Areal.{kept-then, wrote-kept, wrote-area}
use Rattle.mark_writing.specs.Bodied.{Bodied}
use Rattle.mark_writing.specs.Laid.{source, table, Lies, HeldIn, MarkAsked, SlotAsked}
use Rattle.mark_writing.specs.declared.slot.Layout.{Layout}
use Rattle.mark_writing.proofs.SlotAsking.{mark-slot, mark-falls}
use Rattle.mark_writing.proofs.MarkWriting.{bodied}
use Rattle.mark_writing.proofs.Inwards.{same_source, same-table, bytes_same, numbers_same, source-size, lies-on, code-as, held-as, slot-as, mark-ready-as, slot-written-as, mark-written-as}

module _ {w w₁ : Writer} {i mask before c d kind : ℕ} (x : Layout) (m : MarkAsked x w i mask before c)
    (is : kind ≡ get_or (table x w.numbers.now) (2 * x.size + 2 + i) 0 % 4) (delimits : d ≡ delimiter (kind_numbered kind)) (opened : Wrote w w₁ (sign d ∷ [])) where
  first : Kept w w₁
  first = wrote-kept opened

  source-kept : source x w₁.bytes.now ≡ source x w.bytes.now
  source-kept = same_source x m.1.behind first

  table-kept : table x w₁.numbers.now ≡ table x w.numbers.now
  table-kept = same-table x m.1.behind first

  kind-is : kind ≡ get_or (table x w.numbers.now) (2 * length (source x w.bytes.now) + 2 + i) 0 % 4
  kind-is = is ∙ ap (λ (j : ℕ). get_or (table x w.numbers.now) (2 * j + 2 + i) 0 % 4) (sym (source-size x w m.1))

  -- once the opening delimiter is written
  pub opened-held : HeldIn x w₁
  opened-held = (held-as (sym source-kept) (sym table-kept) m.0.slot.table, lies-on m.1 first)

  pub slot-asked : {bit : ℕ} → bit ≡ bit_of kind → SlotAsked x w₁ (i + 1) (bit_or mask bit) (c + 2)
  slot-asked e = (slot-as (sym source-kept) (sym table-kept) (mark-slot m.0 _ _ _ (e ∙ ap bit_of kind-is) (bytes_same first) (numbers_same first)), lies-on m.1 first)

  pub slot-falls : {bit : ℕ} → bit ≡ bit_of kind → 2 * (4 - ones (bit_or mask bit)) + 1 < 2 * (4 - ones mask)
  slot-falls {bit} e = let f = mark-falls m.0 bit (e ∙ ap bit_of kind-is) in omega arith

  -- once its body is
  module _ {w₂ : Writer} {ss ss₂ : List ℕ} {listed item : ℕ} (ls : length ss₂ ≡ length ss)
      (body : SlotWritten (source x w₁.bytes.now) (table x w₁.numbers.now) x.items (i + 1) (area w₁) w₁.at.0 ss (c + 2) (area w₂) w₂.at.0 ss₂ listed item) (second : Kept w₁ w₂) where
    both : Kept w w₂
    both = kept-then first second

    abbrev body-in : Bodied (source x w₂.bytes.now) (table x w₂.numbers.now) x.items mask before d w.at.0 (take w₂.end w₂.bytes.now) (take w₂.end w₂.numbers.now) w₂.at.0 ss₂ c listed item
    body-in =
        let zs = sym (same_source x m.1.behind both) in
        let zt = sym (same-table x m.1.behind both) in
        let h₁ = lies-on m.1 first in
        bodied _ _ (mark-ready-as zs zt m.0) (delimits ∙ ap (λ (j : ℕ). delimiter (kind_numbered j)) (kind-is ∙ ap (λ (j : ℕ). j % 4) (code-as i zs zt))) (bytes_same first) (numbers_same first)
        (bytes_same second) (numbers_same second) ls (wrote-area opened)
        (slot-written-as (sym (same_source x h₁.behind second)) (sym (same-table x h₁.behind second)) body)

    pub body-asked : Bodied (source x w₂.bytes.now) (table x w₂.numbers.now) x.items mask before d w.at.0 (take w₂.end w₂.bytes.now) (take w₂.end w₂.numbers.now) w₂.at.0 ss₂ c listed item × Lies x w₂
    body-asked = (body-in, lies-on m.1 both)

    -- once it is ended
    pub mark-done : {w₃ : Writer} {ss₃ : List ℕ} {c₃ item₃ before₃ : ℕ} {guarded₃ : Bool}
        → (
        (b : Bodied (source x w₂.bytes.now) (table x w₂.numbers.now) x.items mask before d w.at.0 (take w₂.end w₂.bytes.now) (take w₂.end w₂.numbers.now) w₂.at.0 ss₂ c listed item)
        → MarkWritten (source x w₂.bytes.now) (table x w₂.numbers.now) x.items b.i before b.v w.at.0 b.spans c (area w₃) w₃.at.0 ss₃ c₃ item₃ before₃ guarded₃
        ) × Kept w₂ w₃
        → MarkWritten (source x w.bytes.now) (table x w.numbers.now) x.items i before (area w) w.at.0 ss c (area w₃) w₃.at.0 ss₃ c₃ item₃ before₃ guarded₃ × Kept w w₃
    mark-done q = (mark-written-as (same_source x m.1.behind both) (same-table x m.1.behind both) (q.0 body-in), kept-then both q.1)
