-- Laws of a writer's area, of which nothing behind changes. Assumes nothing.
use mathlib.Core.Path.{◌≡◌, refl, sym, ap, subst, ◌∙◌}
use mathlib.Core.Bool.{Bool, true, false, ◌&&◌}
use mathlib.Core.List.{List}
use Prim.Native.Nat.{ℕ, ◌-◌, ◌≤◌, ◌<◌}
use native.Mathlib.Omega.{arith}
use lib.ListN.{length, take, drop, get_or}
use lib.Seq.{get_or-take, take-take, length-take-le}
use Rattle.text.specs.Ascii.{is}
use Rattle.text.specs.Cells.{Cell, sign}
use Rattle.text.specs.Writes.{Appends}
use Rattle.text.specs.Writers.{Wrote}
use Rattle.text.specs.declared.writer.Writer.{Writer}
use Rattle.text.proofs.Sources.{cells-taken}
use Rattle.text.proofs.Writers.{same-none, same-then}
use Rattle.mark_tags.specs.Marks.{braced, escape_last}
use Rattle.mark_tags.specs.Flat.{even_run, Inserts}
use Rattle.mark_pieces.specs.Behind.{Behind, area, Kept, Rewrote}
use Rattle.mark_pieces.proofs.Wrapping.{escape-yes, escape-no}

pub kept-none : (w : Writer) → Kept w w
kept-none w = record { behind = record { bytes = refl; numbers = refl }; same = same-none w }

pub kept-then : {w w₁ w₂ : Writer} → Kept w w₁ → Kept w₁ w₂ → Kept w w₂
kept-then {w} {w₁} {w₂} p q =
    let b = subst (λ (end : ℕ). Behind end w₁.bytes.now w₁.numbers.now w₂.bytes.now w₂.numbers.now) p.same.end q.behind in
    record { behind = record { bytes = b.bytes ∙ p.behind.bytes; numbers = b.numbers ∙ p.behind.numbers }; same = same-then p.same q.same }

pub wrote-kept : {w w' : Writer} {t : List Cell} → Wrote w w' t → Kept w w'
wrote-kept p = record { behind = record { bytes = p.text.bytes-behind; numbers = p.text.numbers-behind }; same = p.same }

pub wrote-area : {w w' : Writer} {t : List Cell} → Wrote w w' t → Appends (area w) w.at.0 (area w') w'.at.0 t
wrote-area {w} {w'} p =
    rw (p.same.end, cells-taken w.end w.bytes.now w.numbers.now, cells-taken w.end w'.bytes.now w'.numbers.now) p.text.appends

-- ---- what is read in the area

module _ (w : Writer) where
  pub area-size : length (take w.end w.bytes.now) ≡ w.end
  area-size = length-take-le w.end w.bytes.now w.bytes_reach

  pub area-wide : length (take w.end w.bytes.now) ≤ length (take w.end w.numbers.now)
  area-wide = let x = area-size in let y = length-take-le w.end w.numbers.now w.numbers_reach in omega (arith, x, y)

  -- src: the bytes of the pair
  module _ {src : List ℕ} (e : src ≡ w.bytes.now) where
    in-area : (j : ℕ) → j < w.end → get_or src j 0 ≡ get_or (take w.end w.bytes.now) j 0
    in-area j h = ap (λ (s : List ℕ). get_or s j 0) e ∙ sym (get_or-take w.end w.bytes.now j 0 h)

    pub form-in : {br : Bool} (d before next p at : ℕ) → p < at → at ≤ w.end → br ≡ braced d (get_or src p 0) (get_or src (at - 1) 0) before next
        → br ≡ braced d (get_or (take w.end w.bytes.now) p 0) (get_or (take w.end w.bytes.now) (at - 1) 0) before next
    form-in d before next p at h k f = let x = in-area p (omega arith) in let y = in-area (at - 1) (omega arith) in rw (x, y) at f

    module _ (p : ℕ) (lt : p < w.at.0) (fit : w.at.0 ≤ w.end) where
      run-in : even_run true (drop p (take (w.at.0 - 1) src)) ≡ even_run true (drop p (take (w.at.0 - 1) (take w.end w.bytes.now)))
      run-in = ap (λ (s : List ℕ). even_run true (drop p s)) (ap (take (w.at.0 - 1)) e ∙ sym (take-take (w.at.0 - 1) w.end w.bytes.now (omega arith)))

      pub brace-yes : {w' : Writer} → get_or src (w.at.0 - 1) 0 ≡ 123 → true ≡ even_run true (drop p (take (w.at.0 - 1) src)) → Inserts (area w) (w.at.0 - 1) w.at.0 (area w') w'.at.0 (sign 92) → Kept w w'
          → Rewrote (escape_last (is "{") true) p w w'
      brace-yes b r i k =
          let x = area-size in
          record {
            text = escape-yes (take w.end w.bytes.now) (take w.end w.numbers.now) p w.at.0 (w.at.0 - 1) lt (omega (arith, x, fit)) area-wide refl (sym (in-area (w.at.0 - 1) (omega arith)) ∙ b) (r ∙ run-in) i;
            kept = k;
          }

      pub brace-no : (is "{" (get_or src (w.at.0 - 1) 0) && even_run true (drop p (take (w.at.0 - 1) src))) ≡ false → Rewrote (escape_last (is "{") true) p w w
      brace-no b =
          let x = area-size in
          let y = in-area (w.at.0 - 1) (omega arith) in
          record {
            text = escape-no (take w.end w.bytes.now) (take w.end w.numbers.now) p w.at.0 (w.at.0 - 1) lt (omega (arith, x, fit)) area-wide refl (rw (← y, ← run-in) b);
            kept = kept-none w;
          }
