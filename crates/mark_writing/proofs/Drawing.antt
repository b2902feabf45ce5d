-- Laws of writing a slot: texts and their spans one behind the other. Assumes nothing.
use mathlib.Core.Path.{◌≡◌, refl, sym, ap, ◌∙◌, subst}
use mathlib.Core.List.{List, [], ◌∷◌, ◌++◌, append_assoc, append-nil, map, map-append}
use Prim.Native.Nat.{ℕ, ◌+◌, ◌≤◌, ◌<◌}
use native.Mathlib.Nat.{add_assoc, zero-add}
use native.Mathlib.Omega.{arith}
use native.Mathlib.Decide.{dec_le}
use lib.ListN.{length, take, length-append, length-map}
use lib.Seq.{length-take-le}
use Rattle.text.specs.Cells.{Cell}
use Rattle.text.specs.Writes.{Holds, Appends}
use Rattle.text.proofs.Writing.{holds_fits, appends-none, appends-then}
use Rattle.mark_tags.specs.Marks.{Span, Written, shift, plain, ◌▹◌, span_numbers}
use Rattle.mark_pieces.specs.Spans.{Writes}

-- ---- texts behind one another

pub shift-shift : (m n : ℕ) (l : List Span) → map (shift m) (map (shift n) l) ≡ map (shift (m + n)) l
shift-shift m n [] = refl
shift-shift m n (s ∷ l) = rw (add_assoc m n s.from, add_assoc m n s.to) (ap (λ (r : List Span). shift m (shift n s) ∷ r) (shift-shift m n l))

pub shift_zero : (l : List Span) → map (shift 0) l ≡ l
shift_zero [] = refl
shift_zero (s ∷ l) = rw (zero-add s.from, zero-add s.to, shift_zero l)

pub ▹-assoc : (u v w : Written) → (u ▹ v) ▹ w ≡ u ▹ (v ▹ w)
▹-assoc u v w =
    let p : (u.cells ++ v.cells) ++ w.cells ≡ u.cells ++ (v.cells ++ w.cells) = append_assoc u.cells v.cells w.cells in
    let q : (u.spans ++ map (shift (length u.cells)) v.spans) ++ map (shift (length (u.cells ++ v.cells))) w.spans
    ≡ u.spans ++ map (shift (length u.cells)) (v.spans ++ map (shift (length v.cells)) w.spans)
    = rw (length-append u.cells v.cells, map-append (shift (length u.cells)) v.spans (map (shift (length v.cells)) w.spans), shift-shift (length u.cells) (length v.cells) w.spans) (append_assoc u.spans _ _) in
    λ i. record { cells = p i; spans = q i }

pub plain-▹ : (w : Written) → plain [] ▹ w ≡ w
plain-▹ w = λ i. record { cells = w.cells; spans = shift_zero w.spans i }

pub ▹-plain : (w : Written) → w ▹ plain [] ≡ w
▹-plain w = λ i. record { cells = append-nil w.cells i; spans = append-nil w.spans i }

numbers-append : (l r : List Span) → span_numbers (l ++ r) ≡ span_numbers l ++ span_numbers r
unfolding span_numbers
numbers-append [] r = refl
numbers-append (s ∷ l) r = ap (λ (n : List ℕ). s.from ∷ s.to ∷ n) (numbers-append l r)

-- ---- what has been appended, where it fits

pub appends-end : {v v' t : List Cell} {at at' : ℕ} → Appends v at v' at' t → at' ≤ length v' → length v' ≡ length v → (at' ≡ at + length t) × (take at' v' ≡ take at v ++ t)
appends-end {v} {v'} {t} {at} {at'} a h l =
    let g = a.grows in
    let n = length-take-le at v (omega arith) in
    let held : Holds v at (take at v) = record { end = λ k. sym n; text = λ k. refl; full = λ k. absurd (omega arith) } in
    let held' = a.step (take at v) held in
    let fits = holds_fits v' at' (take at v ++ t) held' h in
    let m = length-append (take at v) t in
    let e = held'.end fits in
    (omega arith, held'.text fits)

-- past the end anything can be said to have been appended
pub appends-if : {v v' t : List Cell} {at at' : ℕ} (t' : List Cell) → length v' ≡ length v → (at ≤ length v → t ≡ t') → Appends v at v' at' t → Appends v at v' at' t'
appends-if {v} {v'} {t} {at} {at'} t' l e a = elim (dec_le at (length v)) [
  | yes p ↦ subst (Appends v at v' at') (e p) a
  | no q ↦ let g = a.grows in record {
    step = λ s h.
        let far : length v < length s = elim (dec_le (length s) (length v)) [ yes r ↦ absurd (let z = h.end r in omega arith) | no r ↦ omega arith ] in
        let m = length-append s t' in
        record { end = λ k. absurd (omega arith); text = λ k. absurd (omega arith); full = λ k. omega arith };
    keeps = a.keeps;
    grows = a.grows;
  }
]

pub writes-none : (v : List Cell) (at : ℕ) (ss : List ℕ) (c : ℕ) → Writes v at ss c v at ss c (plain [])
unfolding span_numbers
writes-none v at ss c = record { text = appends-none v at; count = omega arith; spans = λ h r. sym (append-nil (take c ss)) }

pub writes-plain : {v v' : List Cell} {at at' : ℕ} (ss : List ℕ) (c : ℕ) (p : List Cell) → Appends v at v' at' p → Writes v at ss c v' at' ss c (plain p)
unfolding span_numbers
writes-plain ss c p a = record { text = a; count = omega arith; spans = λ h r. sym (append-nil (take c ss)) }

pub writes_then : {v v₁ v₂ : List Cell} {at at₁ at₂ : ℕ} {ss ss₁ ss₂ : List ℕ} {c c₁ c₂ : ℕ} {w w' : Written} → length v₁ ≡ length v → length v₂ ≡ length v₁ → length ss₂ ≡ length ss₁
    → Writes v at ss c v₁ at₁ ss₁ c₁ w → Writes v₁ at₁ ss₁ c₁ v₂ at₂ ss₂ c₂ w' → Writes v at ss c v₂ at₂ ss₂ c₂ (w ▹ w')
writes_then {v} {v₁} {v₂} {at} {at₁} {at₂} {ss} {ss₁} {ss₂} {c} {c₁} {c₂} {w} {w'} l₁ l₂ ls p q = record {
  text = appends-then p.text q.text;
  count =
      (let a = p.count in
      let b = q.count in
      let m = length-append w.spans (map (shift (length w.cells)) w'.spans) in
      let n = length-map w'.spans (shift (length w.cells)) in
      omega arith);
  spans = λ h r.
      let g = q.text.grows in
      let n = q.count in
      let e = (appends-end p.text (omega arith) l₁).0 in
      q.spans h r ∙ rw (p.spans (omega arith) (omega arith), e, map-append (shift at) w.spans (map (shift (length w.cells)) w'.spans), shift-shift at (length w.cells) w'.spans, numbers-append (map (shift at) w.spans) (map (shift (at + length w.cells)) w'.spans))
      (append_assoc (take c ss) (span_numbers (map (shift at) w.spans)) (span_numbers (map (shift (at + length w.cells)) w'.spans)));
}
