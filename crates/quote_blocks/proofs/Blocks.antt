-- Laws of writing a quote's block. Assumes nothing.
use mathlib.Core.Path.{◌≡◌, refl, sym, ap, ◌∙◌}
use Prim.Native.Nat.{ℕ, ◌+◌, ◌≤◌, ◌<◌}
use native.Mathlib.Omega.{arith}
use native.Mathlib.Decide.{dec_le}
use mathlib.Core.Bool.{Bool, true, false}
use mathlib.Core.List.{List, [], ◌∷◌, ◌++◌, map, append-nil}
use lib.ListN.{length, take, length-append}
use lib.Seq.{length-take-le}
use Rattle.text.specs.Ascii.{ascii, computes as ascii_computes}
use Rattle.text.specs.Blanks.{computes as blanks_compute}
use Rattle.text.specs.Cells.{Cell, cell, part, written, feed, sign, cells_from, computes as cells_compute}
use Rattle.text.specs.Lines.{trim_start, trim_end, trim, all_blank, lines, followed, joined}
use Rattle.text.specs.Writes.{Holds, Appends}
use Rattle.text.proofs.Writing.{appends-then, part_end}
use Rattle.quote_blocks.specs.Quotes.{quoted_line, quoted_lines, caption_line, quote_block}

-- ---- a line

module _ {v v₁ : List Cell} {at at₁ : ℕ} {b : Bool} (l : List Cell) (p : Appends v at v₁ at₁ (sign 62 ∷ [])) (e : b ≡ all_blank l) where
  pub line-blank : b ≡ true → Appends v at v₁ at₁ (quoted_line l)
  unfolding quoted_line ascii_computes blanks_compute cells_compute
  line-blank t = rw (sym e ∙ t) p

  pub line_other : {v₂ v₃ : List Cell} {at₂ at₃ : ℕ} → b ≡ false → Appends v₁ at₁ v₂ at₂ (cell 32 1 ∷ []) → Appends v₂ at₂ v₃ at₃ l → Appends v at v₃ at₃ (quoted_line l)
  unfolding quoted_line ascii_computes blanks_compute cells_compute
  line_other t q r = rw (sym e ∙ t) (appends-then (appends-then p q) r)

-- ---- lines behind line feeds

abbrev pub more_lines : List Cell → List Cell
more_lines x = followed (map quoted_line (lines x))

pub more_turn : (x l y : List Cell) → lines x ≡ l ∷ lines y → more_lines x ≡ ((feed ∷ []) ++ quoted_line l) ++ more_lines y
unfolding followed
more_turn x l y e = rw e

pub more-end : (x : List Cell) (i e : ℕ) → e ≤ i → more_lines (part i e x) ≡ []
unfolding followed lines
more-end x i e h = rw (part_end i e x h)

-- ---- all lines

pub lines-first : {v v₁ v₂ : List Cell} {at at₁ at₂ : ℕ} (x l y : List Cell) → lines x ≡ l ∷ lines y → Appends v at v₁ at₁ (quoted_line l) → Appends v₁ at₁ v₂ at₂ (more_lines y) → Appends v at v₂ at₂ (quoted_lines (lines x))
unfolding quoted_lines joined
lines-first x l y e p q = rw e (appends-then p q)

pub lines_none : {v v' : List Cell} {at at' : ℕ} (x : List Cell) (i e : ℕ) → e ≤ i → Appends v at v' at' (sign 62 ∷ []) → Appends v at v' at' (quoted_lines (lines (part i e x)))
unfolding quoted_lines lines ascii_computes blanks_compute cells_compute
lines_none x i e h p = rw (part_end i e x h) p

-- ---- the quoted content

pub quoted-by : {v v₁ v₂ v₃ : List Cell} {at at₁ at₂ at₃ : ℕ} (x y z : List Cell) → y ≡ trim_start x → z ≡ trim_end y → Appends v at v₁ at₁ (feed ∷ []) → Appends v₁ at₁ v₂ at₂ (feed ∷ [])
    → Appends v₂ at₂ v₃ at₃ (quoted_lines (lines z)) → Appends v at v₃ at₃ (feed ∷ feed ∷ quoted_lines (lines (trim x)))
unfolding trim
quoted-by x y z p q a b c = rw (sym p, sym q) (appends-then (appends-then a b) c)

-- ---- the caption

-- what does not fit
pub past_end : (v : List Cell) (at far : ℕ) (t : List Cell) → length v < at + length t → length v < far → at ≤ far → Appends v at v far t
past_end v at far t short lt up = record {
  step = λ s h.
      let l = length-append s t in
      let no_room : length (s ++ t) ≤ length v → ⊥ = λ le. (let n = h.end (omega arith) in omega arith) in
      record { end = λ le. absurd (no_room le); text = λ le. absurd (no_room le); full = λ _. lt };
  keeps = refl;
  grows = up;
}

-- what has been appended does not count
pub taken_back : {v v' t : List Cell} {at at' : ℕ} → Appends v at v' at' t → length v' ≡ length v → Appends v at v' at []
taken_back a size = record {
  step = λ s h. rw append-nil (record { end = λ le. h.end (omega arith); text = λ le. a.keeps ∙ h.text (omega arith); full = λ lt. (let f = h.full (omega arith) in omega arith) });
  keeps = a.keeps;
  grows = omega arith;
}

-- how far a text went, from a place within
moved : {v v' t : List Cell} {at at' : ℕ} → Appends v at v' at' t → at ≤ length v → length v' ≡ length v → (at + length t ≤ length v → at' ≡ at + length t) × (length v < at + length t → length v < at')
moved {v} {v'} {t} {at} {at'} a fit size =
    let n : length (take at v) ≡ at = length-take-le at v fit in
    let l : length (take at v ++ t) ≡ at + length t = length-append (take at v) t ∙ ap (λ (k : ℕ). k + length t) n in
    let h : Holds v' at' (take at v ++ t) = a.step (take at v) (record { end = λ _. sym n; text = λ _. refl; full = λ lt. absurd (omega arith) }) in
    (λ le. h.end (omega arith) ∙ l, λ lt. (let f = h.full (omega arith) in omega arith))

-- so the place tells whether there was any
nothing-moved : {v v' t : List Cell} {at at' : ℕ} → Appends v at v' at' t → at ≤ length v → length v' ≡ length v → at' ≡ at → length t ≡ 0
nothing-moved {v} {v'} {t} {at} {at'} a fit size e = let m = moved a fit size in elim (dec_le (at + length t) (length v)) [ yes p ↦ (let q = m.0 p in omega arith) | no p ↦ absurd (let q = m.1 (omega arith) in omega arith) ]

something-moved : {v v' t : List Cell} {at at' : ℕ} → Appends v at v' at' t → at ≤ length v → length v' ≡ length v → (at' ≡ at → ⊥) → 0 < length t
something-moved {v} {v'} {t} {at} {at'} a fit size n = let m = moved a fit size in elim (dec_le (length t) 0) [ yes p ↦ absurd (n (let q = m.0 (omega arith) in omega arith)) | no p ↦ omega arith ]

line-none : (w : List ℕ) → length (written w) ≡ 0 → caption_line w ≡ []
unfolding caption_line written cells_from
line-none [] e = refl
line-none (b ∷ s) e = absurd (omega arith)

line-some : (w : List ℕ) → 0 < length (written w) → caption_line w ≡ written (ascii "\n^ ") ++ written w
unfolding caption_line written cells_from ascii_computes blanks_compute cells_compute
line-some [] h = absurd (omega arith)
line-some (b ∷ s) h = refl

module _ {v v₁ v₂ : List Cell} {at x z : ℕ} (w : List ℕ) (p : Appends v at v₁ x (written (ascii "\n^ "))) (size : length v₁ ≡ length v) (size₂ : length v₂ ≡ length v) where
  -- the caption behind LF `^ `
  module _ (q : Appends v₁ x v₂ z (written w)) (fit : x ≤ length v₁) where
    pub caption-none : z ≡ x → Appends v at v₂ at (caption_line w)
    caption-none e = rw (line-none w (nothing-moved q (omega arith) (omega arith) e)) (taken_back (appends-then p q) size₂)

    pub caption-some : (z ≡ x → ⊥) → Appends v at v₂ z (caption_line w)
    caption-some n = rw (line-some w (something-moved q (omega arith) (omega arith) n)) (appends-then p q)

  -- the caption in place of LF `^ `, which does not fit
  module _ (q : Appends v₁ at v₂ z (written w)) (far : length v₁ < x) where
    same : Appends v at v₂ at []
    same = taken_back (appends-then (taken_back p size) q) size₂

    pub tight-none : z ≡ at → Appends v at v₂ at (caption_line w)
    tight-none e = elim (dec_le at (length v)) [
      | yes fit ↦ rw (line-none w (nothing-moved q (omega arith) (omega arith) e)) same
      | no out ↦ appends-then same (past_end v₂ at at (caption_line w) (omega arith) (omega arith) (omega arith))
    ]

    pub tight-some : (z ≡ at → ⊥) → Appends v at v₂ x (caption_line w)
    tight-some n = elim (dec_le at (length v)) [
      | yes fit ↦ (let m = moved p fit size in let s = something-moved q (omega arith) (omega arith) n in let l = ap length (line-some w s) ∙ length-append (written (ascii "\n^ ")) (written w) in
          appends-then same (past_end v₂ at x (caption_line w) (elim (dec_le (at + length (written (ascii "\n^ "))) (length v)) [ yes k ↦ absurd (let e = m.0 k in omega arith) | no k ↦ omega arith ]) (omega arith) p.grows))
      | no out ↦ appends-then same (past_end v₂ at x (caption_line w) (omega arith) (omega arith) p.grows)
    ]

-- ---- the block

pub block-by : {v v₁ v₂ v₃ v₄ : List Cell} {at at₁ at₂ at₃ at₄ : ℕ} (words : List ℕ) (x : List Cell) → Appends v at v₁ at₁ (feed ∷ feed ∷ quoted_lines (lines (trim x))) → Appends v₁ at₁ v₂ at₂ (caption_line words)
    → Appends v₂ at₂ v₃ at₃ (feed ∷ []) → Appends v₃ at₃ v₄ at₄ (feed ∷ []) → Appends v at v₄ at₄ (quote_block words x)
unfolding quote_block
block-by words x p q r s = appends-then (appends-then p q) (appends-then r s)
