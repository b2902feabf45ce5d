-- Laws of writing a quote's block into the slices that its content and its attribution stand in. Assumes nothing.
use mathlib.Core.Path.{◌≡◌, sym, ap, ◌∙◌}
use Prim.Native.Nat.{ℕ, ◌+◌, ◌≤◌, ◌<◌}
use native.Mathlib.Omega.{arith}
use mathlib.Core.Bool.{Bool, false}
use mathlib.Core.List.{List, [], ◌∷◌, ◌++◌}
use lib.ListN.{length, take}
use Rattle.text.specs.Ascii.{ascii}
use Rattle.text.specs.Cells.{Cell, cell, cells, part, written, feed, sign}
use Rattle.text.specs.Lines.{trim_start, trim_end, trim, all_blank, lines}
use Rattle.text.specs.Writes.{AppendsIn}
use Rattle.text.proofs.Areas.{appends_in-then, appends_in-as, lifts, apart-before, apart-cells, area-length}
use Rattle.attribution_parts.specs.Attribution.{caption}
use Rattle.attribution.specs.declared.caption.Words.{Words}
use Rattle.attribution.specs.Spoken.{said, Spoken}
use Rattle.attribution.proofs.Speaking.{said-on, spoken-on}
use Rattle.quote_blocks.specs.Quotes.{quoted_line, quoted_lines, caption_line, quote_block}
use Rattle.quote_blocks.proofs.Blocks.{line_other, more_lines, more_turn, lines-first, quoted-by, taken_back, caption-none, caption-some, tight-none, tight-some, block-by}

-- ---- a part that stands before the place is the same when something has been appended

module _ {bs ns bs' ns' : List ℕ} {end at to : ℕ} {past : List Cell} (p : AppendsIn bs ns end at bs' ns' to past) where
  pub kept-part : (a e : ℕ) → e ≤ at → part a e (cells bs' ns') ≡ part a e (cells bs ns)
  kept-part a e h = apart-cells a e (apart-before h) p

  -- a line that is appended behind
  pub kept_line : {bs₂ ns₂ : List ℕ} {r : ℕ} (a e : ℕ) → e ≤ at → AppendsIn bs' ns' end to bs₂ ns₂ r (quoted_line (part a e (cells bs' ns'))) → AppendsIn bs' ns' end to bs₂ ns₂ r (quoted_line (part a e (cells bs ns)))
  kept_line a e h q = appends_in-as (ap quoted_line (kept-part a e h)) q

  -- the lines from i on, read in what stands there now
  pub kept-lines : (i j e : ℕ) → e ≤ at → j ≤ e → lines (part i e (cells bs' ns')) ≡ part i j (cells bs' ns') ∷ lines (part (j + 1) e (cells bs' ns'))
      → more_lines (part i e (cells bs ns)) ≡ ((feed ∷ []) ++ quoted_line (part i j (cells bs ns))) ++ more_lines (part (j + 1) e (cells bs ns))
  kept-lines i j e h k q =
      more_turn (part i e (cells bs ns)) (part i j (cells bs ns)) (part (j + 1) e (cells bs ns))
      (ap lines (sym (kept-part i e h)) ∙ q ∙ ap (λ (l : List Cell). l ∷ lines (part (j + 1) e (cells bs' ns'))) (kept-part i j (omega arith))
      ∙ ap (λ (y : List Cell). part i j (cells bs ns) ∷ lines y) (kept-part (j + 1) e h))

module _ {bs ns bs₁ ns₁ bs₂ ns₂ : List ℕ} {end at x y : ℕ} (a e : ℕ) (h : e ≤ at) where
  -- a line that is not blank
  pub line-other-in : {bs₃ ns₃ : List ℕ} {z : ℕ} {b : Bool} → b ≡ all_blank (part a e (cells bs ns)) → b ≡ false → AppendsIn bs ns end at bs₁ ns₁ x (sign 62 ∷ []) → AppendsIn bs₁ ns₁ end x bs₂ ns₂ y (cell 32 1 ∷ [])
      → AppendsIn bs₂ ns₂ end y bs₃ ns₃ z (part a e (cells bs₂ ns₂)) → AppendsIn bs ns end at bs₃ ns₃ z (quoted_line (part a e (cells bs ns)))
  line-other-in b f p q r =
      let t = appends_in-as (kept-part (appends_in-then p q) a e h) r in
      lifts (appends_in-then (appends_in-then p q) t) (line_other (part a e (cells bs ns)) p.appends b f q.appends t.appends)

  -- the first line, and the others from k on
  pub lines-first-in : (j k : ℕ) → lines (part a e (cells bs ns)) ≡ part a j (cells bs ns) ∷ lines (part k e (cells bs ns))
      → AppendsIn bs ns end at bs₁ ns₁ x (quoted_line (part a j (cells bs ns))) → AppendsIn bs₁ ns₁ end x bs₂ ns₂ y (more_lines (part k e (cells bs₁ ns₁)))
      → AppendsIn bs ns end at bs₂ ns₂ y (quoted_lines (lines (part a e (cells bs ns))))
  lines-first-in j k l p q =
      let t = appends_in-as (ap more_lines (kept-part p k e h)) q in
      lifts (appends_in-then p t) (lines-first (part a e (cells bs ns)) (part a j (cells bs ns)) (part k e (cells bs ns)) l p.appends t.appends)

  -- two line feeds, and the trimmed content, which stands from k up to l
  pub quoted-in : {bs₃ ns₃ : List ℕ} {z : ℕ} (k l : ℕ) → l ≤ e → part k e (cells bs ns) ≡ trim_start (part a e (cells bs ns)) → part k l (cells bs ns) ≡ trim_end (part k e (cells bs ns))
      → AppendsIn bs ns end at bs₁ ns₁ x (feed ∷ []) → AppendsIn bs₁ ns₁ end x bs₂ ns₂ y (feed ∷ []) → AppendsIn bs₂ ns₂ end y bs₃ ns₃ z (quoted_lines (lines (part k l (cells bs₂ ns₂))))
      → AppendsIn bs ns end at bs₃ ns₃ z (feed ∷ feed ∷ quoted_lines (lines (trim (part a e (cells bs ns)))))
  quoted-in k l le f g p q r =
      let t = appends_in-as (ap (λ (v : List Cell). quoted_lines (lines v)) (kept-part (appends_in-then p q) k l (omega arith))) r in
      lifts (appends_in-then (appends_in-then p q) t) (quoted-by (part a e (cells bs ns)) (part k e (cells bs ns)) (part k l (cells bs ns)) f g p.appends q.appends t.appends)

-- ---- the caption

area_same : (bs ns bs' ns' : List ℕ) (end : ℕ) → end ≤ length bs → end ≤ length ns → length bs' ≡ length bs → length ns' ≡ length ns → length (take end (cells bs' ns')) ≡ length (take end (cells bs ns))
area_same bs ns bs' ns' end hb hn sb sn = area-length bs' ns' end (omega (arith, sb, hb)) (omega (arith, sn, hn)) ∙ sym (area-length bs ns end hb hn)

module _ {bs ns bs₁ ns₁ : List ℕ} {end at x : ℕ} {w : Words} (hb : end ≤ length bs) (hn : end ≤ length ns) (sb : length bs₁ ≡ length bs) (sn : length ns₁ ≡ length ns)
    (h : Spoken bs at end w) (p : AppendsIn bs ns end at bs₁ ns₁ x (written (ascii "\n^ "))) where
  abbrev words : List ℕ
  words = caption (said w bs)

  size : length (take end (cells bs₁ ns₁)) ≡ length (take end (cells bs ns))
  size = area_same bs ns bs₁ ns₁ end hb hn sb sn

  back : AppendsIn bs ns end at bs₁ ns₁ at []
  back = lifts p (taken_back p.appends size)

  pub tight-spoken : Spoken bs₁ at end w
  tight-spoken = spoken-on back h sb

  pub next-spoken : Spoken bs₁ x end w
  next-spoken = spoken-on p h sb

  module _ {bs₂ ns₂ : List ℕ} {z : ℕ} (tb : length bs₂ ≡ length bs₁) (tn : length ns₂ ≡ length ns₁) where
    -- the caption behind LF `^ `
    module _ (q : AppendsIn bs₁ ns₁ end x bs₂ ns₂ z (written (caption (said w bs₁)))) (fit : x ≤ end) where
      second : AppendsIn bs₁ ns₁ end x bs₂ ns₂ z (written words)
      second = appends_in-as (ap (λ (s : List ℕ). written (caption s)) (said-on p h)) q

      within : x ≤ length (take end (cells bs₁ ns₁))
      within = let l = area-length bs₁ ns₁ end (omega (arith, sb, hb)) (omega (arith, sn, hn)) in omega (arith, l, fit)

      pub caption-none-in : z ≡ x → AppendsIn bs ns end at bs₂ ns₂ at (caption_line words)
      caption-none-in e = lifts (appends_in-then p second) (caption-none words p.appends size (area_same bs ns bs₂ ns₂ end hb hn (tb ∙ sb) (tn ∙ sn)) second.appends within e)

      pub caption-some-in : (z ≡ x → ⊥) → AppendsIn bs ns end at bs₂ ns₂ z (caption_line words)
      caption-some-in n = lifts (appends_in-then p second) (caption-some words p.appends size (area_same bs ns bs₂ ns₂ end hb hn (tb ∙ sb) (tn ∙ sn)) second.appends within n)

    -- the caption in place of LF `^ `, which does not fit
    module _ (q : AppendsIn bs₁ ns₁ end at bs₂ ns₂ z (written (caption (said w bs₁)))) (far : end < x) where
      other : AppendsIn bs₁ ns₁ end at bs₂ ns₂ z (written words)
      other = appends_in-as (ap (λ (s : List ℕ). written (caption s)) (said-on back h)) q

      beyond : length (take end (cells bs₁ ns₁)) < x
      beyond = let l = area-length bs₁ ns₁ end (omega (arith, sb, hb)) (omega (arith, sn, hn)) in omega (arith, l, far)

      pub tight-none-in : z ≡ at → AppendsIn bs ns end at bs₂ ns₂ at (caption_line words)
      tight-none-in e = lifts (appends_in-then back other) (tight-none words p.appends size (area_same bs ns bs₂ ns₂ end hb hn (tb ∙ sb) (tn ∙ sn)) other.appends beyond e)

      pub tight-some-in : (z ≡ at → ⊥) → AppendsIn bs ns end at bs₂ ns₂ x (caption_line words)
      tight-some-in n = lifts (appends_in-then back other) (tight-some words p.appends size (area_same bs ns bs₂ ns₂ end hb hn (tb ∙ sb) (tn ∙ sn)) other.appends beyond n)

-- ---- the block

pub block_in : {bs ns bs₁ ns₁ bs₂ ns₂ bs₃ ns₃ bs₄ ns₄ : List ℕ} {end at at₁ at₂ at₃ at₄ : ℕ} {w : Words} (x : List Cell) → Spoken bs at end w
    → AppendsIn bs ns end at bs₁ ns₁ at₁ (feed ∷ feed ∷ quoted_lines (lines (trim x))) → AppendsIn bs₁ ns₁ end at₁ bs₂ ns₂ at₂ (caption_line (caption (said w bs₁)))
    → AppendsIn bs₂ ns₂ end at₂ bs₃ ns₃ at₃ (feed ∷ []) → AppendsIn bs₃ ns₃ end at₃ bs₄ ns₄ at₄ (feed ∷ []) → AppendsIn bs ns end at bs₄ ns₄ at₄ (quote_block (caption (said w bs)) x)
block_in {bs} {w} x h p q r s =
    let t = appends_in-as (ap (λ (y : List ℕ). caption_line (caption y)) (said-on p h)) q in
    lifts (appends_in-then (appends_in-then p t) (appends_in-then r s)) (block-by (caption (said w bs)) x p.appends t.appends r.appends s.appends)
