-- Laws of an attribution in work memory: where it stands in the text, and its joined texts behind the area. Assumes nothing.
use mathlib.Core.Path.{◌≡◌, refl, sym, ap, ◌∙◌}
use Prim.Native.Nat.{ℕ, suc, ◌+◌, ◌-◌, ◌≤◌, ◌<◌}
use native.Mathlib.Omega.{arith}
use mathlib.Core.List.{List, [], ◌∷◌}
use lib.ListN.{length, take, drop, length-append}
use lib.Seq.{take-take, take-length}
use Rattle.text.specs.Cells.{Cell, cells, part, written, cells_from, more_after}
use Rattle.text.specs.Writes.{Appends, AppendsIn}
use Rattle.text.proofs.Areas.{area-length}
use Rattle.attribution_reading.specs.Places.{bytes}
use Rattle.attribution_parts.specs.Attribution.{caption}
use Rattle.attribution_losses.specs.Captions.{name_texts}
use Rattle.attribution_losses.specs.Lists.{Puts}
use Rattle.attribution.proofs.Fitting.{texts-within-caption}
use Rattle.attribution.proofs.Speaking.{joined-there}
use Rattle.quote_tags.specs.Tags.{opener_size, attribution_of}
use Rattle.quote_tags.proofs.Tagging.{part-before, opener-within, attribution-none, attribution-at}
use Rattle.quote_blocks.specs.Quotes.{caption_line, quote_block}
use Rattle.quote_blocks.proofs.Blocks.{past_end}
use Rattle.quote_steps.specs.Passes.{BuiltIn}
use Rattle.quote_steps.proofs.Passing.{cells-front}
use Rattle.quote_steps.proofs.Within.{built-behind}

-- ---- where it stands

module _ (s : List ℕ) (t k : ℕ) (h : t ≤ length s) (ek : k ≡ opener_size (drop t s)) where
  whole : take (length s) s ≡ s
  whole = take-length s

  read : k ≡ opener_size (drop t (take (length s) s))
  read = rw whole ek

  pub opener-inside : t + k ≤ length s
  opener-inside = opener-within s t (length s) k h (omega arith) read

  pub attribution-missing : k < 9 → take (t - t) (drop t s) ≡ attribution_of (drop t s)
  attribution-missing lt =
      let z : t - t ≡ 0 = omega arith in
      let q : [] ≡ attribution_of (drop t (take (length s) s)) = attribution-none s t (length s) k h (omega arith) read lt in
      rw z (q ∙ ap (λ (l : List ℕ). attribution_of (drop t l)) whole)

  pub attribution-there : 9 ≤ k → take (t + k - 1 - (t + 7)) (drop (t + 7) s) ≡ attribution_of (drop t s)
  attribution-there le = attribution-at s t (length s) k h (omega arith) read le ∙ ap (λ (l : List ℕ). attribution_of (drop t l)) whole

-- ---- what has been put behind it

-- what stands before it is kept
front_kept : {v v' : List ℕ} {end j : ℕ} {t : List ℕ} → Puts v end v' j t → (a n : ℕ) → a + n ≤ end → take n (drop a v') ≡ take n (drop a v)
front_kept {v} {v'} {end} p a n h = sym (part-before a n end v' h) ∙ ap (λ (l : List ℕ). take n (drop a l)) p.keeps ∙ part-before a n end v h

-- ---- the block

length_from : (o more : ℕ) (s : List ℕ) → length (cells_from (λ p. p) o more s) ≡ length s
unfolding cells_from
length_from o more [] = refl
length_from o more (b ∷ s) = ap suc (length_from o (more_after more (b ∷ s)) s)

caption-inside : (w : List ℕ) (x : List Cell) → length w ≤ length (quote_block w x)
unfolding quote_block caption_line written
caption-inside [] x = omega arith
caption-inside (b ∷ s) x = let l = length_from 0 0 (b ∷ s) in simp length-append (omega (arith, l))

-- v is the work memory before, v' behind putting the joined texts; the attribution of the opener at `tag` stands from a up to b
module _ (v : List ℕ) {v' : List ℕ} (e end tag a b : ℕ) {j : ℕ} (ha : a ≤ b) (hb : b ≤ e) (he : e ≤ end) (hv : end ≤ length v)
    (r : take (b - a) (drop a (take e v)) ≡ attribution_of (drop tag (take e v))) (p : Puts v end v' j (name_texts (bytes v a (b - a)))) where
  kept : take (b - a) (drop a v') ≡ take (b - a) (drop a v)
  kept = front_kept p a (b - a) (omega arith)

  here : take (b - a) (drop a v) ≡ attribution_of (drop tag (take e v))
  here = sym (part-before a (b - a) e v (omega arith)) ∙ r

  pub joined_is : j ≤ length v → take (j - end) (drop end v') ≡ name_texts (take (b - a) (drop a v'))
  unfolding bytes
  joined_is fit = joined-there p hv fit ∙ ap name_texts (sym kept)

  block-joined : (ns : List ℕ) (begin to : ℕ) → to ≤ end → {w w' : List Cell} {at n : ℕ}
      → Appends w at w' n (quote_block (caption (take (b - a) (drop a v'))) (part begin to (cells v' ns)))
      → Appends w at w' n (quote_block (caption (attribution_of (drop tag (take e v)))) (part begin to (cells v ns)))
  unfolding part
  block-joined ns begin to h q =
      let x : attribution_of (drop tag (take e v)) ≡ take (b - a) (drop a v') = sym here ∙ sym kept in
      let f : take to v' ≡ take to v = sym (take-take to end v' h) ∙ ap (take to) p.keeps ∙ take-take to end v h in
      let y : take to (cells v ns) ≡ take to (cells v' ns) = sym (cells-front to v v' ns f) in
      rw (x, y) q

  -- the block of the quote, in the area from `place` up to `end`
  pub block-built : (ns : List ℕ) (begin to place : ℕ) → to ≤ end → place ≤ end → {w' ns' : List ℕ} {n : ℕ}
      → AppendsIn v' ns end place w' ns' n (quote_block (caption (take (b - a) (drop a v'))) (part begin to (cells v' ns)))
      → BuiltIn v ns place end w' ns' n (quote_block (caption (attribution_of (drop tag (take e v)))) (part begin to (cells v ns)))
  block-built ns begin to place h f q = built-behind p.keeps f q (block-joined ns begin to h q.appends)

  -- they do not fit, so neither does the caption, in the area from `place` up to `end`
  pub area-unjoined : (x : List Cell) (ns : List ℕ) (place far : ℕ) → length v < j → end + (end - place) ≤ length v → end ≤ length ns → place ≤ end → end < far
      → Appends (take end (cells v ns)) place (take end (cells v ns)) far (quote_block (caption (attribution_of (drop tag (take e v)))) x)
  unfolding bytes
  area-unjoined x ns place far lt room hn hp up =
      let t : length (name_texts (take (b - a) (drop a v))) ≡ length (name_texts (attribution_of (drop tag (take e v)))) = ap (λ (l : List ℕ). length (name_texts l)) here in
      let c = texts-within-caption (attribution_of (drop tag (take e v))) in
      let i = caption-inside (caption (attribution_of (drop tag (take e v)))) x in
      let o = area-length v ns end hv hn in
      past_end (take end (cells v ns)) place far _ (omega (arith, p.end, t, c, i, o, lt, room, hp)) (omega (arith, o, up)) (omega (arith, hp, up))
