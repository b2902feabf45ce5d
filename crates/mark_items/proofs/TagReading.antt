-- A turn of the loop that reads a text's tags, by what its calls ensure. Assumes nothing.
use mathlib.Core.Path.{◌≡◌, refl, sym, ap, ◌∙◌}
use mathlib.Core.Bool.{Bool, true, false, cond}
use mathlib.Core.Option.{Option, some}
use mathlib.Core.List.{List}
use Prim.Native.Nat.{ℕ, suc, ◌+◌, ◌*◌, ◌%◌, ◌≤◌, ◌<◌}
use native.Mathlib.Omega.{arith}
use native.Mathlib.Decide.{dec_le}
use lib.Dec.{ltb}
use lib.ListN.{length, take, drop, get_or, length-drop}
use lib.Seq.{get_or-take, take-take}
use borrow.Author.Tests.{lt-ltb, le-ltb, ne_eqb}
use Rattle.text.specs.Cells.{Cell}
use Rattle.mark_tags.specs.Marks.{Tag, opener, closer, tag_at, more, ends, after}
use Rattle.mark_tags.specs.Flat.{raw_tag, flat_of, code_at, bound_at, flat_at, stack_of, with_item, Stacked, tag_number, numbered_tag, code_of, width_of, kind_numbered}
use Rattle.mark_items.proofs.Scanning.{number-opens, number-closes, number-big, tag_fits}
use Rattle.mark_items.proofs.Stack.{numbered-opener, numbered-closer, code-closer}
use Rattle.mark_items.proofs.Tabling.{flats-same, flat_at-same, Reading, reading-tag, item-stack, item-length}

pub same-below : (xs ys : List ℕ) (m i : ℕ) → take m xs ≡ take m ys → i < m → get_or xs i 0 ≡ get_or ys i 0
same-below xs ys m i e h = sym (get_or-take m xs i 0 h) ∙ ap (λ (l : List ℕ). get_or l i 0) e ∙ get_or-take m ys i 0 h

-- items of the same numbers
pub same-bound : (ns ns' : List ℕ) (n m j : ℕ) → take m ns' ≡ take m ns → n + j < m → bound_at ns' n j ≡ bound_at ns n j
unfolding bound_at
same-bound ns ns' n m j e h = same-below ns' ns m (n + j) e h

pub same_code : (ns ns' : List ℕ) (n m j : ℕ) → take m ns' ≡ take m ns → 2 * n + 2 + j < m → code_at ns' n j ≡ code_at ns n j
unfolding code_at
same_code ns ns' n m j e h = same-below ns' ns m (2 * n + 2 + j) e h

number-tag : (o : Option Tag) (r : ℕ) → r ≡ tag_number o → (r ≡ 0 → ⊥) → o ≡ some (numbered_tag r)
number-tag o r e z = elim (dec_le 12 r) [
  | yes p ↦ rw (numbered-closer r p) (number-closes o r e p).is
  | no q ↦ rw (numbered-opener r (omega arith)) (number-opens o r e z (omega arith)).is
]

width_tag : (r : ℕ) → width_of r ≡ suc (more (some (numbered_tag r)))
unfolding width_of
width_tag r = elim (dec_le 12 r) [
  | yes p ↦ rw (numbered-closer r p, le-ltb r 12 p)
  | no q ↦ rw (numbered-opener r (omega arith), lt-ltb r 12 (omega arith))
]

flat-end : (e : Bool) (r : ℕ) (s : List Cell) → flat_of (cond e 2 1) s ≡ raw_tag (closer (kind_numbered (r % 4))) e s
unfolding flat_of
flat-end true r s = refl
flat-end false r s = refl

flat-open : (r : ℕ) (e : Bool) (s : List Cell) → 8 ≤ r → r < 12 → flat_of (code_of r e) s ≡ raw_tag (opener (kind_numbered (r % 4))) e s
unfolding flat_of code_of
flat-open r e s h k = rw (lt-ltb r 12 k, ne_eqb r 0 (λ z. omega arith), ne_eqb r 2 (λ z. omega arith), le-ltb r 4 (omega arith), le-ltb r 8 h)

pub wide-three : (r : ℕ) → 3 ≤ width_of r
unfolding width_of
wide-three r = by (ltb r 12)
  where
    by : (b : Bool) → 3 ≤ cond b 3 4
    by true = omega arith
    by false = omega arith

flat-code : (r : ℕ) (e : Bool) (s : List Cell) → 8 ≤ r → flat_of (code_of r e) s ≡ raw_tag (numbered_tag r) e s
flat-code r e s h = elim (dec_le 12 r) [
  | yes p ↦ rw (numbered-closer r p, code-closer r e p) (flat-end e r s)
  | no q ↦ rw (numbered-opener r (omega arith)) (flat-open r e s h (omega arith))
]

module _ (text ns₀ ns : List ℕ) (i j depth : ℕ) (h : i < length text) (m : Reading text ns₀ ns i j depth) (r : ℕ) (tag : r ≡ tag_number (tag_at (drop i text))) (z : r ≡ 0 → ⊥) where
  pub tag-within : i + width_of r ≤ length text
  tag-within =
      let f = tag_fits (drop i text) (numbered_tag r) (number-tag (tag_at (drop i text)) r tag z) in
      let l = length-drop i text in
      let w = width_tag r in
      omega arith

  module _ (code w depth' : ℕ) (ns₁ ns₂ ns₃ : List ℕ) (coded : code ≡ code_of r (ends (numbered_tag r) (stack_of ns (length text) depth))) (wide : w ≡ width_of r)
      (r₁ : ns₁ ≡ with_item ns (length text) j i 0) (r₂ : ns₂ ≡ with_item ns₁ (length text) (j + 1) (i + w) code)
      (room : 4 * length text + 4 ≤ length ns) where
    pub stack-kept : stack_of ns₂ (length text) depth ≡ stack_of ns (length text) depth
    stack-kept =
        let f = m.from in
        let g = m.few in
        let u = tag-within in
        let y = width_tag r in
        let q : length ns₁ ≡ length ns = rw r₁ (item-length ns (length text) j i 0 (omega arith) (omega arith)) in
        rw (r₂, item-stack ns₁ (length text) (j + 1) (i + w) code (omega arith) (omega arith) depth, r₁) (item-stack ns (length text) j i 0 (omega arith) (omega arith) depth)

    pub reading_step : Stacked ns₂ ns₃ (length text) depth r depth' → Reading text ns₀ ns₃ (i + w) (j + 2) depth'
    reading_step s =
        let f = m.from in
        let g = m.few in
        let dp = m.deep in
        let sd = s.deep in
        let u = tag-within in
        let n3 = wide-three r in
        let bound : (l : ℕ) → l ≤ j + 2 → bound_at ns₃ (length text) l ≡ bound_at ns₂ (length text) l = λ l le. same-bound ns₂ ns₃ (length text) (3 * length text + 3) l s.items (omega arith) in
        reading-tag text ns₀ ns i j depth h m (numbered_tag r) w code depth' ns₁ ns₂ ns₃ (number-tag (tag_at (drop i text)) r tag z) (wide ∙ width_tag r) r₁ r₂ room
        (λ x. flats-same (flat_at x ns₃ (length text)) (flat_at x ns₂ (length text)) (j + 2) 0 (λ l a b. flat_at-same x ns₂ ns₃ (length text) l (same_code ns₂ ns₃ (length text) (3 * length text + 3) l s.items (omega arith)) (bound l (omega arith)) (bound (l + 1) (omega arith))))
        bound
        (sym (take-take (length text) (3 * length text + 3) ns₃ (omega arith)) ∙ ap (take (length text)) s.items ∙ take-take (length text) (3 * length text + 3) ns₂ (omega arith))
        (s.is ∙ ap (after (numbered_tag r)) stack-kept)
        (λ t. rw coded (flat-code r (ends (numbered_tag r) (stack_of ns (length text) depth)) t (rw tag (number-big (tag_at (drop i text)) (λ y. z (tag ∙ y))))))
        (omega arith)
