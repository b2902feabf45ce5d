-- Laws of counting open lists. Assumes nothing.
use mathlib.Core.Path.{◌≡◌, refl, sym, ap, ◌∙◌}
use mathlib.Core.Bool.{true, false}
use mathlib.Core.List.{List, [], ◌∷◌}
use Prim.Native.Nat.{ℕ, zero, suc, ◌+◌, ◌-◌, ◌≤◌, ◌<◌}
use native.Mathlib.Nat.{not-suc-le-zero}
use native.Mathlib.Numerals.{add-one}
use native.Mathlib.Omega.{arith}
use lib.ListN.{length, take, drop, drop_of_length-le, length-drop}
use lib.Seq.{take_all, take-take, drop-drop, length-take-le}
use borrow.Author.Tests.{lt-leb, le-leb}
use Rattle.text.specs.Ascii.{is, to_first}
use Rattle.text.specs.Bounds.{deep_most}
use Rattle.text.specs.Cells.{Cell, cells, bytes, part}
use Rattle.list_blocks.specs.declared.tag.Tag.{Tag}
use Rattle.list_blocks.specs.declared.tag.Tag.TheVariants.{Opener, Item, Closer, Plain}
use Rattle.list_blocks.specs.Tags.{Token, tag_at, token_of, rest_of, tokens, depth_after, over_limit, deeper, too_deep}
use Rattle.list_steps.specs.Standing.{rest_with, depth_by}
use Rattle.list_steps.proofs.Needs.{tokens-skip}
use Rattle.list_steps.proofs.Texts.{tokens-text, tail-bytes, rest-size}
use Rattle.list_blocks.proofs.Values.{cells-length, cells-bytes}
use Rattle.text.proofs.Sources.{cells-sub}
use Rattle.text.proofs.Writing.{part_end}
use Rattle.list_steps.proofs.Runs.{tag-size}

depth-after : (t : Tag) (c : Cell) (x : List Cell) (d : ℕ) → depth_after d (token_of t c x) ≡ depth_by t d
unfolding depth_after
depth-after (Opener n o) c x d = sym (add-one d)
depth-after Item c x d = refl
depth-after Closer c x zero = refl
depth-after Closer c x (suc d) = omega arith
depth-after Plain c x d = refl

limit-over : (t : Tag) (c : Cell) (x : List Cell) (d : ℕ) → d ≤ deep_most → deep_most < depth_by t d → over_limit d (token_of t c x) ≡ true
limit-over (Opener n o) c x d h far = le-leb deep_most d (omega arith)
limit-over Item c x d h far = absurd (omega arith)
limit-over Closer c x d h far = absurd (omega arith)
limit-over Plain c x d h far = absurd (omega arith)

limit-under : (t : Tag) (c : Cell) (x : List Cell) (d : ℕ) → depth_by t d ≤ deep_most → over_limit d (token_of t c x) ≡ false
limit-under (Opener n o) c x d h = lt-leb deep_most d (omega arith)
limit-under Item c x d h = refl
limit-under Closer c x d h = refl
limit-under Plain c x d h = refl

deeper-over : (y : List Cell) (d : ℕ) → 0 < length y → d ≤ deep_most → deep_most < depth_by (tag_at y) d → deeper d (tokens 0 y) ≡ true
unfolding deeper tokens
deeper-over [] d h le far = absurd (omega arith)
deeper-over (c ∷ x) d h le far = rw (limit-over (tag_at (c ∷ x)) c x d le far)

deeper-under : (y : List Cell) (d : ℕ) → 0 < length y → depth_by (tag_at y) d ≤ deep_most → deeper d (tokens 0 y) ≡ deeper (depth_by (tag_at y) d) (tokens 0 (drop (suc (rest_of (tag_at y))) y))
unfolding deeper tokens
deeper-under [] d h le = absurd (omega arith)
deeper-under (c ∷ x) d h le =
    rw (limit-under (tag_at (c ∷ x)) c x d le, depth-after (tag_at (c ∷ x)) c x d)
    (ap (λ (ks : List Token). deeper (depth_by (tag_at (c ∷ x)) d) ks) (tokens-skip (rest_of (tag_at (c ∷ x))) x))

-- text opens no list
deeper-more : (t : Tag) (k : ℕ) (y : List Cell) (d : ℕ) → 0 < length y → k ≤ to_first (is "[") (bytes (drop 1 y))
    → deeper d (tokens 0 (drop (suc (rest_of t)) y)) ≡ deeper d (tokens 0 (drop (suc (rest_with t k)) y))
unfolding deeper depth_after
deeper-more (Opener n o) k y d h g = refl
deeper-more Item k y d h g = refl
deeper-more Closer k y d h g = refl
deeper-more Plain k [] d h g = absurd (not-suc-le-zero h)
deeper-more Plain k (c ∷ x) d h g = tokens-text (deeper d) k x g (λ b y. refl)

-- at a tag that takes n cells behind its first
module _ (y : List Cell) (d : ℕ) {tag : Tag} (some : 0 < length y) (tag_is : tag ≡ tag_at y) where
  pub deep-over : d ≤ deep_most → deep_most < depth_by tag d → deeper d (tokens 0 y) ≡ true
  deep-over le far = deeper-over y d some le (rw tag_is at far)

  pub deep-goes : {z : List Cell} {n : ℕ} → n ≡ rest_with tag (to_first (is "[") (bytes (drop 1 y))) → drop (suc n) y ≡ z → depth_by tag d ≤ deep_most → deeper d (tokens 0 y) ≡ deeper (depth_by tag d) (tokens 0 z)
  deep-goes size next le =
      deeper-under y d some (rw tag_is at le) ∙ deeper-more (tag_at y) (to_first (is "[") (bytes (drop 1 y))) y (depth_by (tag_at y) d) some (omega arith)
      ∙ rw (← tag_is, ← size, next)

module _ (bs ns : List ℕ) (h : length bs ≤ length ns) (i d : ℕ) (lt : i < length bs) (tag : Tag)
    (q : tag ≡ tag_at (cells (take (length bs - i) (drop i bs)) (take (length bs - i) (drop i ns))))
    (n : ℕ) (qn : n ≡ rest_with tag (to_first (is "[") (drop 1 (take (length bs - i) (drop i bs))))) where
  left : length (drop i (cells bs ns)) ≡ length bs - i
  left = length-drop i (cells bs ns) ∙ (let l = cells-length bs ns h in omega arith)

  rest-is : cells (take (length bs - i) (drop i bs)) (take (length bs - i) (drop i ns)) ≡ drop i (cells bs ns)
  rest-is = cells-sub bs ns i (length bs - i) ∙ take_all (length bs - i) (drop i (cells bs ns)) (let l = left in omega arith)

  tag_is : tag ≡ tag_at (drop i (cells bs ns))
  tag_is = q ∙ ap tag_at rest-is

  rest-bytes : bytes (drop i (cells bs ns)) ≡ take (length bs - i) (drop i bs)
  rest-bytes =
      let b : length (take (length bs - i) (drop i bs)) ≡ length bs - i = length-take-le (length bs - i) (drop i bs) (let k = length-drop i bs in omega arith) in
      let c : length (take (length bs - i) (drop i ns)) ≡ length bs - i = length-take-le (length bs - i) (drop i ns) (let k = length-drop i ns in omega arith) in
      ap bytes (sym rest-is) ∙ cells-bytes (take (length bs - i) (drop i bs)) (take (length bs - i) (drop i ns)) (omega arith)

  -- the text behind the first cell
  abbrev more : ℕ
  more = to_first (is "[") (bytes (drop 1 (drop i (cells bs ns))))

  size-with : n ≡ rest_with tag more
  size-with = qn ∙ ap (λ (l : List ℕ). rest_with tag (to_first (is "[") l)) (ap (drop 1) (sym rest-bytes) ∙ sym (tail-bytes (drop i (cells bs ns))))

  pub depth-size : i + (1 + n) ≤ length bs
  depth-size =
      let l = left in
      let z = size-with in
      let s = (tag-size (drop i (cells bs ns)) (omega arith)).0 in
      let g : 1 + rest_with tag more ≤ length (drop i (cells bs ns)) = rest-size tag (drop i (cells bs ns)) (omega arith) (rw tag_is s) in
      omega (arith, l, z, g)

  pub depth-over : d ≤ deep_most → deep_most < depth_by tag d → deeper d (tokens 0 (drop i (cells bs ns))) ≡ true
  depth-over = let l = left in deep-over (drop i (cells bs ns)) d (omega arith) tag_is

  pub depth-goes : depth_by tag d ≤ deep_most → deeper d (tokens 0 (drop i (cells bs ns))) ≡ deeper (depth_by tag d) (tokens 0 (drop (i + n + 1) (cells bs ns)))
  depth-goes =
      let l = left in
      let z : i + suc n ≡ i + n + 1 = omega arith in
      deep-goes (drop i (cells bs ns)) d (omega arith) tag_is size-with (drop-drop (suc n) i (cells bs ns) ∙ ap (λ (k : ℕ). drop k (cells bs ns)) z)

-- a part of the cells before a base
pub deep-start : (a e base : ℕ) (v : List Cell) → e ≤ base → too_deep (part a e v) ≡ deeper 0 (tokens 0 (part a e (take base v)))
unfolding too_deep part
deep-start a e base v le = ap (λ (l : List Cell). deeper 0 (tokens 0 (drop a l))) (sym (take-take e base v le))

pub deep-end : (i e d : ℕ) (v : List Cell) → e ≤ i → deeper d (tokens 0 (part i e v)) ≡ false
unfolding deeper tokens
deep-end i e d v le = rw (part_end i e v le)

pub depth-end : (bs ns : List ℕ) (i d : ℕ) → length bs ≤ length ns → length bs ≤ i → deeper d (tokens 0 (drop i (cells bs ns))) ≡ false
unfolding deeper tokens
depth-end bs ns i d h le = rw (drop_of_length-le (cells bs ns) {i = i} (let l = cells-length bs ns h in omega arith))
