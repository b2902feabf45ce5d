-- Laws of text before the next `[`: its cells are taken one by one or all at once. Assumes nothing.
use mathlib.Core.Path.{◌≡◌, refl, sym, ap, ◌∙◌}
use mathlib.Core.Bool.{Bool, true, false, cond}
use mathlib.Core.List.{List, [], ◌∷◌, append-nil, append_assoc}
use Prim.Native.Nat.{ℕ, zero, suc, ◌+◌, ◌≤◌, ◌<◌}
use native.Mathlib.Nat.{le_of_suc-le-suc, not-suc-le-zero}
use native.Mathlib.Numerals.{add-one}
use native.Mathlib.Omega.{arith}
use lib.ListN.{length, take, drop, length-append, length-map}
use lib.Dec.{eqb}
use borrow.Author.Tests.{eqb-false}
use Rattle.text.specs.Ascii.{is, to_first}
use Rattle.text.specs.Cells.{Cell, bytes}
use Rattle.text.proofs.Bytes.{first-within}
use Rattle.list_blocks.specs.declared.tag.Tag.{Tag}
use Rattle.list_blocks.specs.declared.tag.Tag.TheVariants.{Opener, Item, Closer, Plain}
use Rattle.list_blocks.specs.Tags.{Token, text, rest_of, tokens}
use Rattle.list_blocks.specs.Lists.{State, step, run, run_need}
use Rattle.list_blocks.proofs.Values.{tag-none}
use Rattle.list_steps.specs.Standing.{kept, step_by, rest_with, take_by}
use Rattle.list_steps.proofs.Needs.{need-least}

-- the first of these cells is text, and the others stand before the same `[`
first-text : (k : ℕ) (c : Cell) (x : List Cell) → suc k ≤ to_first (is "[") (bytes (c ∷ x)) → (tokens 0 (c ∷ x) ≡ text c ∷ tokens 0 x) × (k ≤ to_first (is "[") (bytes x))
unfolding to_first tokens
first-text k c x h = by (eqb c.byte 91) refl h
  where
    by : (t : Bool) → eqb c.byte 91 ≡ t → suc k ≤ cond t 0 (suc (to_first (is "[") (bytes x))) → (tokens 0 (c ∷ x) ≡ text c ∷ tokens 0 x) × (k ≤ to_first (is "[") (bytes x))
    by true e g = absurd (not-suc-le-zero g)
    by false e g = (rw (tag-none (c ∷ x) (eqb-false c.byte 91 e)), le_of_suc-le-suc g)

pub tokens-text : {A : Type 0} (f : List Token → A) (k : ℕ) (x : List Cell) → k ≤ to_first (is "[") (bytes x)
    → ((c : Cell) (y : List Cell) → f (text c ∷ tokens 0 y) ≡ f (tokens 0 y)) → f (tokens 0 x) ≡ f (tokens 0 (drop k x))
unfolding to_first
tokens-text f zero x h pass = refl
tokens-text f (suc k) [] h pass = absurd (not-suc-le-zero h)
tokens-text f (suc k) (c ∷ x) h pass =
    let t = first-text k c x h in
    ap f t.0 ∙ pass c x ∙ tokens-text f k x t.1 pass

kept-none : (s : State) → s ≡ kept [] s
kept-none s = ap (λ (y : List Cell). record { now = y; second = s.second; lists = s.lists }) (sym (append-nil s.now))

kept_more : (c : Cell) (x : List Cell) (s : State) → kept x (kept (c ∷ []) s) ≡ kept (c ∷ x) s
kept_more c x s = ap (λ (y : List Cell). record { now = y; second = s.second; lists = s.lists }) (append_assoc s.now (c ∷ []) x)

text-run : (k : ℕ) (x : List Cell) → k ≤ to_first (is "[") (bytes x) → (s : State) → run (tokens 0 x) s ≡ run (tokens 0 (drop k x)) (kept (take k x) s)
unfolding to_first run step
text-run zero x h s = ap (λ (z : State). run (tokens 0 x) z) (kept-none s)
text-run (suc k) [] h s = absurd (not-suc-le-zero h)
text-run (suc k) (c ∷ x) h s =
    let t = first-text k c x h in
    ap (λ (ks : List Token). run ks s) t.0 ∙ text-run k x t.1 (kept (c ∷ []) s) ∙ ap (λ (z : State). run (tokens 0 (drop k x)) z) (kept_more c (take k x) s)

-- the need only grows in text
text-grows : (c : Cell) (ks : List Token) (s : State) → run_need (text c ∷ ks) s ≡ run_need ks (kept (c ∷ []) s)
unfolding run_need step
text-grows c ks s =
    let l = need-least ks (kept (c ∷ []) s) in
    let n = length-append s.now (c ∷ []) in
    omega (arith, l, n)

text-need : (k : ℕ) (x : List Cell) → k ≤ to_first (is "[") (bytes x) → (s : State) → run_need (tokens 0 x) s ≡ run_need (tokens 0 (drop k x)) (kept (take k x) s)
unfolding to_first
text-need zero x h s = ap (λ (z : State). run_need (tokens 0 x) z) (kept-none s)
text-need (suc k) [] h s = absurd (not-suc-le-zero h)
text-need (suc k) (c ∷ x) h s =
    let t = first-text k c x h in
    ap (λ (ks : List Token). run_need ks s) t.0 ∙ text-grows c (tokens 0 x) s ∙ text-need k x t.1 (kept (c ∷ []) s)
    ∙ ap (λ (z : State). run_need (tokens 0 (drop k x)) z) (kept_more c (take k x) s)

-- ---- a token, and the text behind it

pub tail-bytes : (y : List Cell) → bytes (drop 1 y) ≡ drop 1 (bytes y)
tail-bytes [] = refl
tail-bytes (c ∷ x) = refl

module _ (k : ℕ) (s : State) where
  pub more-run : (t : Tag) (y : List Cell) → 0 < length y → k ≤ to_first (is "[") (bytes (drop 1 y))
      → run (tokens 0 (drop (suc (rest_of t)) y)) (step_by t y s) ≡ run (tokens 0 (drop (suc (rest_with t k)) y)) (take_by t k y s)
  more-run (Opener n o) y h g = refl
  more-run Item y h g = refl
  more-run Closer y h g = refl
  more-run Plain [] h g = absurd (not-suc-le-zero h)
  more-run Plain (c ∷ x) h g = rw (add-one k) (text-run k x g (kept (c ∷ []) s) ∙ ap (λ (z : State). run (tokens 0 (drop k x)) z) (kept_more c (take k x) s))

  pub more-need : (t : Tag) (y : List Cell) → 0 < length y → k ≤ to_first (is "[") (bytes (drop 1 y))
      → run_need (tokens 0 (drop (suc (rest_of t)) y)) (step_by t y s) ≡ run_need (tokens 0 (drop (suc (rest_with t k)) y)) (take_by t k y s)
  more-need (Opener n o) y h g = refl
  more-need Item y h g = refl
  more-need Closer y h g = refl
  more-need Plain [] h g = absurd (not-suc-le-zero h)
  more-need Plain (c ∷ x) h g = rw (add-one k) (text-need k x g (kept (c ∷ []) s) ∙ ap (λ (z : State). run_need (tokens 0 (drop k x)) z) (kept_more c (take k x) s))

  pub take-with : (t : Tag) (y : List Cell) → take_by t (rest_with t k) y s ≡ take_by t k y s
  take-with (Opener n o) y = refl
  take-with Item y = refl
  take-with Closer y = refl
  take-with Plain y = refl

-- they are within their text
pub rest-size : (t : Tag) (y : List Cell) → 0 < length y → 1 + rest_of t ≤ length y → 1 + rest_with t (to_first (is "[") (bytes (drop 1 y))) ≤ length y
rest-size (Opener n o) y h g = g
rest-size Item y h g = g
rest-size Closer y h g = g
rest-size Plain [] h g = absurd (not-suc-le-zero h)
rest-size Plain (c ∷ x) h g = let f = first-within (is "[") (bytes x) in let l = length-map x (λ (d : Cell). d.byte) in omega (arith, f, l)

pub rest-least : (t : Tag) (k : ℕ) → rest_of t ≤ rest_with t k
rest-least (Opener n o) k = omega arith
rest-least Item k = omega arith
rest-least Closer k = omega arith
rest-least Plain k = omega arith
