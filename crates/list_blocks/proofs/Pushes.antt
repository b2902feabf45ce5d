-- What the tags of a text push on the table of open lists: each tag that pushes ends in a `]` of its own. Assumes nothing.
use mathlib.Core.Path.{◌≡◌, refl, sym, ap, ◌∙◌}
use mathlib.Core.Bool.{Bool, true, false, cond, ◌&&◌, true≢false}
use mathlib.Core.List.{List, [], ◌∷◌}
use Prim.Native.Nat.{ℕ, zero, suc, ◌+◌, ◌*◌, ◌≤◌, ◌<◌}
use native.Mathlib.Omega.{arith}
use lib.ListN.{length, drop, get_or, length-map, length-drop, get_or-map}
use lib.Seq.{get_or-drop}
use lib.Dec.{eqb, leb, ltb}
use borrow.Author.Tests.{eqb-true, leb-true, ltb-true}
use Rattle.text.specs.Ascii.{ascii, is, inside, small, begins, to_bracket}
use Rattle.text.specs.Cells.{Cell, cell, bytes}
use Rattle.text.specs.Lines.{trim}
use Rattle.text.proofs.Bytes.{both, first_stops}
use Rattle.text.proofs.Bracketing.{brackets, brackets-drop, brackets-behind}
use Rattle.list_blocks.specs.declared.tag.Tag.{Tag}
use Rattle.list_blocks.specs.declared.tag.Tag.TheVariants.{Opener, Item, Closer, Plain}
use Rattle.list_blocks.specs.Tags.{value_of, is_one, valued, tag_at, rest_of, token_of, tokens, pushed_by, pushes}

-- ---- a tag that pushes ends in `]`

-- only a `]` is a `]` in small letters
small-bracket : (b : ℕ) → small b ≡ 93 → b ≡ 93
unfolding small inside
small-bracket b = by (leb 65 b) refl (leb b 90)
  where
    by : (s : Bool) → leb 65 b ≡ s → (t : Bool) → cond (s && t) (b + 32) b ≡ 93 → b ≡ 93
    by true e true h = let l = leb-true 65 b e in absurd (omega arith)
    by true e false h = h
    by false e t h = h

-- a text that begins with a word has a `]` where the word has one
begins-bracket : (w s : List ℕ) (i : ℕ) → begins w s ≡ true → get_or w i 0 ≡ 93 → get_or s i 0 ≡ 93
unfolding begins
begins-bracket [] s i e h = absurd (omega arith)
begins-bracket (a ∷ w) [] i e h = absurd (true≢false (sym e))
begins-bracket (a ∷ w) (b ∷ s) zero e h = small-bracket b (eqb-true (small b) a (both (eqb (small b) a) (begins w s) e).0 ∙ h)
begins-bracket (a ∷ w) (b ∷ s) (suc i) e h = begins-bracket w s i (both (eqb (small b) a) (begins w s) e).1 h

-- where the tag that the bytes s begin with has its `]`, if it pushes
abbrev Ends : List ℕ → Tag → Type 0
Ends s (Opener n o) = (5 ≤ n) × (get_or s n 0 ≡ 93)
Ends s Item = get_or s 2 0 ≡ 93
Ends s Closer = Unit {0}
Ends s Plain = Unit {0}

-- of a text whose `[list=` a value and `]` follow
valued-ends : (x : List Cell) → Ends (bytes x) (valued (drop 6 x))
unfolding valued to_bracket
valued-ends x = by (ltb k (length y)) refl (is_one (trim (value_of y)))
  where
    y : List Cell
    y = drop 6 x

    k : ℕ
    k = to_bracket (bytes y)

    by : (t : Bool) → ltb k (length y) ≡ t → (u : Bool) → Ends (bytes x) (cond (t && u) (Opener (6 + k) true) Plain)
    by true e true =
        let l : k < length (bytes y) = rw (length-map y (λ (c : Cell). c.byte)) (ltb-true k (length y) e) in
        let b : get_or (bytes y) k 0 ≡ 93 = eqb-true (get_or (bytes y) k 0) 93 (first_stops (is "]") (bytes y) l) in
        let m = get_or-map (λ (c : Cell). c.byte) x (6 + k) (cell 0 0) in
        let n = get_or-map (λ (c : Cell). c.byte) y k (cell 0 0) in
        let d = ap (λ (c : Cell). c.byte) (get_or-drop 6 x k (cell 0 0)) in
        (omega arith, m ∙ sym d ∙ sym n ∙ b)
    by true e false = tt
    by false e u = tt

-- the tag that a text begins with
tag-ends : (x : List Cell) → Ends (bytes x) (tag_at x)
unfolding tag_at
tag-ends x = by (begins (ascii "[list]") (bytes x)) refl (begins (ascii "[list=") (bytes x)) (begins (ascii "[*]") (bytes x)) refl (begins (ascii "[/list]") (bytes x))
  where
    by : (a : Bool) → begins (ascii "[list]") (bytes x) ≡ a → (b c : Bool) → begins (ascii "[*]") (bytes x) ≡ c → (d : Bool)
        → Ends (bytes x) (cond a (Opener 5 false) (cond b (valued (drop 6 x)) (cond c Item (cond d Closer Plain))))
    by true p b c q d = (omega arith, begins-bracket (ascii "[list]") (bytes x) 5 p refl)
    by false p true c q d = valued-ends x
    by false p false true q d = begins-bracket (ascii "[*]") (bytes x) 2 q refl
    by false p false false q true = tt
    by false p false false q false = tt

-- ---- by brackets

-- behind the rest of a tag
pushes-behind : (skip : ℕ) (x : List Cell) → pushes (tokens skip x) ≤ 3 * brackets (drop skip (bytes x))
unfolding pushes tokens
pushes-behind zero [] = omega arith
pushes-behind (suc skip) [] = omega arith
pushes-behind (suc skip) (c ∷ x) = pushes-behind skip x
pushes-behind zero (c ∷ x) = by (tag_at (c ∷ x)) (tag-ends (c ∷ x)) (pushes-behind (rest_of (tag_at (c ∷ x))) x)
  where
    by : (t : Tag) → Ends (bytes (c ∷ x)) t → pushes (tokens (rest_of t) x) ≤ 3 * brackets (drop (rest_of t) (bytes x))
        → pushed_by (token_of t c x) + pushes (tokens (rest_of t) x) ≤ 3 * brackets (bytes (c ∷ x))
    by (Opener n o) e h = omega (arith, brackets-behind n (bytes (c ∷ x)) e.1)
    by Item e h = omega (arith, brackets-behind 2 (bytes (c ∷ x)) e)
    by Closer e h = omega (arith, brackets-drop 7 (bytes (c ∷ x)))
    by Plain e h = omega (arith, brackets-drop 1 (bytes (c ∷ x)))

-- a text pushes three numbers at most for each `]`
pub pushes-brackets : (x : List Cell) → pushes (tokens 0 x) ≤ 3 * brackets (bytes x)
pushes-brackets x = pushes-behind 0 x

-- ---- by cells

-- a `]` stands within the text
bracket-within : (n : ℕ) (s : List ℕ) → get_or s n 0 ≡ 93 → n < length s
bracket-within n [] e = absurd (omega arith)
bracket-within zero (b ∷ s) e = omega arith
bracket-within (suc n) (b ∷ s) e = omega (arith, bracket-within n s e)

-- behind the rest of a tag
pushes-after : (skip : ℕ) (x : List Cell) → pushes (tokens skip x) ≤ length (drop skip x)
unfolding pushes tokens
pushes-after zero [] = omega arith
pushes-after (suc skip) [] = omega arith
pushes-after (suc skip) (c ∷ x) = pushes-after skip x
pushes-after zero (c ∷ x) = by (tag_at (c ∷ x)) (tag-ends (c ∷ x)) (pushes-after (rest_of (tag_at (c ∷ x))) x)
  where
    l : length (bytes (c ∷ x)) ≡ suc (length x)
    l = length-map (c ∷ x) (λ (d : Cell). d.byte)

    by : (t : Tag) → Ends (bytes (c ∷ x)) t → pushes (tokens (rest_of t) x) ≤ length (drop (rest_of t) x)
        → pushed_by (token_of t c x) + pushes (tokens (rest_of t) x) ≤ suc (length x)
    by (Opener n o) e h = omega (arith, bracket-within n (bytes (c ∷ x)) e.1, e.0, l, length-drop n x)
    by Item e h = omega (arith, length-drop 2 x, bracket-within 2 (bytes (c ∷ x)) e, l)
    by Closer e h = omega (arith, length-drop 6 x)
    by Plain e h = omega arith

-- a text pushes no more numbers than it has cells
pub pushes-length : (x : List Cell) → pushes (tokens 0 x) ≤ length x
pushes-length x = pushes-after 0 x
