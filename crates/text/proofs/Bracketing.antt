-- How many `]` a text has. Every tag ends in one, so they bound the tags of a text.
--   brackets s   the number of `]` in the bytes s
-- Assumes nothing.
use mathlib.Core.Path.{◌≡◌, refl, sym, ap, ◌∙◌}
use mathlib.Core.Bool.{Bool, true, false, cond}
use mathlib.Core.List.{List, [], ◌∷◌, ◌++◌, map-append}
use Prim.Native.Nat.{ℕ, zero, suc, ◌+◌, ◌≤◌}
use native.Mathlib.Omega.{arith}
use lib.ListN.{length, take, drop, get_or, take-append-drop}
use lib.Dec.{eqb}
use Rattle.text.specs.Ascii.{to_first, to_bracket}
use Rattle.text.specs.Cells.{Cell, bytes}
use Rattle.text.specs.Lines.{trim_start, trim_onto, trim_end, trim, is_feed, line_onto, lines}
use Rattle.text.specs.Origins.{count}
use Rattle.text.proofs.Copying.{count-append}
use Rattle.text.proofs.SplitLaws.{strung}

abbrev pub brackets : List ℕ → ℕ
brackets s = count 93 s

-- ---- bytes

-- an empty text has none
pub brackets-none : brackets [] ≡ 0
unfolding count
brackets-none = refl

-- two texts are counted apart
pub brackets-append : (s t : List ℕ) → brackets (s ++ t) ≡ brackets s + brackets t
brackets-append s t = count-append 93 s t

-- the start and the rest of a text are counted apart
pub brackets-split : (n : ℕ) (s : List ℕ) → brackets s ≡ brackets (take n s) + brackets (drop n s)
brackets-split n s = ap (λ (t : List ℕ). brackets t) (sym (take-append-drop n s)) ∙ brackets-append (take n s) (drop n s)

-- the start of a text has no more than the text
pub brackets-take : (n : ℕ) (s : List ℕ) → brackets (take n s) ≤ brackets s
brackets-take n s = omega (arith, brackets-split n s)

-- the rest of a text has no more than the text
pub brackets-drop : (n : ℕ) (s : List ℕ) → brackets (drop n s) ≤ brackets s
brackets-drop n s = omega (arith, brackets-split n s)

-- a text has no more of them than bytes
pub brackets-length : (s : List ℕ) → brackets s ≤ length s
unfolding count
brackets-length [] = omega arith
brackets-length (b ∷ s) = by (eqb b 93) (brackets-length s)
  where
    by : (t : Bool) → brackets s ≤ length s → cond t 1 0 + brackets s ≤ suc (length s)
    by true h = omega arith
    by false h = omega arith

-- behind a `]` there is one less
pub brackets-behind : (n : ℕ) (s : List ℕ) → get_or s n 0 ≡ 93 → suc (brackets (drop (suc n) s)) ≤ brackets s
unfolding count
brackets-behind n [] e = absurd (omega arith)
brackets-behind zero (b ∷ s) e = rw e (omega arith)
brackets-behind (suc n) (b ∷ s) e = omega (arith, brackets-behind n s e)

-- before the first `]` there is none
pub brackets-before : (s : List ℕ) → brackets (take (to_bracket s) s) ≡ 0
unfolding count to_bracket to_first
brackets-before [] = refl
brackets-before (b ∷ s) = by (eqb b 93) refl (brackets-before s)
  where
    by : (t : Bool) → eqb b 93 ≡ t → brackets (take (to_bracket s) s) ≡ 0 → brackets (take (cond t 0 (suc (to_bracket s))) (b ∷ s)) ≡ 0
    by true e h = refl
    by false e h = rw e (omega arith)

-- ---- cells

-- two texts are counted apart
pub brackets-cells : (x y : List Cell) → brackets (bytes (x ++ y)) ≡ brackets (bytes x) + brackets (bytes y)
brackets-cells x y = ap (λ (t : List ℕ). brackets t) (map-append (λ (c : Cell). c.byte) x y) ∙ brackets-append (bytes x) (bytes y)

-- a text without the blanks at its start has no more than the text
trim_start-brackets : (x : List Cell) → brackets (bytes (trim_start x)) ≤ brackets (bytes x)
unfolding count trim_start
trim_start-brackets [] = omega arith
trim_start-brackets (c ∷ x) = by c.blank (trim_start-brackets x)
  where
    by : (t : Bool) → brackets (bytes (trim_start x)) ≤ brackets (bytes x) → brackets (bytes (cond t (trim_start x) (c ∷ x))) ≤ brackets (bytes (c ∷ x))
    by true h = omega arith
    by false h = omega arith

-- a cell before a text whose end is trimmed
trim_onto-brackets : (c : Cell) (x : List Cell) → brackets (bytes (trim_onto c x)) ≤ brackets (bytes (c ∷ x))
unfolding count
trim_onto-brackets c [] = by c.blank
  where
    by : (t : Bool) → brackets (bytes (cond t [] (c ∷ []))) ≤ brackets (bytes (c ∷ []))
    by true = omega arith
    by false = omega arith
trim_onto-brackets c (d ∷ x) = omega arith

-- a text without the blanks at its end has no more than the text
trim_end-brackets : (x : List Cell) → brackets (bytes (trim_end x)) ≤ brackets (bytes x)
unfolding count trim_end
trim_end-brackets [] = omega arith
trim_end-brackets (c ∷ x) = omega (arith, trim_onto-brackets c (trim_end x), trim_end-brackets x)

-- a trimmed text has no more than the text
pub trim-brackets : (x : List Cell) → brackets (bytes (trim x)) ≤ brackets (bytes x)
unfolding trim
trim-brackets x = omega (arith, trim_start-brackets x, trim_end-brackets (trim_start x))

-- a cell before a text that has the lines ls
line_onto-brackets : (feeds : Bool) (c : Cell) (ls : List (List Cell)) → brackets (bytes (strung (line_onto feeds c ls))) ≤ brackets (bytes (c ∷ strung ls))
unfolding count strung
line_onto-brackets true c ls = omega arith
line_onto-brackets false c [] = omega arith
line_onto-brackets false c (l ∷ ls) = omega arith

-- the lines of a text have no more than the text
pub lines-brackets : (x : List Cell) → brackets (bytes (strung (lines x))) ≤ brackets (bytes x)
unfolding count lines strung
lines-brackets [] = omega arith
lines-brackets (c ∷ x) = omega (arith, line_onto-brackets (is_feed c) c (lines x), lines-brackets x)
