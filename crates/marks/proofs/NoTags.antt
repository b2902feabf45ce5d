-- A text without `[`: the pass leaves it as it is. Assumes nothing.
use mathlib.Core.Path.{◌≡◌, refl, sym, ap, subst, ◌∙◌}
use mathlib.Core.Bool.{Bool, true, false, not, cond, ◌&&◌}
use mathlib.Core.List.{List, [], ◌∷◌, append-nil}
use Prim.Native.Nat.{ℕ, suc, ◌+◌, ◌≤◌}
use native.Mathlib.Omega.{arith}
use lib.Dec.{eqb, leb}
use lib.ListN.{length}
use borrow.Author.Tests.{leb-true}
use Rattle.text.specs.Ascii.{to_first}
use Rattle.text.specs.Cells.{Cell, bytes}
use Rattle.mark_tags.specs.Marks.{last, onto, tag_of_bytes, tag_at, scan, parse, whole, items, merge, next, touching, escape_last, piece_text, text_step, write, marks}
use Rattle.marks.specs.Untagged.{Untagged}

-- ---- reading it

none_first : (p : ℕ → Bool) (b : ℕ) (s : List ℕ) → length (b ∷ s) ≤ to_first p (b ∷ s) → (p b ≡ false) × (length s ≤ to_first p s)
unfolding to_first
none_first p b s h = by (p b) refl h
  where
    by : (t : Bool) → p b ≡ t → suc (length s) ≤ cond t 0 (suc (to_first p s)) → (p b ≡ false) × (length s ≤ to_first p s)
    by true e k = absurd (omega (arith, k))
    by false e k = (e, omega (arith, k))

scan-untagged : (x : List Cell) → length (bytes x) ≤ to_first (λ b. eqb b 91) (bytes x) → scan 0 x ≡ last x
unfolding scan tag_at tag_of_bytes
scan-untagged [] h = refl
scan-untagged (c ∷ x) h = let g = none_first (λ b. eqb b 91) c.byte (bytes x) h in rw g.0 (ap (onto c) (scan-untagged x g.1))

-- ---- writing it

escape-none : (even : Bool) (p : List Cell) → escape_last (touching false) even p ≡ p
unfolding escape_last
escape-none even [] = refl
escape-none even (c ∷ []) = refl
escape-none even (c ∷ d ∷ p) = ap (λ (l : List Cell). c ∷ l) (escape-none (not (eqb c.byte 92 && even)) (d ∷ p))

marks-last : (x : List Cell) → scan 0 x ≡ last x → (marks x).cells ≡ x
unfolding marks items parse whole merge write next text_step piece_text
marks-last [] e = rw e refl
marks-last (c ∷ x) e = rw e (append-nil (escape_last (touching false) true (c ∷ x)) ∙ escape-none true (c ∷ x))

pub untagged : (s : List ℕ) (i : ℕ) → i ≡ 0 + to_first (λ b. eqb b 91) s → leb (length s) i ≡ true → Untagged s
untagged s i e h x g =
    let l = leb-true (length s) i h in
    marks-last x (scan-untagged x (subst (λ (t : List ℕ). length t ≤ to_first (λ b. eqb b 91) t) (sym g) (omega (arith, e, l))))
