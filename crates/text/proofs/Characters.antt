-- Laws of the blank characters, by place. Assumes nothing.
use mathlib.Core.Path.{◌≡◌, refl, sym, ap, ◌∙◌}
use mathlib.Core.Bool.{Bool, true, false, cond, ◌&&◌, ◌||◌}
use Prim.Native.Nat.{ℕ, ◌+◌, ◌-◌, ◌≤◌, ◌<◌}
use lib.Dec.{eqb, leb, ltb}
use borrow.Author.Tests.{ne_eqb, lt-leb, le-ltb}
use native.Mathlib.Nat.{add-zero}
use native.Mathlib.Omega.{arith}
use mathlib.Core.List.{List}
use lib.ListN.{drop, get_or}
use lib.Seq.{get_or-drop}
use Rattle.text.specs.Blanks.{blank1, blank2, blank3, blank_width, blank_size}
use Rattle.text.specs.Cells.{blank_at, more_after}

pub blank-at : (s : List ℕ) (i : ℕ) → blank_size (drop i s) ≡ blank_width (get_or s i 0) (get_or s (i + 1) 0) (get_or s (i + 2) 0)
unfolding blank_size
blank-at s i = simp (get_or-drop, add-zero)

-- can a byte begin a blank character of more than one byte?
abbrev pub lead : ℕ → Bool
lead a = eqb a 0xC2 || (leb 0xE1 a && leb a 0xE3)

not-lead : (a n : ℕ) → lead a ≡ false → lead n ≡ true → eqb a n ≡ false
not-lead a n h k = ne_eqb a n (λ (p : a ≡ n). let z : true ≡ false = sym k ∙ sym (ap lead p) ∙ h in (let y : ◌≡◌ {A = ℕ} 0 1 = cc in omega arith))

-- a byte that can't: the two bytes behind it do not matter
plain-width : (a b c : ℕ) → lead a ≡ false → blank_width a b c ≡ cond (blank1 a) 1 0
unfolding blank_width blank2 blank3
plain-width a b c h = rw (not-lead a 0xC2 h refl, not-lead a 0xE1 h refl, not-lead a 0xE2 h refl, not-lead a 0xE3 h refl)

pub plain-blank : (s : List ℕ) (i : ℕ) → lead (get_or s i 0) ≡ false → blank_size (drop i s) ≡ cond (blank1 (get_or s i 0)) 1 0
plain-blank s i h = blank-at s i ∙ plain-width (get_or s i 0) (get_or s (i + 1) 0) (get_or s (i + 2) 0) h

-- an ASCII byte can't: where no blank character is left over, the byte itself says whether it is blank, and nothing is left of it
pub ascii-place : (more : ℕ) (s : List ℕ) (i : ℕ) → more ≤ 0 → get_or s i 0 < 0x80
    → ◌≡◌ {A = ℕ} (cond (blank1 (get_or s i 0)) 1 0) (cond (blank_at more (drop i s)) 1 0) × ◌≡◌ {A = ℕ} 0 (more_after more (drop i s))
unfolding blank_at more_after
ascii-place more s i m h =
    let z = plain-blank s i (rw (ne_eqb (get_or s i 0) 0xC2 (λ (p : get_or s i 0 ≡ 0xC2). omega arith), lt-leb 0xE1 (get_or s i 0) (omega arith))) in
    (sym (rw (le-ltb 0 more m, z) (one (blank1 (get_or s i 0)))), sym (rw (le-ltb 0 more m, z) (none (blank1 (get_or s i 0)))))
  where
    one : (q : Bool) → ◌≡◌ {A = ℕ} (cond (ltb 0 (cond q 1 0)) 1 0) (cond q 1 0)
    one true = refl
    one false = refl

    none : (q : Bool) → cond q 1 0 - 1 ≡ 0
    none true = refl
    none false = refl
