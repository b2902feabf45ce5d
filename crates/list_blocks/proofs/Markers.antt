-- Laws of the writers of markers, spaces and line feeds. Assumes nothing.
use mathlib.Core.Path.{◌≡◌, refl, sym, ap, ◌∙◌}
use mathlib.Core.Bool.{Bool, true, false, cond}
use mathlib.Core.List.{List, [], ◌∷◌, ◌++◌, map}
use Prim.Native.Nat.{ℕ, zero, suc, ◌+◌, ◌/◌, ◌≤◌, ◌<◌}
use native.Mathlib.Numerals.{add-one}
use native.Mathlib.Omega.{arith}
use lib.ListN.{length, replicate, length-map, length-append}
use Rattle.text.specs.Cells.{Cell, sign}
use Rattle.text.specs.Decimal.{decimal}
use Rattle.text.specs.Writers.{Wrote}
use Rattle.text.specs.declared.writer.Writer.{Writer}
use Rattle.text.proofs.Writers.{wrote-then}
use Rattle.text.proofs.Decimals.{decimal-one, decimal-more}
use Rattle.list_blocks.specs.Blocks.{space, marker}

-- ---- one cell again and again

snoc : (n : ℕ) (c : Cell) → replicate (suc n) c ≡ replicate n c ++ c ∷ []
snoc zero c = refl
snoc (suc n) c = ap (λ (l : List Cell). c ∷ l) (snoc n c)

pub wrote-again : {w w₁ w₂ : Writer} (n : ℕ) (c : Cell) → Wrote w w₁ (replicate n c) → Wrote w₁ w₂ (c ∷ []) → Wrote w w₂ (replicate (n + 1) c)
wrote-again n c p q = rw (add-one n, snoc n c) (wrote-then p q)

-- ---- digits

pub one-digit : (n : ℕ) → n < 10 → 1 ≡ length (decimal n)
one-digit n h = sym (ap length (decimal-one n h)) ∙ length-map (decimal n) sign

pub more-digits : (n r : ℕ) → 10 ≤ n → r ≡ length (decimal (n / 10)) → r + 1 ≡ length (decimal n)
more-digits n r h e =
    let a = length-map (decimal n) sign in
    let b = length-map (decimal (n / 10)) sign in
    let d : length (map sign (decimal n)) ≡ length (map sign (decimal (n / 10))) + 1 =
    ap length (decimal-more n h) ∙ length-append (map sign (decimal (n / 10))) _ in
    omega arith

-- ---- markers

pub width-plain : (o s : Bool) (n : ℕ) → o ≡ false → 2 ≡ length (marker o s n)
unfolding marker
width-plain o s n e = rw e

pub width-ordered : (o s : Bool) (n r : ℕ) → o ≡ true → r ≡ length (decimal n) → r + 2 ≡ length (marker o s n)
unfolding marker
width-ordered o s n r e q = rw e (simp length-append (let a = length-map (decimal n) sign in omega arith))

pub marker-plain : (o s : Bool) (n x : ℕ) → o ≡ false → x ≡ cond s 42 45 → sign x ∷ space ∷ [] ≡ marker o s n
unfolding marker
marker-plain o s n x e q = rw (e, ← q)

pub marker-ordered : (o s : Bool) (n x : ℕ) → o ≡ true → x ≡ cond s 41 46 → map sign (decimal n) ++ sign x ∷ space ∷ [] ≡ marker o s n
unfolding marker
marker-ordered o s n x e q = rw (e, ← q)
