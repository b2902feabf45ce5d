-- Laws of what stands outside of the areas: it stays. Assumes nothing.
use mathlib.Core.Path.{◌≡◌, refl, sym, ap, ◌∙◌}
use mathlib.Core.List.{List, [], ◌∷◌}
use Prim.Native.Nat.{ℕ, zero, suc, ◌+◌, ◌-◌, ◌≤◌}
use native.Mathlib.Nat.{le_refl, le_of_suc-le-suc, not-suc-le-zero}
use native.Mathlib.Omega.{arith}
use lib.ListN.{take, drop, set}
use lib.Seq.{take-take, drop-drop}
use Rattle.text.specs.Cells.{Cell, cells}
use Rattle.text.specs.Writes.{AppendsIn}
use Rattle.text.proofs.Sources.{cells-sub}
use Rattle.list_blocks.specs.Blocks.{between}
use Rattle.list_blocks.proofs.Kept.{kept_table}
use Rattle.list_steps.specs.Standing.{Stays}

pub stays-none : (base limit table : ℕ) (bs ns : List ℕ) → Stays base limit table bs ns bs ns
stays-none base limit table bs ns = record { bytes-before = refl; numbers-before = refl; bytes-behind = refl; numbers-behind = refl }

pub stays_then : {base limit table : ℕ} {bs ns bs₁ ns₁ bs₂ ns₂ : List ℕ} → Stays base limit table bs ns bs₁ ns₁ → Stays base limit table bs₁ ns₁ bs₂ ns₂ → Stays base limit table bs ns bs₂ ns₂
stays_then p q =
    record {
      bytes-before = q.bytes-before ∙ p.bytes-before;
      numbers-before = q.numbers-before ∙ p.numbers-before;
      bytes-behind = q.bytes-behind ∙ p.bytes-behind;
      numbers-behind = q.numbers-behind ∙ p.numbers-behind;
    }

-- a text is appended in the areas
pub stays-appends : {base limit table end at to : ℕ} {bs ns bs' ns' : List ℕ} {t : List Cell} → base ≤ at → end ≤ limit → AppendsIn bs ns end at bs' ns' to t → Stays base limit table bs ns bs' ns'
stays-appends {base} {limit} {table} {end} {at} {to} {bs} {ns} {bs'} {ns'} h le p =
    let e : limit ≡ end + (limit - end) = omega arith in
    record {
      bytes-before = sym (take-take base at bs' h) ∙ ap (take base) p.bytes-before ∙ take-take base at bs h;
      numbers-before = sym (take-take base at ns' h) ∙ ap (take base) p.numbers-before ∙ take-take base at ns h;
      bytes-behind =
          ap (λ (k : ℕ). drop k bs') e ∙ sym (drop-drop (limit - end) end bs') ∙ ap (drop (limit - end)) p.bytes-behind ∙ drop-drop (limit - end) end bs
          ∙ ap (λ (k : ℕ). drop k bs) (sym e);
      numbers-behind = kept_table p limit limit table (λ _. le) (le_refl limit);
    }

take-set : (ns : List ℕ) (i x n : ℕ) → n ≤ i → take n (set ns i x) ≡ take n ns
take-set ns i x zero h = refl
take-set [] i x (suc n) h = refl
take-set (y ∷ ns) zero x (suc n) h = absurd (not-suc-le-zero h)
take-set (y ∷ ns) (suc i) x (suc n) h = ap (λ (l : List ℕ). y ∷ l) (take-set ns i x n (le_of_suc-le-suc h))

-- a number is put into the table
pub stays-set : {base limit table : ℕ} {bs : List ℕ} (ns : List ℕ) (i x : ℕ) → base ≤ i → table ≤ i → Stays base limit table bs ns bs (set ns i x)
unfolding between
stays-set {base} {limit} {table} ns i x h g =
    record { bytes-before = refl; numbers-before = take-set ns i x base h; bytes-behind = refl; numbers-behind = ap (drop limit) (take-set ns i x table g) }

-- the cells before the base
pub stays-cells : {base limit table : ℕ} {bs ns bs' ns' : List ℕ} → Stays base limit table bs ns bs' ns' → take base (cells bs' ns') ≡ take base (cells bs ns)
stays-cells {base} {limit} {table} {bs} {ns} {bs'} {ns'} p =
    sym (cells-sub bs' ns' 0 base) ∙ ap (λ (l : List ℕ). cells l (take base ns')) p.bytes-before ∙ ap (λ (l : List ℕ). cells (take base bs) l) p.numbers-before ∙ cells-sub bs ns 0 base
