-- What a call that is not turned back by the refusals 1 to 4 knows of the lent sizes. Assumes nothing.
use mathlib.Core.Path.{◌≡◌, refl}
use mathlib.Core.Bool.{Bool, true, false, cond}
use mathlib.Core.List.{List}
use Prim.Native.Nat.{ℕ, ◌+◌, ◌*◌, ◌≤◌}
use native.Mathlib.Omega.{arith}
use lib.ListN.{length}
use lib.Dec.{leb}
use Rattle.std.specs.Prelude.{Result, Ok, Err}
use borrow.Author.Tests.{leb-true}
use Rattle.text.proofs.Bytes.{both}
use Rattle.text.specs.Bounds.{text_most, out_most}
use Rattle.lending.specs.Lent.{spans_right, sizes_right, checked}
use Rattle.lending.specs.declared.lent.Refusal.{Refusal}
use Rattle.lending.specs.declared.lent.Lent.{Lent}

pub record Enough (n : ℕ) (l : Lent) : Type 0 where
  pub text : n ≤ text_most
  pub out : l.out ≤ out_most
  pub origins : l.out ≤ l.origins
  pub work : n + 3 * l.out ≤ l.work
  pub numbers : 8 * n + 3 * l.out + 64 ≤ l.numbers

first_fine : (t : Bool) (x : Result (Unit {0}) Refusal) (r : Refusal) → cond t x (Err r) ≡ Ok tt → (t ≡ true) × (x ≡ Ok tt)
first_fine true x r h = (refl, h)
first_fine false x r h = let z : ◌≡◌ {A = ℕ} 0 1 = cc in absurd (omega arith)

pub enough : (text : List ℕ) (l : Lent) → checked text l ≡ Ok tt → Enough (length text) l
unfolding checked sizes_right
enough text l h =
    let a = first_fine (leb (length text) text_most) _ _ h in
    let b = first_fine _ _ _ a.1 in
    let s = both _ (spans_right (length text) l.spans) b.0 in
    let k = both _ (leb (8 * length text + 3 * l.out + 64) l.numbers) s.0 in
    let w = both _ (leb (length text + 3 * l.out) l.work) k.0 in
    let o = both (leb l.out out_most) (leb l.out l.origins) w.0 in
    record {
      text = leb-true _ _ a.0;
      out = leb-true _ _ o.0;
      origins = leb-true _ _ o.1;
      work = leb-true _ _ w.1;
      numbers = leb-true _ _ k.1;
    }
