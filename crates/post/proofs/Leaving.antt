-- Laws of what a call leaves where all that is lent for the result is cleared at once. Assumes nothing.
use mathlib.Core.Path.{◌≡◌, refl, ◌∙◌}
use mathlib.Core.List.{List}
use Prim.Native.Nat.{ℕ, ◌-◌, ◌≤◌, min}
use native.Mathlib.Omega.{arith}
use lib.ListN.{length, take}
use lib.Seq.{length-take-le}
use Rattle.std.specs.Prelude.{Result, Ok, Err}
use Rattle.std.proofs.lemmas.List.{take_min}
use Rattle.text.specs.Writes.{cleared}
use Rattle.text.specs.Cells.{Cell}
use Rattle.text.proofs.Clearing.{laid-cleared}
use Rattle.lending.specs.declared.answer.Converted.{Converted}
use Rattle.lending.specs.declared.lent.Refusal.{Refusal}
use Rattle.attribution_losses.specs.declared.loss.Counts.{Counts}
use Rattle.post.specs.Calls.{Lays, Leaves, EndsIn}
use Rattle.post.proofs.Calling.{with_losses, with-refused, with-done}

-- a text, laid out in such slices, and then left with its losses
pub left-ends : {t : List Cell} {laid wanted : Result ℕ Refusal} (c : Counts) (out plain words : List ℕ) {out₁ plain₁ out' plain' words' : List ℕ} {r : Result Converted Refusal}
    → Lays t (length out) (length plain) wanted laid out₁ plain₁ → length out₁ ≡ length out → length plain₁ ≡ length plain → c.bytes ≤ length words → Leaves laid c out₁ plain₁ words r out' plain' words'
    → EndsIn t (take c.bytes words) (with_losses c.losses c.bytes wanted) out plain words r out' plain' words'
left-ends {laid = Ok n} c out plain words p eo ep h q =
    rw q.0 (
      with-done c.losses c.bytes p.answer refl,
      record { laid = rw (q.1.0, q.1.1.0) p.laid; spelled = q.1.1.1 ∙ laid-cleared (take c.bytes words) words c.bytes (length words) refl (length-take-le c.bytes words h) refl },
    )
left-ends {laid = Err e} c out plain words p eo ep h q = rw q.0 (with-refused c.losses c.bytes p.answer refl, rw (eo, ep) at q.1)

-- zeros from a place on, or from the end on where it lies behind
pub cleared-within : {a : ℕ} (n : ℕ) (xs : List ℕ) → a ≡ min n (length xs) → cleared a xs ≡ cleared n xs
unfolding cleared
cleared-within {a} n xs e = let f : length xs - a ≡ length xs - n = omega arith in rw (f, e, take_min n xs) refl
