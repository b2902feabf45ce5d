-- Parts of which none is a field, as a text without `=` has them. Assumes nothing.
use mathlib.Core.Path.{◌≡◌, refl, ap}
use mathlib.Core.Bool.{Bool, true, false, cond, not, ◌&&◌}
use mathlib.Core.List.{List, [], ◌∷◌, ◌++◌}
use Prim.Native.Nat.{ℕ, zero, suc, ◌≤◌}
use native.Mathlib.Omega.{arith}
use native.Mathlib.Decide.{dec_le}
use lib.Dec.{ltb}
use lib.ListN.{length, get_or, get_or-eq_default}
use borrow.Author.Tests.{ltb-false}
use Rattle.text.specs.Ascii.{is, to_first}
use Rattle.text.proofs.Bytes.{first-plain-at}
use Rattle.attribution_parts.specs.declared.Kind.{Kind}
use Rattle.attribution_parts.specs.declared.Kind.TheVariants.{Name, PostId, Id, Date, Time}
use Rattle.attribution_parts.specs.Parts.{Part, text, is_space, value, in_quotes, starts_key, in_key, key_size, part_at, here, more, parts}
use Rattle.attribution_parts.specs.Attribution.{first, field_of}
use Rattle.attribution_reading.specs.Reads.{FieldAt, FieldsAt}
use Rattle.attribution_reading.proofs.Fielding.{nothing, no_fields, no-such-field, found_none}

pub data NoFields : List Part → Type 0 where
  no_part : NoFields []
  a-text : (w : List ℕ) (quoted : Bool) {ps : List Part} → NoFields ps → NoFields (text w quoted ∷ ps)

-- ---- a text without `=`

abbrev NoEquals : List ℕ → Type 0
NoEquals s = (i : ℕ) → is "=" (get_or s i 0) ≡ false

nowhere : (s : List ℕ) → length s ≤ to_first (is "=") s → NoEquals s
nowhere s h i = elim (dec_le (length s) i) [ yes le ↦ rw (get_or-eq_default s 0 {n = i} le) | no lt ↦ first-plain-at (is "=") s 0 i (omega arith) (omega arith) (omega arith) ]

no_key_lem : (s : List ℕ) → NoEquals s → key_size s ≡ 0
unfolding key_size
no_key_lem s h = rw (h (to_first (λ b. not (in_key b)) s)) (by (starts_key (get_or s 0 0)))
  where
    by : (t : Bool) → cond (t && false) (to_first (λ b. not (in_key b)) s) 0 ≡ 0
    by true = refl
    by false = refl

no-fields-in : (skip : ℕ) (s : List ℕ) → NoEquals s → NoFields (parts skip s)
unfolding parts part_at
no-fields-in skip [] h = no_part
no-fields-in (suc skip) (b ∷ s) h = no-fields-in skip s (λ i. h (suc i))
no-fields-in zero (b ∷ s) h = by (is_space b) (no-fields-in (more (is_space b) (b ∷ s)) s (λ i. h (suc i)))
  where
    by : (t : Bool) → NoFields (parts (more t (b ∷ s)) s) → NoFields (here t (b ∷ s) ++ parts (more t (b ∷ s)) s)
    by true r = r
    by false r = rw (no_key_lem (b ∷ s) h) (a-text (value (b ∷ s)) (in_quotes (b ∷ s)) r)

pub no_fields_lem : (s : List ℕ) → ltb (to_first (is "=") s) (length s) ≡ false → NoFields (parts 0 s)
no_fields_lem s h = no-fields-in 0 s (nowhere s (ltb-false (to_first (is "=") s) (length s) h))

-- ---- what such parts say

module _ (k : Kind) where
  first-none : {ps : List Part} → NoFields ps → first k ps ≡ length ps
  unfolding first
  first-none no_part = refl
  first-none (a-text w quoted h) = ap suc (first-none h)

  pub field-none : (ps : List Part) → NoFields ps → field_of k ps ≡ []
  field-none ps h = no-such-field k ps (let e = first-none h in omega (arith, e))

pub read-nothing : (s : List ℕ) → NoFields (parts 0 s) → FieldsAt s no_fields
read-nothing s h = record { name = none Name; post = none PostId; id = none Id; date = none Date; time = none Time }
  where
    none : (k : Kind) → FieldAt s k nothing
    none k = found_none s k nothing (omega arith) refl (let e = first-none k h in omega (arith, e))
