-- Laws of the leading id and of the caption's id. Assumes nothing.
use mathlib.Core.Path.{◌≡◌, refl, sym, ap, ◌∙◌}
use mathlib.Core.Bool.{true, false, cond, not, ◌&&◌}
use mathlib.Core.List.{List, [], ◌∷◌}
use Prim.Native.Nat.{ℕ, zero, suc, ◌+◌, ◌≤◌, ◌<◌}
use native.Mathlib.Omega.{arith}
use native.Mathlib.Decide.{dec_le}
use lib.Dec.{eqb, ltb}
use lib.ListN.{length, drop, get_or, drop_of_length-le}
use borrow.Author.Tests.{ne_eqb, lt-ltb, le-ltb}
use Rattle.text.specs.Ascii.{digits}
use Rattle.attribution_reading.specs.declared.scan.Place.{Place}
use Rattle.attribution_parts.specs.declared.Kind.TheVariants.{PostId, Id}
use Rattle.attribution_reading.specs.declared.facts.Lead.{Lead}
use Rattle.attribution_reading.specs.declared.facts.Fields.{Fields}
use Rattle.attribution_parts.specs.Parts.{parts, is_quote, in_quotes, key_size, read_at, part_at, part_size}
use Rattle.attribution_parts.specs.Attribution.{value_of, part_no, is_leading, leading, leading_id, or_else, field_of, id}
use Rattle.attribution_reading.specs.Places.{bytes, part_of, part_with, Stands, Scanned}
use Rattle.attribution_reading.specs.Reads.{FieldsAt, LeadAt, id_by, IdAt}
use Rattle.attribution_reading.proofs.Laws.{other-unquoted, parts_first, scan-on}
use Rattle.attribution_reading.proofs.Fielding.{length-bytes, part_no_lem, value-of}

-- ---- the leading id

module _ (s : List ℕ) (p : Place) where
  pub lead-is : is_leading (part_of s p) ≡ (eqb p.key.size 0 && (not (eqb p.value.from p.key.from) && digits (bytes s p.value.from p.value.size)))
  unfolding part_of
  lead-is = by p.key.size
    where
      by : (n : ℕ) → is_leading (part_with n s p) ≡ (eqb n 0 && (not (eqb p.value.from p.key.from) && digits (bytes s p.value.from p.value.size)))
      by zero = refl
      by (suc n) = rw (ne_eqb (suc n) 0 (omega arith))

pub lead-none : (s : List ℕ) (at : ℕ) → Stands s 0 at → is_leading (part_no 0 (parts 0 s)) ≡ false → LeadAt s (record { id = record { from = 0; size = 0 }; count = 0; next = at })
unfolding leading leading_id bytes
lead-none s at st e = record { words = rw e; inside = omega arith; count = rw e; slow = omega arith; stands = st }

module _ (s : List ℕ) (at : ℕ) (st : Stands s 0 at) where
  pub lead-end : length s ≤ at → LeadAt s (record { id = record { from = 0; size = 0 }; count = 0; next = at })
  unfolding parts
  lead-end le = let d : parts 0 s ≡ [] = st.rest ∙ rw (drop_of_length-le s {i = at} le) in lead-none s at st (rw d)

  pub lead-unquoted : at < length s → is_quote (get_or s at 0) ≡ false → LeadAt s (record { id = record { from = 0; size = 0 }; count = 0; next = at })
  unfolding part_at
  lead-unquoted lt n =
      let q = part_no_lem 0 (parts 0 s) (part_at (drop at s)) (parts 0 (drop (at + part_size (drop at s)) s)) (st.rest ∙ parts_first s at lt (st.begins lt)) in
      lead-none s at st (ap is_leading q ∙ by (key_size (drop at s)) (other-unquoted s at lt n))
    where
      by : (k : ℕ) → in_quotes (drop at s) ≡ false → is_leading (read_at k (drop at s)) ≡ false
      by zero e = rw e
      by (suc k) e = refl

  module _ (p : Place) (sc : Scanned s at p) where
    first_part : part_no 0 (parts 0 s) ≡ part_of s p
    first_part = part_no_lem 0 (parts 0 s) (part_of s p) (parts 0 (drop p.next s)) (st.rest ∙ sc.part)

    pub lead-other : is_leading (part_of s p) ≡ false → LeadAt s (record { id = record { from = 0; size = 0 }; count = 0; next = at })
    lead-other e = lead-none s at st (ap is_leading first_part ∙ e)

    pub lead-found : is_leading (part_of s p) ≡ true → LeadAt s (record { id = p.value; count = 1; next = p.next })
    unfolding leading leading_id
    lead-found e =
        let f : is_leading (part_no 0 (parts 0 s)) ≡ true = ap is_leading first_part ∙ e in
        record {
          words = sym (rw f (ap value_of first_part ∙ value-of s p));
          inside = omega (arith, sc.ends, sc.inside);
          count = rw f;
          slow = omega (arith, sc.grows);
          stands = scan-on s 0 at p st sc;
        }

-- ---- the caption's id

-- the first of two texts, where it stands in some bytes
first_some : (s : List ℕ) (f z : ℕ) (x t : List ℕ) → f + z ≤ length s → bytes s f z ≡ x → 0 < z → bytes s f z ≡ or_else x t
first_some s f z [] t le w h = let n = length-bytes s f z le in let e = ap length w in absurd (omega (arith, n, e))
first_some s f z (b ∷ x) t le w h = w

-- and the second, where the first stands in none
first-none : (s : List ℕ) (f z : ℕ) (x t : List ℕ) → bytes s f z ≡ x → z ≤ 0 → t ≡ or_else x t
unfolding bytes
first-none s f z x t w h = let e : z ≡ 0 = omega arith in rw (← w, e)

module _ (s : List ℕ) (f : Fields) (l : Lead) (fs : FieldsAt s f) (ld : LeadAt s l) where
  -- the id behind that of a post_id field
  abbrev other_id : List ℕ
  other_id = or_else (field_of Id (parts 0 s)) (leading_id (parts 0 s))

  by-post : 0 < f.post.value.size → IdAt s f.post.value
  unfolding id
  by-post h = record { words = first_some s f.post.value.from f.post.value.size (field_of PostId (parts 0 s)) other_id fs.post.inside fs.post.words h; inside = fs.post.inside }

  module _ (p : f.post.value.size ≤ 0) where
    no-post : other_id ≡ id (parts 0 s)
    unfolding id
    no-post = first-none s f.post.value.from f.post.value.size (field_of PostId (parts 0 s)) other_id fs.post.words p

    by-id : 0 < f.id.value.size → IdAt s f.id.value
    by-id h = record { words = first_some s f.id.value.from f.id.value.size (field_of Id (parts 0 s)) (leading_id (parts 0 s)) fs.id.inside fs.id.words h ∙ no-post; inside = fs.id.inside }

    by-lead : f.id.value.size ≤ 0 → IdAt s l.id
    by-lead q = record { words = ld.words ∙ first-none s f.id.value.from f.id.value.size (field_of Id (parts 0 s)) (leading_id (parts 0 s)) fs.id.words q ∙ no-post; inside = ld.inside }

    no-post-id : IdAt s (cond (ltb 0 f.id.value.size) f.id.value l.id)
    no-post-id = elim (dec_le f.id.value.size 0) [ yes q ↦ rw (le-ltb 0 f.id.value.size q) (by-lead q) | no q ↦ rw (lt-ltb 0 f.id.value.size (omega arith)) (by-id (omega arith)) ]

  pub id-at : IdAt s (id_by f l)
  id-at = elim (dec_le f.post.value.size 0) [ yes p ↦ rw (le-ltb 0 f.post.value.size p) (no-post-id p) | no p ↦ rw (lt-ltb 0 f.post.value.size (omega arith)) (by-post (omega arith)) ]
