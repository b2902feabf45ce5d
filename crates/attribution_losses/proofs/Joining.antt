-- Laws of the joined texts behind the attribution in one slice. Assumes nothing.
use mathlib.Core.Path.{◌≡◌, refl, sym, ap, ◌∙◌}
use mathlib.Core.Bool.{Bool, true, false, cond, not}
use mathlib.Core.List.{List, [], ◌∷◌, ◌++◌, append-nil, append_assoc}
use Prim.Native.Nat.{ℕ, zero, suc, ◌+◌, ◌-◌, ◌*◌, ◌≤◌, ◌<◌}
use native.Mathlib.Nat.{add-sub_cancel_left}
use native.Mathlib.Omega.{arith}
use lib.Dec.{eqb, ltb}
use lib.ListN.{length, take, drop, drop_of_length-le}
use lib.Seq.{take-take, drop-drop}
use borrow.Author.Tests.{eq-eqb, ne_eqb, lt-ltb, le-ltb}
use Rattle.text.specs.Ascii.{is_empty}
use Rattle.attribution_reading.specs.declared.scan.Place.{Place}
use Rattle.attribution_parts.specs.declared.Kind.TheVariants.{Name}
use Rattle.attribution_reading.specs.declared.facts.Field.{Field}
use Rattle.attribution_reading.specs.declared.facts.Lead.{Lead}
use Rattle.attribution_parts.specs.Parts.{Part, parts}
use Rattle.attribution_parts.specs.Attribution.{spaced, joined, words_of, texts_of, texts, leading, field_of, counts}
use Rattle.attribution_reading.specs.Places.{bytes, part_of, part_with, Stands, Scanned}
use Rattle.attribution_reading.specs.Reads.{FieldAt, Found, LeadAt}
use Rattle.attribution_losses.specs.Captions.{added, name_texts}
use Rattle.attribution_losses.specs.Lists.{Puts}
use Rattle.attribution_reading.proofs.Laws.{scan-on}
use Rattle.attribution_reading.proofs.Fielding.{length-bytes, counts-sized, nothing, found-lead, found_passed, found_here, found_all}
use Rattle.text.proofs.Areas.{drop-take}
use Rattle.attribution_losses.proofs.Listing.{puts_none, puts_then, puts-as}
use Rattle.attribution_losses.proofs.Losing.{empty-is}

-- ---- what stands before the place stays

bytes_take : (v : List ℕ) (a n : ℕ) → bytes v a n ≡ drop a (take (a + n) v)
unfolding bytes
bytes_take v a n = sym (drop-take a (a + n) v ∙ rw (add-sub_cancel_left a n))

pub bytes-kept : (v v' : List ℕ) (at a n : ℕ) → take at v' ≡ take at v → a + n ≤ at → bytes v' a n ≡ bytes v a n
bytes-kept v v' at a n e le =
    let t : take (a + n) v' ≡ take (a + n) v = sym (take-take (a + n) at v' le) ∙ ap (take (a + n)) e ∙ take-take (a + n) at v le in
    bytes_take v' a n ∙ ap (drop a) t ∙ sym (bytes_take v a n)

pub bytes-bytes : (v : List ℕ) (a n f z : ℕ) → f + z ≤ n → bytes (bytes v a n) f z ≡ bytes v (a + f) z
unfolding bytes
bytes-bytes v a n f z le = ap (take z) (drop-take f n (drop a v)) ∙ take-take z (n - f) (drop f (drop a v)) (omega arith) ∙ ap (take z) (drop-drop f a v)

-- ---- one text more

spaced-assoc : (x y z : List ℕ) → spaced (spaced x y) z ≡ spaced x (spaced y z)
spaced-assoc [] y z = refl
spaced-assoc (a ∷ x) [] z = refl
spaced-assoc (a ∷ x) (b ∷ y) [] = refl
spaced-assoc (a ∷ x) (b ∷ y) (c ∷ z) = append_assoc (a ∷ x) (32 ∷ b ∷ y) (32 ∷ c ∷ z)

spaced-nil : (x : List ℕ) → spaced x [] ≡ x
spaced-nil [] = refl
spaced-nil (a ∷ x) = refl

texts-more : (xs : List Part) (q : Part) → texts_of (xs ++ (q ∷ [])) ≡ spaced (texts_of xs) (words_of q)
unfolding texts_of joined
texts-more [] q = spaced-nil (words_of q)
texts-more (x ∷ xs) q = ap (spaced (words_of x)) (texts-more xs q) ∙ sym (spaced-assoc (words_of x) (texts_of xs) (words_of q))

spaced-added : (x w : List ℕ) (some : Bool) → some ≡ not (is_empty x) → spaced x w ≡ x ++ added some w
unfolding added
spaced-added [] [] some p = refl
spaced-added [] (b ∷ w) some p = rw p
spaced-added (a ∷ x) [] some p = sym (append-nil (a ∷ x))
spaced-added (a ∷ x) (b ∷ w) some p = rw p

some-put : (x : List ℕ) (at to : ℕ) → to ≡ at + length x → ltb at to ≡ not (is_empty x)
some-put [] at to e = le-ltb at to (omega (arith, e))
some-put (b ∷ x) at to e = lt-ltb at to (omega (arith, e))

pub added_none : (some : Bool) (s : List ℕ) (from : ℕ) (size : ℕ) → size ≡ 0 → [] ≡ added some (bytes s from size)
unfolding added bytes
added_none some s from size e = rw e

pub added-first : (s : List ℕ) (from size start at : ℕ) → from + size ≤ length s → (size ≡ 0 → ⊥) → at ≤ start → bytes s from size ≡ added (ltb start at) (bytes s from size)
unfolding added
added-first s from size start at le n h = rw (le-ltb start at h) (by (bytes s from size) (length-bytes s from size le))
  where
    by : (w : List ℕ) → length w ≡ size → w ≡ cond (is_empty w) [] w
    by [] e = refl
    by (b ∷ w) e = refl

pub added_more : (s : List ℕ) (from size start at : ℕ) → from + size ≤ length s → (size ≡ 0 → ⊥) → start < at → (32 ∷ []) ++ bytes s from size ≡ added (ltb start at) (bytes s from size)
unfolding added
added_more s from size start at le n h = rw (lt-ltb start at h) (by (bytes s from size) (length-bytes s from size le))
  where
    by : (w : List ℕ) → length w ≡ size → 32 ∷ w ≡ cond (is_empty w) [] (32 ∷ w)
    by [] e = absurd (n (sym e))
    by (b ∷ w) e = refl

-- ---- the joined texts make the name where there is no name field

no-texts : (s : List ℕ) (f : Field) → FieldAt s Name f → (f.value.size ≡ 0 → ⊥) → [] ≡ name_texts s
unfolding name_texts
no-texts s f h n = let y : is_empty (field_of Name (parts 0 s)) ≡ false = sym (empty-is s Name f h) ∙ ne_eqb f.value.size 0 n in rw y

all-texts : (s : List ℕ) (f : Field) → FieldAt s Name f → f.value.size ≡ 0 → texts_of (drop (leading (parts 0 s)) (parts 0 s)) ≡ name_texts s
unfolding name_texts texts
all-texts s f h z = let y : is_empty (field_of Name (parts 0 s)) ≡ true = sym (empty-is s Name f h) ∙ rw z in rw y

-- what has been put does not count
puts_back : {v v' t : List ℕ} {at at' : ℕ} → Puts v at v' at' t → Puts v at v' at []
puts_back q = record { size = q.size; end = omega arith; keeps = q.keeps; text = λ _. rw append-nil q.keeps }

-- ---- joining part by part

pub record Joining (v : List ℕ) (a n at : ℕ) (v' : List ℕ) (pos to : ℕ) : Type 0 where
  pub index : ℕ
  pub stands : Stands (bytes v a n) index pos
  pub unnamed : Found (bytes v a n) Name index pos nothing
  pub read : List Part
  pub all : read ++ parts 0 (drop pos (bytes v a n)) ≡ drop (leading (parts 0 (bytes v a n))) (parts 0 (bytes v a n))
  pub puts : Puts v at v' to (texts_of read)
  pub small : to ≤ at + 2 * pos

pub join-start : (v : List ℕ) (a n at : ℕ) (l : Lead) → LeadAt (bytes v a n) l → Joining v a n at v l.next at
unfolding texts_of joined
join-start v a n at l h = record {
  index = l.count;
  stands = h.stands;
  unnamed = found-lead (bytes v a n) Name l h;
  read = [];
  all = sym h.stands.rest ∙ ap (λ (i : ℕ). drop i (parts 0 (bytes v a n))) h.count;
  puts = puts_none v at;
  small = omega arith;
}

words-by : (s : List ℕ) (p : Place) → words_of (part_of s p) ≡ cond (eqb p.key.size 0) (bytes s p.value.from p.value.size) []
unfolding part_of
words-by s p = by p.key.size
  where
    by : (k : ℕ) → words_of (part_with k s p) ≡ cond (eqb k 0) (bytes s p.value.from p.value.size) []
    by zero = refl
    by (suc k) = sym (ap (λ (t : Bool). cond t (bytes s p.value.from p.value.size) []) (ne_eqb (suc k) 0 (λ (z : suc k ≡ 0). omega arith)))

added_len : (some : Bool) (w : List ℕ) → length (added some w) ≤ 1 + length w
unfolding added
added_len some [] = omega arith
added_len true (b ∷ w) = omega arith
added_len false (b ∷ w) = omega arith

cond-len : (t : Bool) (w : List ℕ) (n : ℕ) → length w ≡ n → length (cond t w []) ≤ n
cond-len true w n e = omega (arith, e)
cond-len false w n e = omega arith

module _ (v : List ℕ) (a n at : ℕ) (v' : List ℕ) (pos to : ℕ) (j : Joining v a n at v' pos to) (le : a + n ≤ at) (ins : a + n ≤ length v) where
  -- the attribution is still there
  slice_kept : bytes v' a n ≡ bytes v a n
  slice_kept = bytes-kept v v' at a n j.puts.keeps le

  slice-length : length (bytes v a n) ≡ n
  slice-length = length-bytes v a n ins

  pub join-begins : pos < n → (pos < length (bytes v' a n)) × Stands (bytes v' a n) j.index pos
  join-begins lt = let m = slice-length in (rw slice_kept (omega (arith, m)), rw slice_kept j.stands)

  module _ (p : Place) (sc' : Scanned (bytes v' a n) pos p) where
    sc : Scanned (bytes v a n) pos p
    sc = rw (← slice_kept) sc'

    pub join-room : (p.value.from + p.value.size ≤ n) × ((pos < p.next) × ((p.next ≤ n) × (p.value.size + pos ≤ p.next)))
    join-room = let m = slice-length in (omega (arith, m, sc.ends, sc.inside), (sc.grows, (omega (arith, m, sc.inside), omega (arith, sc.starts, sc.ends))))

    same-part : part_of (bytes v' a n) p ≡ part_of (bytes v a n) p
    same-part = rw slice_kept

    -- with a name field nothing is joined
    pub join-named : counts Name (part_of (bytes v' a n) p) ≡ true → Puts v at v' at (name_texts (bytes v a n))
    join-named h =
        let t : counts Name (part_of (bytes v a n) p) ≡ true = rw (← same-part) h in
        let w = counts-sized Name sc t in
        let f = found_here (bytes v a n) Name j.index pos p nothing j.stands sc j.unnamed t in
        puts-as (no-texts (bytes v a n) _ (f.yes (λ z. omega arith)) (λ z. omega arith)) (puts_back j.puts)

    pub join-turn : (v₁ : List ℕ) (r : ℕ) → counts Name (part_of (bytes v' a n) p) ≡ false → Puts v' to v₁ r (added (ltb at to) (cond (eqb p.key.size 0) (bytes v' (a + p.value.from) p.value.size) [])) → Joining v a n at v₁ p.next r
    join-turn v₁ r o q =
        let s = bytes v a n in
        let w : cond (eqb p.key.size 0) (bytes v' (a + p.value.from) p.value.size) [] ≡ words_of (part_of s p) =
        ap (λ (x : List ℕ). cond (eqb p.key.size 0) x []) (sym (bytes-bytes v' a n p.value.from p.value.size join-room.0) ∙ ap (λ (x : List ℕ). bytes x p.value.from p.value.size) slice_kept) ∙ sym (words-by s p) in
        let z : texts_of j.read ++ added (ltb at to) (cond (eqb p.key.size 0) (bytes v' (a + p.value.from) p.value.size) []) ≡ texts_of (j.read ++ (part_of s p ∷ [])) =
        rw w (sym (texts-more j.read (part_of s p) ∙ spaced-added (texts_of j.read) (words_of (part_of s p)) (ltb at to) (some-put (texts_of j.read) at to j.puts.end))) in
        let vl = j.puts.size in
        let m = length-bytes v' (a + p.value.from) p.value.size (omega (arith, vl, ins, join-room.0)) in
        let u = cond-len (eqb p.key.size 0) (bytes v' (a + p.value.from) p.value.size) p.value.size m in
        let y = added_len (ltb at to) (cond (eqb p.key.size 0) (bytes v' (a + p.value.from) p.value.size) []) in
        record {
          index = j.index + 1;
          stands = scan-on s j.index pos p j.stands sc;
          unnamed = found_passed s Name j.index pos p nothing j.stands sc j.unnamed (rw (← same-part) o);
          read = j.read ++ (part_of s p ∷ []);
          all = append_assoc j.read (part_of s p ∷ []) (parts 0 (drop p.next s)) ∙ rw (← sc.part) j.all;
          puts = puts-as z (puts_then j.puts q);
          small = omega (arith, q.end, j.small, u, y, sc.grows, sc.starts, sc.ends);
        }

  pub join-end : n ≤ pos → Puts v at v' to (name_texts (bytes v a n))
  unfolding parts
  join-end h =
      let m = slice-length in
      let d : parts 0 (drop pos (bytes v a n)) ≡ [] = rw (drop_of_length-le (bytes v a n) {i = pos} (omega (arith, m))) in
      let f = found_all (bytes v a n) Name j.index pos nothing j.stands (omega (arith, m)) j.unnamed in
      puts-as (ap texts_of (sym (append-nil j.read) ∙ ap (λ (x : List Part). j.read ++ x) (sym d) ∙ j.all) ∙ all-texts (bytes v a n) _ f refl) j.puts

-- ---- what one part puts

module _ (v : List ℕ) (keylen from size start at : ℕ) where
  abbrev puts-what : List ℕ
  puts-what = added (ltb start at) (cond (eqb keylen 0) (bytes v from size) [])

  pub put-field : (keylen ≡ 0 → ⊥) → Puts v at v at puts-what
  unfolding added
  put-field n = rw (ne_eqb keylen 0 n) (puts_none v at)

  module _ (k : keylen ≡ 0) where
    text-what : added (ltb start at) (bytes v from size) ≡ puts-what
    text-what = rw (eq-eqb keylen 0 k)

    pub put-nothing : size ≡ 0 → Puts v at v at puts-what
    put-nothing z = puts-as (added_none (ltb start at) v from size z ∙ text-what) (puts_none v at)

    module _ (n : size ≡ 0 → ⊥) where
      pub put_first : from + size ≤ length v → at ≤ start → (v' : List ℕ) (r : ℕ) → Puts v at v' r (bytes v from size) → Puts v at v' r puts-what
      put_first le h v' r q = puts-as (added-first v from size start at le n h ∙ text-what) q

      pub put_next : from + size ≤ at → from + size ≤ length v → start < at → (v₁ v₂ : List ℕ) (a r : ℕ) → Puts v at v₁ a (32 ∷ []) → Puts v₁ a v₂ r (bytes v₁ from size) → Puts v at v₂ r puts-what
      put_next ins le h v₁ v₂ a r q w =
          puts-as (added_more v from size start at le n h ∙ text-what) (puts_then q (puts-as (bytes-kept v v₁ at from size q.keeps ins) w))
