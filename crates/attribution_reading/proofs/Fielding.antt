-- Laws of the first usable field of a kind. Assumes nothing.
use mathlib.Core.Path.{◌≡◌, refl, sym, ap, ◌∙◌}
use Rattle.std.specs.Prelude.{◌↔◌, map, Some, None}
use Rattle.std.specs.Char.{to_ascii_lowercase}
use Rattle.std.proofs.lemmas.Bool.{false_from_ne_true}
use Rattle.std.proofs.lemmas.Bool.Decides.{nat_tests}
use mathlib.Core.Bool.{Bool, true, false, cond, ◌&&◌, ◌||◌, true≢false}
use mathlib.Core.List.{List, [], ◌∷◌, nil≢cons}
use Prim.Native.Nat.{ℕ, zero, suc, ◌+◌, ◌≤◌, ◌<◌}
use native.Mathlib.Nat.{add-zero}
use native.Mathlib.Omega.{arith}
use native.Mathlib.Decide.{ℕ_discrete}
use lib.Dec.{eqb}
use lib.ListN.{length, drop, get_or, drop_of_length-le, length-drop, get_or-eq_default}
use lib.Seq.{length-take-le, get_or-drop}
use borrow.Author.Tests.{eq-eqb, ne_eqb, eqb-true, lt-ltb}
use Rattle.text.specs.Ascii.{ascii, is, inside, small, spells, digits}
use Rattle.attribution_parts.specs.declared.Kind.{Kind}
use Rattle.attribution_parts.specs.declared.Kind.TheVariants.{Name, PostId, Id, Date, Time}
use Rattle.attribution_reading.specs.declared.facts.Field.{Field}
use Rattle.attribution_reading.specs.declared.facts.Fields.{Fields}
use Rattle.attribution_reading.specs.declared.facts.Lead.{Lead}
use Rattle.attribution_reading.specs.declared.scan.Place.{Place}
use Rattle.attribution_parts.specs.Parts.{Part, field, text, parts}
use Rattle.attribution_parts.specs.Attribution.{is_kind, is_usable, counts, first, field_of, value_of, part_no, leading}
use Rattle.attribution_reading.specs.Places.{bytes, part_of, part_with, Stands, Scanned}
use Rattle.attribution_reading.specs.Reads.{Tells, FieldAt, FieldsAt, field_as, earlier_of, FieldsStep, Found, FoundAll, LeadAt}
use Rattle.attribution_reading.proofs.Laws.{scan-on}

-- ---- words and values

and_left : (a b : Bool) → (a && b) ≡ true → a ≡ true
and_left true b p = refl
and_left false b p = absurd (true≢false (sym p))

and_right : (a b : Bool) → (a && b) ≡ true → b ≡ true
and_right true b p = p
and_right false b p = absurd (true≢false (sym p))

small-is : (b : ℕ) → small b ≡ to_ascii_lowercase b
unfolding small inside
small-is b = grind (arith, nat_tests)

spelt : (w s : List ℕ) → map to_ascii_lowercase s ≡ w → spells w s ≡ true
unfolding spells
spelt [] [] e = refl
spelt [] (b ∷ s) e = absurd (nil≢cons (sym e))
spelt (a ∷ w) [] e = absurd (nil≢cons e)
spelt (a ∷ w) (b ∷ s) e = let h : to_ascii_lowercase b ≡ a = cc in let r : map to_ascii_lowercase s ≡ w = cc in rw (eq-eqb (small b) a (small-is b ∙ h)) (spelt w s r)

spells-small : (w s : List ℕ) → spells w s ≡ true → map to_ascii_lowercase s ≡ w
unfolding spells
spells-small [] [] h = refl
spells-small [] (b ∷ s) h = absurd (true≢false (sym h))
spells-small (a ∷ w) [] h = absurd (true≢false (sym h))
spells-small (a ∷ w) (b ∷ s) h =
    let e : to_ascii_lowercase b ≡ a = sym (small-is b) ∙ eqb-true (small b) a (and_left (eqb (small b) a) (spells w s) h) in
    rw (e, spells-small w s (and_right (eqb (small b) a) (spells w s) h))

-- w is in small letters
pub word-is : (w s : List ℕ) (r : Bool) → map to_ascii_lowercase w ≡ w → (r ≡ true) ↔ (map to_ascii_lowercase s ≡ map to_ascii_lowercase w) → r ≡ spells w s
word-is w s r e h = by r (spells w s) (λ p. spelt w s (h.0 p ∙ e)) (λ p. h.1 (spells-small w s p ∙ sym e))
  where
    by : (a b : Bool) → (a ≡ true → b ≡ true) → (b ≡ true → a ≡ true) → a ≡ b
    by true b f g = sym (f refl)
    by false true f g = g refl
    by false false f g = refl

pub length-bytes : (s : List ℕ) (a n : ℕ) → a + n ≤ length s → length (bytes s a n) ≡ n
unfolding bytes
length-bytes s a n h = let m = length-drop a s in length-take-le n (drop a s) (omega arith)

-- ---- of no kind

tells-nothing : (test : Kind → Bool) → ((k : Kind) → test k ≡ false) → Tells test None
tells-nothing test n = record { holds = λ k e. absurd (cc); alone = λ k e. absurd (true≢false (sym e ∙ n k)) }

none-holds : (test : Kind → Bool) → Tells test None → (k : Kind) → test k ≡ false
none-holds test t k = false_from_ne_true (test k) (λ e. let a = t.alone k e in absurd (cc))

-- ---- parts as fields

pub no_field : (s : List ℕ) (p : Place) (k : Kind) → p.key.size ≡ 0 → counts k (part_of s p) ≡ false
unfolding part_of
no_field s p k e = by p.key.size e
  where
    by : (n : ℕ) → n ≡ 0 → counts k (part_with n s p) ≡ false
    by zero z = refl
    by (suc n) z = absurd (omega arith)

pub a-field : (s : List ℕ) (p : Place) (k : Kind) → (p.key.size ≡ 0 → ⊥)
    → counts k (part_of s p) ≡ (is_kind k (bytes s p.key.from p.key.size) && is_usable k (bytes s p.value.from p.value.size))
unfolding part_of
a-field s p k n = by p.key.size n
  where
    by : (m : ℕ) → (m ≡ 0 → ⊥) → counts k (part_with m s p) ≡ (is_kind k (bytes s p.key.from p.key.size) && is_usable k (bytes s p.value.from p.value.size))
    by zero z = absurd (z refl)
    by (suc m) z = refl

pub value-of : (s : List ℕ) (p : Place) → value_of (part_of s p) ≡ bytes s p.value.from p.value.size
unfolding part_of
value-of s p = by p.key.size
  where
    by : (n : ℕ) → value_of (part_with n s p) ≡ bytes s p.value.from p.value.size
    by zero = refl
    by (suc n) = refl

usable-some : (k : Kind) (v : List ℕ) → is_usable k v ≡ true → 0 < length v
usable-some Name [] h = absurd (true≢false (sym h))
usable-some PostId [] h = absurd (true≢false (sym h))
usable-some Id [] h = absurd (true≢false (sym h))
usable-some Date [] h = absurd (true≢false (sym h))
usable-some Time [] h = absurd (true≢false (sym h))
usable-some k (b ∷ v) h = omega arith

counts_some : (k : Kind) (q : Part) → counts k q ≡ true → 0 < length (value_of q)
counts_some k (field key v) h = usable-some k v (and_right (is_kind k key) (is_usable k v) h)
counts_some k (text w quoted) h = absurd (true≢false (sym h))

pub counts-sized : {s : List ℕ} {at : ℕ} {p : Place} (k : Kind) → Scanned s at p → counts k (part_of s p) ≡ true → 0 < p.value.size
counts-sized {s} {at} {p} k sc h =
    let v = value-of s p in
    let n = length-bytes s p.value.from p.value.size (omega (arith, sc.ends, sc.inside)) in
    let m = counts_some k (part_of s p) h in
    omega (arith, ap length v, n, m)

-- ---- looking for the first

pub part_no_lem : (i : ℕ) (ps : List Part) (q : Part) (rest : List Part) → drop i ps ≡ q ∷ rest → part_no i ps ≡ q
part_no_lem i ps q rest e = sym (get_or-drop i ps 0 (text [] false) ∙ ap (λ (x : ℕ). part_no x ps) (add-zero i)) ∙ ap (λ (l : List Part). part_no 0 l) e

abbrev pub nothing : Field
nothing = record { value = record { from = 0; size = 0 }; index = 0 }

abbrev pub no_fields : Fields
no_fields = record { name = nothing; post = nothing; id = nothing; date = nothing; time = nothing }

-- a leading id is no field
pub found-lead : (s : List ℕ) (k : Kind) (l : Lead) → LeadAt s l → Found s k l.count l.next nothing
unfolding first leading
found-lead s k l h = record { inside = omega arith; no = λ _. rw (← h.stands.rest, h.count) (by (parts 0 s)); yes = λ n. absurd (n refl) }
  where
    by : (ps : List Part) → first k ps ≡ leading ps + first k (drop (leading ps) ps)
    by [] = refl
    by (field key v ∷ ps) = omega arith
    by (text w quoted ∷ ps) = on (quoted && digits w)
      where
        on : (t : Bool) → suc (first k ps) ≡ cond t 1 0 + first k (drop (cond t 1 0) (text w quoted ∷ ps))
        on true = omega arith
        on false = omega arith

module _ (s : List ℕ) (k : Kind) (i at : ℕ) (p : Place) (f : Field) (st : Stands s i at) (sc : Scanned s at p) (d : Found s k i at f) where
  pub found_passed : counts k (part_of s p) ≡ false → Found s k (i + 1) p.next f
  unfolding first
  found_passed h = record { inside = d.inside; no = λ z. d.no z ∙ rw (sc.part, h) (omega arith); yes = d.yes }

  pub found_here : counts k (part_of s p) ≡ true → Found s k (i + 1) p.next (cond (eqb f.value.size 0) (record { value = p.value; index = i }) f)
  unfolding first field_of
  found_here h = elim (ℕ_discrete f.value.size 0) [ yes z ↦ rw (eq-eqb f.value.size 0 z) (new z) | no n ↦ rw (ne_eqb f.value.size 0 n) (old n) ]
    where
      old : (f.value.size ≡ 0 → ⊥) → Found s k (i + 1) p.next f
      old n = record { inside = d.inside; no = λ z. absurd (n z); yes = d.yes }

      new : f.value.size ≡ 0 → Found s k (i + 1) p.next (record { value = p.value; index = i })
      new z =
          let e : first k (parts 0 s) ≡ i = d.no z ∙ rw (sc.part, h) (add-zero i) in
          let w = counts-sized k sc h in
          record {
            inside = omega (arith, sc.ends, sc.inside);
            no = λ o. absurd (omega arith);
            yes = λ _. record {
              words = sym (rw (e, part_no_lem i (parts 0 s) (part_of s p) (parts 0 (drop p.next s)) (st.rest ∙ sc.part)) (value-of s p));
              inside = omega (arith, sc.ends, sc.inside);
              here = λ j lt. rw (lt-ltb 0 p.value.size w, e);
            };
          }

-- there is none
pub no-such-field : (k : Kind) (ps : List Part) → length ps ≤ first k ps → field_of k ps ≡ []
unfolding field_of
no-such-field k ps le = rw (get_or-eq_default ps (text [] false) {n = first k ps} le)

pub found_none : (s : List ℕ) (k : Kind) (f : Field) → f.value.from + f.value.size ≤ length s → f.value.size ≡ 0 → length (parts 0 s) ≤ first k (parts 0 s) → FieldAt s k f
unfolding bytes
found_none s k f ins z le = record {
  words = rw z (sym (no-such-field k (parts 0 s) le));
  inside = ins;
  here = λ j lt. rw z (sym (ne_eqb j (first k (parts 0 s)) (λ (q : j ≡ first k (parts 0 s)). omega arith)));
}

-- behind the last part
pub found_all : (s : List ℕ) (k : Kind) (i at : ℕ) (f : Field) → Stands s i at → length s ≤ at → Found s k i at f → FieldAt s k f
unfolding first parts
found_all s k i at f st le d = elim (ℕ_discrete f.value.size 0) [ yes z ↦ none z | no n ↦ d.yes n ]
  where
    short : (j : ℕ) (qs : List Part) → drop j qs ≡ [] → length qs ≤ j
    short j qs e = let m = length-drop j qs in let z = ap length e in omega (arith, m, z)

    none : f.value.size ≡ 0 → FieldAt s k f
    none z =
        let o : parts 0 (drop at s) ≡ [] = rw (drop_of_length-le s {i = at} le) in
        let e : first k (parts 0 s) ≡ i = d.no z ∙ rw o (add-zero i) in
        let n : length (parts 0 s) ≤ i = short i (parts 0 s) (st.rest ∙ o) in
        found_none s k f d.inside z (omega (arith, e, n))

-- ---- a key is of one kind at most: its first letter says which

abbrev by_letter : ℕ → Kind
by_letter b = cond (is "p" b) PostId (cond (is "i" b) Id (cond (is "d" b) Date (cond (is "t" b) Time Name)))

first-letter : (a : ℕ) (w key : List ℕ) → spells (a ∷ w) key ≡ true → small (get_or key 0 0) ≡ a
unfolding spells
first-letter a w [] h = absurd (true≢false (sym h))
first-letter a w (b ∷ key) h = eqb-true (small b) a (and_left (eqb (small b) a) (spells w key) h)

kind-letter : (k : Kind) (key : List ℕ) → is_kind k key ≡ true → by_letter (small (get_or key 0 0)) ≡ k
kind-letter Name key h = by (spells (ascii "name") key) refl h
  where
    by : (t : Bool) → spells (ascii "name") key ≡ t → (t || spells (ascii "author") key) ≡ true → by_letter (small (get_or key 0 0)) ≡ Name
    by true p o = rw (first-letter 110 (ascii "ame") key p)
    by false p o = rw (first-letter 97 (ascii "uthor") key o)
kind-letter PostId key h = rw (first-letter 112 (ascii "ost_id") key h)
kind-letter Id key h = rw (first-letter 105 (ascii "d") key h)
kind-letter Date key h = rw (first-letter 100 (ascii "ate") key h)
kind-letter Time key h = rw (first-letter 116 (ascii "ime") key h)

pub tells-kind : (j : Kind) (key : List ℕ) → is_kind j key ≡ true → Tells (λ k. is_kind k key) (Some j)
tells-kind j key h = record {
  holds = λ k e. let i : j ≡ k = cc in rw (← i) h;
  alone = λ k e. ap Some (sym (kind-letter j key h) ∙ kind-letter k key e);
}

-- a key that spells none of the words
pub tells-none : (key : List ℕ) → is_kind Name key ≡ false → is_kind PostId key ≡ false → is_kind Id key ≡ false → is_kind Date key ≡ false → is_kind Time key ≡ false
    → Tells (λ k. is_kind k key) None
tells-none key n p i d t = tells-nothing (λ k. is_kind k key) by
  where
    by : (k : Kind) → is_kind k key ≡ false
    by Name = n
    by PostId = p
    by Id = i
    by Date = d
    by Time = t

-- ---- a part is a usable field of the kind of its key, or of none

pub tells-text : (s : List ℕ) (p : Place) → p.key.size ≡ 0 → Tells (λ k. counts k (part_of s p)) None
tells-text s p e = tells-nothing (λ k. counts k (part_of s p)) (λ k. no_field s p k e)

module _ (s : List ℕ) (p : Place) (f : p.key.size ≡ 0 → ⊥) where
  pub tells-other : Tells (λ k. is_kind k (bytes s p.key.from p.key.size)) None → Tells (λ k. counts k (part_of s p)) None
  tells-other t = tells-nothing (λ k. counts k (part_of s p)) (λ k. a-field s p k f ∙ rw (none-holds (λ k. is_kind k (bytes s p.key.from p.key.size)) t k))

  module _ (j : Kind) (t : Tells (λ k. is_kind k (bytes s p.key.from p.key.size)) (Some j)) where
    pub tells-usable : is_usable j (bytes s p.value.from p.value.size) ≡ true → Tells (λ k. counts k (part_of s p)) (Some j)
    tells-usable u = record {
      holds = λ k e. let i : j ≡ k = cc in a-field s p k f ∙ rw (t.holds k e, ← i, u);
      alone = λ k e. t.alone k (and_left (is_kind k (bytes s p.key.from p.key.size)) (is_usable k (bytes s p.value.from p.value.size)) (sym (a-field s p k f) ∙ e));
    }

    pub tells-unusable : is_usable j (bytes s p.value.from p.value.size) ≡ false → Tells (λ k. counts k (part_of s p)) None
    tells-unusable u = tells-nothing (λ k. counts k (part_of s p)) (λ k. a-field s p k f ∙ by k (is_kind k (bytes s p.key.from p.key.size)) refl)
      where
        by : (k : Kind) (b : Bool) → is_kind k (bytes s p.key.from p.key.size) ≡ b → (b && is_usable k (bytes s p.value.from p.value.size)) ≡ false
        by k true e = let i : j ≡ k = let a = t.alone k e in cc in rw (← i) u
        by k false e = refl

-- ---- all kinds

-- behind the leading id
pub read-lead : (s : List ℕ) (l : Lead) → LeadAt s l → FoundAll s l.count l.next no_fields
read-lead s l h = record { stands = h.stands; slow = h.slow; found = λ k. rw (none k) (found-lead s k l h) }
  where
    none : (k : Kind) → field_as k no_fields ≡ nothing
    none Name = refl
    none PostId = refl
    none Id = refl
    none Date = refl
    none Time = refl

pub read-on : {s : List ℕ} {i at : ℕ} {p : Place} {f g : Fields} → FoundAll s i at f → Scanned s at p → FieldsStep s f p i g → FoundAll s (i + 1) p.next g
read-on {s} {i} {at} {p} {f} {g} r sc st = record { stands = scan-on s i at p r.stands sc; slow = omega (arith, sc.grows, r.slow); found = λ k. rw (st.step k) (by k (counts k (part_of s p)) refl) }
  where
    by : (k : Kind) (t : Bool) → counts k (part_of s p) ≡ t → Found s k (i + 1) p.next (cond t (earlier_of (field_as k f) p i) (field_as k f))
    by k true h = found_here s k i at p (field_as k f) r.stands sc (r.found k) h
    by k false h = found_passed s k i at p (field_as k f) r.stands sc (r.found k) h

pub read_all : {s : List ℕ} {i at : ℕ} {f : Fields} → FoundAll s i at f → length s ≤ at → FieldsAt s f
read_all {s} {i} {at} {f} r le = record { name = all Name; post = all PostId; id = all Id; date = all Date; time = all Time }
  where
    all : (k : Kind) → FieldAt s k (field_as k f)
    all k = found_all s k i at (field_as k f) r.stands le (r.found k)
