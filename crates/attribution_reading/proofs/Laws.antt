-- Laws of values and parts at a place. Assumes nothing.
use mathlib.Core.Path.{◌≡◌, refl, sym, ap, ◌∙◌}
use mathlib.Core.Bool.{Bool, true, false, cond, not, ◌||◌, true≢false}
use mathlib.Core.List.{List, [], ◌∷◌, ◌++◌, nil≢cons}
use Prim.Native.Nat.{ℕ, zero, suc, ◌+◌, ◌-◌, ◌≤◌, ◌<◌}
use native.Mathlib.Nat.{add-zero}
use native.Mathlib.Numerals.{add-one}
use native.Mathlib.Omega.{arith}
use lib.Dec.{eqb}
use lib.ListN.{length, drop, get_or, drop_of_length-le, length-drop, get_or-eq_default}
use lib.Seq.{drop-cons, drop-drop, get_or-drop}
use borrow.Author.Tests.{eq-eqb, ne_eqb, eqb-true, lt-ltb, le-ltb, not-true}
use Rattle.text.specs.Ascii.{inside, to_first}
use Rattle.text.proofs.Bytes.{first_stops, first_past}
use Rattle.attribution_reading.specs.declared.scan.Value.{Value}
use Rattle.attribution_reading.specs.declared.scan.Place.{Place}
use Rattle.attribution_parts.specs.Parts.{Part, is_space, is_quote, in_quotes, value, value_size, starts_key, in_key, key_size, part_at, part_size, size_at, parts, here, more}
use Rattle.attribution_reading.specs.Places.{bytes, RunAt, ValueAt, PartAt, Stands, Scanned, part_of, part_with}

-- ---- values

pub value-run : (s : List ℕ) (at : ℕ) (v : Value) → in_quotes (drop at s) ≡ false → RunAt s at v → ValueAt s at v
unfolding value value_size bytes
value-run s at v q r = record {
  words = rw (r.from, r.size, q);
  quoted = rw (q, r.from, eq-eqb at at refl);
  next = rw q r.next;
  starts = omega (arith, r.from);
  ends = omega (arith, r.from, r.size, r.next);
  inside = r.inside;
}

pub end-unquoted : (s : List ℕ) (at : ℕ) → length s ≤ at → in_quotes (drop at s) ≡ false
unfolding in_quotes
end-unquoted s at le = rw (drop_of_length-le s {i = at} le)

pub other-unquoted : (s : List ℕ) (at : ℕ) → at < length s → is_quote (get_or s at 0) ≡ false → in_quotes (drop at s) ≡ false
unfolding in_quotes
other-unquoted s at lt e = rw (drop-cons s at 0 lt, e)

pub open-unquoted : (s : List ℕ) (at close : ℕ) → at < length s → is_quote (get_or s at 0) ≡ true
    → close ≡ at + 1 + to_first (λ b. eqb b (get_or s at 0)) (drop (at + 1) s) → length s ≤ close → in_quotes (drop at s) ≡ false
unfolding in_quotes
open-unquoted s at close lt e p le =
    let n : length (drop (suc at) s) ≡ length s - suc at = length-drop (suc at) s in
    let f : to_first (λ b. eqb b (get_or s at 0)) (drop (at + 1) s) ≡ to_first (λ b. eqb b (get_or s at 0)) (drop (suc at) s) = rw add-one in
    rw (drop-cons s at 0 lt, e) (le-ltb (to_first (λ b. eqb b (get_or s at 0)) (drop (suc at) s)) (length (drop (suc at) s)) (omega (arith, n, f)))

pub value-quoted : (s : List ℕ) (at close : ℕ) → at < length s → is_quote (get_or s at 0) ≡ true
    → close ≡ at + 1 + to_first (λ b. eqb b (get_or s at 0)) (drop (at + 1) s) → close < length s
    → ValueAt s at (record { words = record { from = at + 1; size = close - (at + 1) }; next = close + 1 })
unfolding in_quotes value value_size bytes
value-quoted s at close lt e p h =
    let n : length (drop (suc at) s) ≡ length s - suc at = length-drop (suc at) s in
    let f : to_first (λ b. eqb b (get_or s at 0)) (drop (at + 1) s) ≡ to_first (λ b. eqb b (get_or s at 0)) (drop (suc at) s) = rw add-one in
    let k : close - (at + 1) ≡ to_first (λ b. eqb b (get_or s at 0)) (drop (suc at) s) = omega (arith, f, p) in
    let q : in_quotes (drop at s) ≡ true = rw (drop-cons s at 0 lt, e) (lt-ltb (to_first (λ b. eqb b (get_or s at 0)) (drop (suc at) s)) (length (drop (suc at) s)) (omega (arith, n, f, p))) in
    record {
      words = rw (q, k, add-one, drop-cons s at 0 lt);
      quoted = rw (q, ne_eqb (at + 1) at (omega arith));
      next = rw (q, drop-cons s at 0 lt) (omega (arith, f, p));
      starts = omega arith;
      ends = omega (arith, p);
      inside = omega arith;
    }

-- ---- keys

abbrev no_key : ℕ → Bool
no_key b = not (in_key b)

key-first : (s : List ℕ) (at : ℕ) → starts_key (get_or (drop at s) 0 0) ≡ starts_key (get_or s at 0)
key-first s at = rw (get_or-drop at s 0 0, add-zero)

pub no_start : (s : List ℕ) (at : ℕ) → starts_key (get_or s at 0) ≡ false → key_size (drop at s) ≡ 0
unfolding key_size
no_start s at e = rw (key-first s at, e)

pub no-equals : (s : List ℕ) (at end : ℕ) → starts_key (get_or s at 0) ≡ true → end ≡ at + to_first no_key (drop at s) → (get_or s end 0 ≡ 61 → ⊥) → key_size (drop at s) ≡ 0
unfolding key_size
no-equals s at end e p n = rw (key-first s at, e, get_or-drop at s (to_first no_key (drop at s)) 0, ← p, ne_eqb (get_or s end 0) 61 n)

pub no_more : (s : List ℕ) (at end : ℕ) → starts_key (get_or s at 0) ≡ true → end ≡ at + to_first no_key (drop at s) → length s ≤ end → key_size (drop at s) ≡ 0
no_more s at end e p le = no-equals s at end e p (λ q. let z = get_or-eq_default s 0 {n = end} le in omega arith)

some_key : (s : List ℕ) (at end : ℕ) → starts_key (get_or s at 0) ≡ true → end ≡ at + to_first no_key (drop at s) → get_or s end 0 ≡ 61 → key_size (drop at s) ≡ to_first no_key (drop at s)
unfolding key_size
some_key s at end e p q = rw (key-first s at, e, get_or-drop at s (to_first no_key (drop at s)) 0, ← p, q)

starts_more : (s : List ℕ) (at : ℕ) → at < length s → starts_key (get_or s at 0) ≡ true → to_first no_key (drop at s) ≡ suc (to_first no_key (drop (suc at) s))
unfolding to_first
starts_more s at lt e = rw (drop-cons s at 0 lt, e)

-- ---- a key's bytes are of the run that it begins

either : {P : Type 0} (a b : Bool) → (a ≡ true → P) → (b ≡ true → P) → (a || b) ≡ true → P
either true b f g h = f refl
either false b f g h = g h

space-no-key : (b : ℕ) → is_space b ≡ true → no_key b ≡ true
unfolding inside
space-no-key b = either _ _ (either _ _ (either _ _ (either _ _ (is 32 refl) (is 9 refl)) (is 10 refl)) (is 13 refl)) (is 12 refl)
  where
    is : (x : ℕ) → no_key x ≡ true → eqb b x ≡ true → no_key b ≡ true
    is x h e = rw (eqb-true b x e) h

first-earlier : (p q : ℕ → Bool) (s : List ℕ) → ((b : ℕ) → q b ≡ true → p b ≡ true) → to_first p s ≤ to_first q s
unfolding to_first
first-earlier p q [] h = omega arith
first-earlier p q (b ∷ s) h = by (p b) (q b) (h b) (first-earlier p q s h)
  where
    by : (t u : Bool) → (u ≡ true → t ≡ true) → to_first p s ≤ to_first q s → cond t 0 (suc (to_first p s)) ≤ cond u 0 (suc (to_first q s))
    by true u f r = omega arith
    by false true f r = absurd (true≢false (sym (f refl)))
    by false false f r = omega arith

pub key-run : (s : List ℕ) (at end : ℕ) → end ≡ at + to_first no_key (drop at s) → end + to_first is_space (drop end s) ≡ at + to_first is_space (drop at s)
key-run s at end p =
    let n = to_first no_key (drop at s) in
    let e = first_past is_space (drop at s) n (first-earlier no_key is_space (drop at s) space-no-key) in
    let d : drop n (drop at s) ≡ drop end s = drop-drop n at s ∙ ap (λ (x : ℕ). drop x s) (sym p) in
    let f : n + to_first is_space (drop end s) ≡ to_first is_space (drop at s) = rw (← d) e in
    omega arith

pub key-unquoted : (s : List ℕ) (at : ℕ) → at < length s → starts_key (get_or s at 0) ≡ true → in_quotes (drop at s) ≡ false
unfolding inside
key-unquoted s at lt h = other-unquoted s at lt (by (get_or s at 0) (is_quote (get_or s at 0)) refl h)
  where
    is : (b x : ℕ) → starts_key x ≡ false → eqb b x ≡ true → starts_key b ≡ true → ⊥
    is b x f e h = true≢false (sym (rw (eqb-true b x e) at h) ∙ f)

    by : (b : ℕ) (t : Bool) → is_quote b ≡ t → starts_key b ≡ true → t ≡ false
    by b true e h = absurd (either _ _ (λ i. is b 34 refl i h) (λ i. is b 39 refl i h) e)
    by b false e h = refl

-- ---- parts

pub part-text : (s : List ℕ) (at : ℕ) (v : Value) → key_size (drop at s) ≡ 0 → ValueAt s at v → PartAt s at (record { key = record { from = at; size = 0 }; value = v.words; next = v.next })
unfolding part_of part_at part_size
part-text s at v k h = record { part = rw (k, h.words, h.quoted); next = rw k h.next; key = omega arith; key-ends = omega (arith, h.next); starts = h.starts; ends = h.ends; inside = h.inside }

pub part_field : (s : List ℕ) (at end : ℕ) (v : Value) → at < length s → starts_key (get_or s at 0) ≡ true → end ≡ at + to_first no_key (drop at s) → get_or s end 0 ≡ 61
    → ValueAt s (end + 1) v → PartAt s at (record { key = record { from = at; size = end - at }; value = v.words; next = v.next })
unfolding part_of part_at part_size bytes
part_field s at end v lt e p q h =
    let m = to_first no_key (drop (suc at) s) in
    let n = starts_more s at lt e in
    let k : key_size (drop at s) ≡ suc m = some_key s at end e p q ∙ n in
    let z : end - at ≡ suc m = omega (arith, n, p) in
    let w : end + 1 ≡ at + suc (suc m) = omega (arith, n, p) in
    let d : drop (suc (suc m)) (drop at s) ≡ drop (end + 1) s = drop-drop (suc (suc m)) at s ∙ ap (λ (x : ℕ). drop x s) (sym w) in
    record { part = rw (z, k, d, h.words); next = rw (k, d) (h.next ∙ omega arith); key = omega arith; key-ends = omega (arith, h.next, p); starts = omega (arith, h.starts, p); ends = h.ends; inside = h.inside }

-- ---- the parts from a place on

parts-skip : (k : ℕ) (s : List ℕ) → parts k s ≡ parts 0 (drop k s)
unfolding parts
parts-skip zero s = refl
parts-skip (suc k) [] = refl
parts-skip (suc k) (b ∷ s) = parts-skip k s

-- spaces before the first part do not matter
parts-trim : (s : List ℕ) → parts 0 s ≡ parts 0 (drop (to_first (λ b. not (is_space b)) s) s)
unfolding parts to_first
parts-trim [] = refl
parts-trim (b ∷ s) = by (is_space b) refl (parts-trim s)
  where
    by : (t : Bool) → is_space b ≡ t → parts 0 s ≡ parts 0 (drop (to_first (λ b. not (is_space b)) s) s)
        → here (is_space b) (b ∷ s) ++ parts (more (is_space b) (b ∷ s)) s ≡ parts 0 (drop (cond (not (is_space b)) 0 (suc (to_first (λ b. not (is_space b)) s))) (b ∷ s))
    by true p h = rw p h
    by false p h = rw p (rw p)

pub skipped : (s : List ℕ) (at r : ℕ) → r ≡ at + to_first (λ b. not (is_space b)) (drop at s) → parts 0 (drop at s) ≡ parts 0 (drop r s)
skipped s at r p = parts-trim (drop at s) ∙ ap (parts 0) (drop-drop (to_first (λ b. not (is_space b)) (drop at s)) at s ∙ ap (λ (x : ℕ). drop x s) (sym p))

pub stops : (s : List ℕ) (at r : ℕ) → r ≡ at + to_first (λ b. not (is_space b)) (drop at s) → r < length s → is_space (get_or s r 0) ≡ false
stops s at r p lt =
    let n = length-drop at s in
    let h = first_stops (λ b. not (is_space b)) (drop at s) (omega (arith, n, p)) in
    let e : get_or (drop at s) (to_first (λ b. not (is_space b)) (drop at s)) 0 ≡ get_or s r 0 = rw (get_or-drop at s (to_first (λ b. not (is_space b)) (drop at s)) 0, ← p) in
    not-true (is_space (get_or s r 0)) (rw (← e) h)

-- a part takes a byte at least
some_size : (s : List ℕ) (at : ℕ) → at < length s → is_space (get_or s at 0) ≡ false → 0 < part_size (drop at s)
unfolding part_size value_size to_first
some_size s at lt e = by (key_size (drop at s)) (in_quotes (drop at s)) (run (drop at s) (drop-cons s at 0 lt))
  where
    run : (x : List ℕ) → x ≡ get_or s at 0 ∷ drop (suc at) s → 0 < to_first is_space x
    run x p = rw (p, e) (omega arith)

    by : (k : ℕ) (q : Bool) → 0 < to_first is_space (drop at s)
        → 0 < size_at k (drop at s)
    by zero q h = byq (in_quotes (drop at s)) h
      where
        byq : (t : Bool) → 0 < to_first is_space (drop at s) → 0 < cond t (to_first (λ b. eqb b (get_or (drop at s) 0 0)) (drop 1 (drop at s)) + 2) (to_first is_space (drop at s))
        byq true h = omega arith
        byq false h = h
    by (suc k) q h = omega arith

pub parts_first : (s : List ℕ) (at : ℕ) → at < length s → is_space (get_or s at 0) ≡ false → parts 0 (drop at s) ≡ part_at (drop at s) ∷ parts 0 (drop (at + part_size (drop at s)) s)
unfolding parts
parts_first s at lt e =
    let z = some_size s at lt e in
    let w : suc at + (part_size (drop at s) - 1) ≡ at + part_size (drop at s) = omega arith in
    let c : parts 0 (get_or s at 0 ∷ drop (suc at) s) ≡ part_at (get_or s at 0 ∷ drop (suc at) s) ∷ parts (part_size (get_or s at 0 ∷ drop (suc at) s) - 1) (drop (suc at) s) = rw e in
    ap (parts 0) (drop-cons s at 0 lt) ∙ c ∙ rw (← drop-cons s at 0 lt)
    (ap (λ (l : List Part). part_at (drop at s) ∷ l) (parts-skip (part_size (drop at s) - 1) (drop (suc at) s) ∙ ap (parts 0) (drop-drop (part_size (drop at s) - 1) (suc at) s ∙ ap (λ (x : ℕ). drop x s) w)))

-- the place of the next part does not matter
place-next : (s : List ℕ) (k : ℕ) (p : Place) (n : ℕ) → part_with k s p ≡ part_with k s (record { key = p.key; value = p.value; next = n })
place-next s zero p n = refl
place-next s (suc k) p n = refl

drop_more : {A : Type 0} (i : ℕ) (xs : List A) (x : A) (ys : List A) → drop i xs ≡ x ∷ ys → drop (suc i) xs ≡ ys
drop_more zero xs x ys e = rw e
drop_more (suc i) [] x ys e = absurd (nil≢cons e)
drop_more (suc i) (y ∷ xs) x ys e = drop_more i xs x ys e

-- ---- scanning part by part

pub begin : (s : List ℕ) (at : ℕ) → at ≡ 0 + to_first (λ b. not (is_space b)) (drop 0 s) → at ≤ length s → Stands s 0 at
begin s at p le = record { inside = le; begins = stops s 0 at p; rest = skipped s 0 at p }

pub scanned : (s : List ℕ) (at to : ℕ) (p : Place) → at < length s → is_space (get_or s at 0) ≡ false → PartAt s at p
    → to ≡ p.next + to_first (λ b. not (is_space b)) (drop p.next s) → to ≤ length s
    → Scanned s at (record { key = p.key; value = p.value; next = to })
unfolding part_of
scanned s at to p lt b h q le =
    let z = some_size s at lt b in
    record {
      part = parts_first s at lt b ∙ (let r : parts 0 (drop (at + part_size (drop at s)) s) ≡ parts 0 (drop to s) = ap (λ (x : ℕ). parts 0 (drop x s)) (sym h.next) ∙ skipped s p.next to q in
          rw (← r, ← h.part) (ap (λ (x : Part). x ∷ parts 0 (drop (at + part_size (drop at s)) s)) (place-next s p.key.size p to)));
      key = h.key;
      key-ends = omega (arith, h.key-ends, q);
      starts = h.starts;
      ends = omega (arith, h.ends, q);
      grows = omega (arith, z, h.next, q);
      inside = le;
      begins = stops s p.next to q;
    }

pub scan-on : (s : List ℕ) (i at : ℕ) (p : Place) → Stands s i at → Scanned s at p → Stands s (i + 1) p.next
scan-on s i at p st sc = record {
  inside = sc.inside;
  begins = sc.begins;
  rest = rw add-one (drop_more i (parts 0 s) (part_of s p) (parts 0 (drop p.next s)) (st.rest ∙ sc.part));
}
