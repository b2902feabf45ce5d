-- Laws of the losses part by part. Assumes nothing.
use mathlib.Core.Path.{◌≡◌, refl, sym, ap, ◌∙◌}
use mathlib.Core.Bool.{Bool, true, false, cond, not, ◌&&◌, ◌||◌, true≢false}
use mathlib.Core.List.{List, [], ◌∷◌, ◌++◌, append-nil, append_assoc}
use Prim.Native.Nat.{ℕ, zero, suc, ◌+◌, ◌-◌, ◌*◌, ◌≤◌, ◌<◌}
use native.Mathlib.Numerals.{add-one}
use native.Mathlib.Omega.{arith}
use lib.Dec.{eqb, ltb}
use lib.ListN.{length, drop, drop_of_length-le, length-drop}
use borrow.Author.Tests.{eq-eqb, ne_eqb}
use Rattle.text.specs.Ascii.{ascii, is, is_empty, to_first}
use Rattle.attribution_reading.specs.declared.scan.Place.{Place}
use Rattle.attribution_parts.specs.declared.Kind.{Kind}
use Rattle.attribution_parts.specs.declared.Kind.TheVariants.{Name, PostId, Id}
use Rattle.attribution_reading.specs.declared.facts.Field.{Field}
use Rattle.attribution_reading.specs.declared.facts.Fields.{Fields}
use Rattle.attribution_reading.specs.declared.facts.Lead.{Lead}
use Rattle.attribution_losses.specs.declared.loss.Counts.{Counts}
use Rattle.attribution_losses.specs.declared.loss.Group.{Group}
use Rattle.attribution_parts.specs.Parts.{Part, field, text, parts}
use Rattle.attribution_parts.specs.Attribution.{is_leading, part_no, leading, leading_id, field_of, Loss, loss_of, run_words, is_used, unnamed, loss_at, losses_from, passed_over, losses_of, losses}
use Rattle.attribution_reading.specs.Places.{bytes, part_of, part_with, Stands, Scanned}
use Rattle.attribution_reading.specs.Reads.{FieldAt, FieldsAt, LeadAt}
use Rattle.attribution_losses.specs.Lists.{Puts, flag, loss_words, record_of, records_of, used_by, passed_by, passed_loss, losses_at, run_at, Told, Here, Ran, Grouped, Lists, Listed}
use Rattle.attribution_reading.proofs.Laws.{scan-on}
use Rattle.attribution_reading.proofs.Fielding.{length-bytes}
use Rattle.attribution_reading.proofs.NoFields.{NoFields, no_part, a-text, no_fields_lem, field-none}
use Rattle.attribution_losses.proofs.Listing.{puts_none, puts_then, puts-as, lists-none, lists-then, lists-one, lists-as}

pub empty-is : (s : List ℕ) (k : Kind) (f : Field) → FieldAt s k f → eqb f.value.size 0 ≡ is_empty (field_of k (parts 0 s))
empty-is s k f h = by (field_of k (parts 0 s)) f.value.size (sym (ap length h.words) ∙ length-bytes s f.value.from f.value.size h.inside)
  where
    by : (x : List ℕ) (n : ℕ) → length x ≡ n → eqb n 0 ≡ is_empty x
    by [] n e = rw (← e)
    by (b ∷ x) n e = ne_eqb n 0 (λ (z : n ≡ 0). omega (arith, z, e))

same-run : (all : List Part) (i : ℕ) (xs : List Part) → is_empty (field_of Name all) ≡ true → losses_from all i true xs ≡ losses_from all i false xs
unfolding losses_from loss_at unnamed
same-run all i [] e = refl
same-run all i (field key v ∷ xs) e = refl
same-run all i (text w true ∷ xs) e = refl
same-run all i (text w false ∷ xs) e = rw e

pub empty-words : (x : List ℕ) (n : ℕ) → length x ≡ n → eqb n 0 ≡ is_empty x
empty-words [] n e = rw (← e)
empty-words (b ∷ x) n e = ne_eqb n 0 (λ (z : n ≡ 0). omega (arith, z, e))

-- ---- a part as the code sees it

module _ (s : List ℕ) (p : Place) where
  pub as-field : (p.key.size ≡ 0 → ⊥) → part_of s p ≡ field (bytes s p.key.from p.key.size) (bytes s p.value.from p.value.size)
  unfolding part_of
  as-field n = by p.key.size n
    where
      by : (m : ℕ) → (m ≡ 0 → ⊥) → part_with m s p ≡ field (bytes s p.key.from p.key.size) (bytes s p.value.from p.value.size)
      by zero z = absurd (z refl)
      by (suc m) z = refl

  pub as-quoted : p.key.size ≡ 0 → (p.value.from ≡ p.key.from → ⊥) → part_of s p ≡ text (bytes s p.value.from p.value.size) true
  unfolding part_of
  as-quoted e n = rw (e, ne_eqb p.value.from p.key.from n)

  pub as-run : p.key.size ≡ 0 → p.value.from ≡ p.key.from → part_of s p ≡ text (bytes s p.value.from p.value.size) false
  unfolding part_of
  as-run e f = rw (e, eq-eqb p.value.from p.key.from f)

  pub text-either : p.key.size ≡ 0 → part_of s p ≡ text (bytes s p.value.from p.value.size) (not (eqb p.value.from p.key.from))
  unfolding part_of
  text-either e = rw e

module _ (s : List ℕ) (i at : ℕ) (p : Place) (st : Stands s i at) (sc : Scanned s at p) where
  abbrev rest : List Part
  rest = parts 0 (drop p.next s)

  here-is : {q : Part} → part_of s p ≡ q → parts 0 (drop at s) ≡ q ∷ rest
  here-is w = sc.part ∙ ap (λ (x : Part). x ∷ rest) w

  -- ---- what a part adds

  module _ (f : Fields) (day : Bool) (t : Told s f day) where
    index_in : i < length (parts 0 s)
    index_in =
        let n = length-drop i (parts 0 s) in
        let m : length (drop i (parts 0 s)) ≡ suc (length rest) = ap length (st.rest ∙ sc.part) in
        omega (arith, n, m)

    used-is : used_by f day i ≡ is_used (parts 0 s) i
    unfolding used_by is_used
    used-is =
        let fs = t.fields in
        rw (fs.name.here i index_in, fs.post.here i index_in, fs.time.here i index_in, fs.id.here i index_in, fs.date.here i index_in, t.seconds, empty-is s PostId f.post fs.post)

    pub used-field : (p.key.size ≡ 0 → ⊥) → used_by f day i ≡ true → losses_at s false i at ≡ losses_at s false (i + 1) p.next
    unfolding losses_at losses_from loss_at
    used-field n u = rw (here-is (as-field s p n), ← used-is, u, add-one)

    pub lost-field : (p.key.size ≡ 0 → ⊥) → used_by f day i ≡ false → losses_at s false i at ≡ loss_of false (bytes s p.key.from p.key.size) ++ losses_at s false (i + 1) p.next
    unfolding losses_at losses_from loss_at
    lost-field n u = rw (here-is (as-field s p n), ← used-is, u, add-one)

    no_name : f.name.value.size ≡ 0 → is_empty (field_of Name (parts 0 s)) ≡ true
    no_name z = sym (empty-is s Name f.name t.fields.name) ∙ rw z

    a-name : (f.name.value.size ≡ 0 → ⊥) → is_empty (field_of Name (parts 0 s)) ≡ false
    a-name z = sym (empty-is s Name f.name t.fields.name) ∙ ne_eqb f.name.value.size 0 z

    pub silent-text : (quoted : Bool) → part_of s p ≡ text (bytes s p.value.from p.value.size) quoted → f.name.value.size ≡ 0 → losses_at s false i at ≡ losses_at s false (i + 1) p.next
    unfolding losses_at losses_from loss_at unnamed
    silent-text true w z = rw (here-is w, no_name z, add-one)
    silent-text false w z = rw (here-is w, no_name z, add-one) (same-run (parts 0 s) (suc i) rest (no_name z))

    pub lost-quoted : part_of s p ≡ text (bytes s p.value.from p.value.size) true → (f.name.value.size ≡ 0 → ⊥) → losses_at s false i at ≡ loss_of true (bytes s p.value.from p.value.size) ++ losses_at s false (i + 1) p.next
    unfolding losses_at losses_from loss_at unnamed
    lost-quoted w z = rw (here-is w, a-name z, add-one)

    pub lost-run : part_of s p ≡ text (bytes s p.value.from p.value.size) false → (f.name.value.size ≡ 0 → ⊥)
        → losses_at s false i at ≡ loss_of true (bytes s p.value.from p.value.size ++ run_at s p.next) ++ losses_at s true (i + 1) p.next
    unfolding losses_at run_at losses_from loss_at unnamed
    lost-run w z = rw (here-is w, a-name z, add-one)

  -- in a run
  pub run-goes-on : part_of s p ≡ text (bytes s p.value.from p.value.size) false
      → (losses_at s true i at ≡ losses_at s true (i + 1) p.next) × (run_at s at ≡ 32 ∷ bytes s p.value.from p.value.size ++ run_at s p.next)
  unfolding losses_at run_at losses_from loss_at run_words
  run-goes-on w = (rw (here-is w, add-one), rw (here-is w))

  pub run-ends-field : (p.key.size ≡ 0 → ⊥) → (losses_at s true i at ≡ losses_at s false i at) × (run_at s at ≡ [])
  unfolding losses_at run_at losses_from loss_at run_words
  run-ends-field n = (rw (here-is (as-field s p n)), rw (here-is (as-field s p n)))

  pub run-ends-quoted : part_of s p ≡ text (bytes s p.value.from p.value.size) true → (losses_at s true i at ≡ losses_at s false i at) × (run_at s at ≡ [])
  unfolding losses_at run_at losses_from loss_at run_words
  run-ends-quoted w = (rw (here-is w), rw (here-is w))

pub run_ends : (s : List ℕ) (i at : ℕ) → length s ≤ at → (losses_at s true i at ≡ losses_at s false i at) × (run_at s at ≡ [])
unfolding losses_at run_at losses_from run_words parts
run_ends s i at le = (rw (drop_of_length-le s {i = at} le), rw (drop_of_length-le s {i = at} le))

-- ---- the rest of a run, text by text

pub record Running (s : List ℕ) (first start : ℕ) (bs : List ℕ) (before : ℕ) (i at : ℕ) (bs' : List ℕ) (to : ℕ) : Type 0 where
  pub here : Here s i at to
  pub past : List ℕ
  pub puts : Puts bs before bs' to past
  pub words : past ++ run_at s at ≡ run_at s start
  pub rest : losses_at s true first start ≡ losses_at s true i at
  pub grows : start ≤ at
  pub index : first ≤ i
  pub slow : i + start ≤ first + at
  pub small : to + 2 * start ≤ before + 2 * at

pub run-start : (s : List ℕ) (i at : ℕ) (bs : List ℕ) (to : ℕ) → Here s i at to → Running s i at bs to i at bs to
run-start s i at bs to h = record {
  here = h;
  past = [];
  puts = puts_none bs to;
  words = refl;
  rest = refl;
  grows = omega arith;
  index = omega arith;
  slow = omega arith;
  small = omega arith;
}

pub run-done : {s : List ℕ} {first start before : ℕ} {bs bs' : List ℕ} (g : Group) → (g.unnamed ≡ true) × Running s first start bs before g.index g.at bs' g.to
    → (losses_at s true g.index g.at ≡ losses_at s false g.index g.at) × (run_at s g.at ≡ []) → Ran s first start bs before bs' g
run-done g inv h =
    let r = inv.1 in
    record {
      puts = puts-as (sym (append-nil r.past) ∙ ap (λ (x : List ℕ). r.past ++ x) (sym h.1) ∙ r.words) r.puts;
      rest = r.rest ∙ h.0;
      unnamed = inv.0;
      stands = r.here.stands;
      grows = r.grows;
      index = r.index;
      slow = r.slow;
      small = r.small;
    }

module _ (s : List ℕ) (first start : ℕ) (bs : List ℕ) (before i at : ℕ) (bs' : List ℕ) (to : ℕ) (r : Running s first start bs before i at bs' to) where
  module _ (p : Place) (sc : Scanned s at p) (k : p.key.size ≡ 0) (q : p.value.from ≡ p.key.from) where
    pub run-turn : (bs₁ bs₂ : List ℕ) (a b : ℕ) → Puts bs' to bs₁ a (32 ∷ []) → Puts bs₁ a bs₂ b (bytes s p.value.from p.value.size) → Running s first start bs before (i + 1) p.next bs₂ b
    run-turn bs₁ bs₂ a b u v =
        let h = r.here in
        let g = run-goes-on s i at p h.stands sc (as-run s p k q) in
        let n = length-bytes s p.value.from p.value.size (omega (arith, sc.ends, sc.inside)) in
        let w : p.value.size + at ≤ p.next = omega (arith, sc.starts, sc.ends) in
        let t : b ≡ to + 1 + p.value.size = omega (arith, u.end, v.end, n) in
        record {
          here = record {
            stands = scan-on s i at p h.stands sc;
            slow = omega (arith, h.slow, sc.grows);
            room = omega (arith, t, h.room, w, sc.grows);
          };
          past = r.past ++ ((32 ∷ []) ++ bytes s p.value.from p.value.size);
          puts = puts_then r.puts (puts_then u v);
          words = append_assoc r.past ((32 ∷ []) ++ bytes s p.value.from p.value.size) (run_at s p.next) ∙ ap (λ (x : List ℕ). r.past ++ x) (sym g.1) ∙ r.words;
          rest = r.rest ∙ g.0;
          grows = omega (arith, r.grows, sc.grows);
          index = omega (arith, r.index);
          slow = omega (arith, r.slow, sc.grows);
          small = omega (arith, t, r.small, w, sc.grows);
        }

-- ---- one loss, if any

module _ (s : List ℕ) (i at : ℕ) (bs : List ℕ) (to : ℕ) (h : Here s i at to) (p : Place) (sc : Scanned s at p) where
  pub no-loss : losses_at s false i at ≡ losses_at s false (i + 1) p.next → Grouped s i at bs to bs (record { unnamed = false; to = to; index = i + 1; at = p.next })
  no-loss e = record {
    words = [];
    puts = puts_none bs to;
    rest = e;
    stands = scan-on s i at p h.stands sc;
    grows = sc.grows;
    index = omega arith;
    slow = omega (arith, sc.grows);
    small = omega (arith, sc.grows);
  }

  pub one-loss : (bs' : List ℕ) (a : ℕ) (u : Bool) (f z : ℕ) → f + z ≤ length s → z + at ≤ p.next → Puts bs to bs' a (bytes s f z)
      → losses_at s false i at ≡ loss_of u (bytes s f z) ++ losses_at s false (i + 1) p.next
      → Grouped s i at bs to bs' (record { unnamed = u; to = a; index = i + 1; at = p.next })
  one-loss bs' a u f z ins w q e =
      let n = length-bytes s f z ins in
      record {
        words = bytes s f z;
        puts = q;
        rest = e;
        stands = scan-on s i at p h.stands sc;
        grows = sc.grows;
        index = omega arith;
        slow = omega (arith, sc.grows);
        small = omega (arith, q.end, n, w, sc.grows);
      }

  pub run-loss : (bs₁ bs₂ : List ℕ) (a f z : ℕ) (g : Group) → f + z ≤ length s → z + at ≤ p.next → Puts bs to bs₁ a (bytes s f z) → Ran s (i + 1) p.next bs₁ a bs₂ g
      → losses_at s false i at ≡ loss_of true (bytes s f z ++ run_at s p.next) ++ losses_at s true (i + 1) p.next
      → Grouped s i at bs to bs₂ g
  run-loss bs₁ bs₂ a f z g ins w q r e =
      let n = length-bytes s f z ins in
      record {
        words = bytes s f z ++ run_at s p.next;
        puts = puts_then q r.puts;
        rest = e ∙ rw (r.rest, r.unnamed);
        stands = r.stands;
        grows = omega (arith, sc.grows, r.grows);
        index = omega (arith, r.index);
        slow = omega (arith, r.slow, sc.grows);
        small = omega (arith, q.end, n, w, r.small, sc.grows);
      }

  -- where the rest of a run begins
  pub run-here : (bs' : List ℕ) (a f z : ℕ) → f + z ≤ length s → z + at ≤ p.next → Puts bs to bs' a (bytes s f z) → Here s (i + 1) p.next a
  run-here bs' a f z ins w q =
      let n = length-bytes s f z ins in
      record {
        stands = scan-on s i at p h.stands sc;
        slow = omega (arith, h.slow, sc.grows);
        room = omega (arith, q.end, n, w, h.room, sc.grows);
      }

-- ---- all losses

-- the losses from part `first` on, of which those before part i have been listed
pub record Losing (s : List ℕ) (first start q l : ℕ) (rs : List ℕ) (count : ℕ) (bs : List ℕ) (before i at : ℕ) (rs' : List ℕ) (k : ℕ) (bs' : List ℕ) (to : ℕ) : Type 0 where
  pub here : Here s i at to
  pub past : List Loss
  pub lists : Lists q l rs count bs before rs' k bs' to past
  pub goal : past ++ losses_at s false i at ≡ losses_at s false first start
  pub count_small : k + first ≤ count + i
  pub small : to + 2 * start ≤ before + 2 * at

pub lose-start : (s : List ℕ) (first start q l : ℕ) (rs : List ℕ) (count : ℕ) (bs : List ℕ) (before : ℕ) → Here s first start before → Losing s first start q l rs count bs before first start rs count bs before
lose-start s first start q l rs count bs before h = record {
  here = h;
  past = [];
  lists = lists-none q l rs count bs before;
  goal = refl;
  count_small = omega arith;
  small = omega arith;
}

module _ (s : List ℕ) (first start q l : ℕ) (rs : List ℕ) (count : ℕ) (bs : List ℕ) (before i at : ℕ) (rs' : List ℕ) (k : ℕ) (bs' : List ℕ) (to : ℕ) (r : Losing s first start q l rs count bs before i at rs' k bs' to) where
  pub lose-turn : (rs₁ bs₁ : List ℕ) (g : Group) (n : ℕ) → Grouped s i at bs' to bs₁ g
      → Puts rs' (5 * k) rs₁ (5 * n) (record_of q l (flag g.unnamed) to (g.to - to)) × ((k ≤ n) × (n ≤ k + 1)) → Losing s first start q l rs count bs before g.index g.at rs₁ n bs₁ g.to
  lose-turn rs₁ bs₁ g n h p = record {
    here = record {
      stands = h.stands;
      slow = omega (arith, r.here.slow, h.slow);
      room = omega (arith, r.here.room, h.small);
    };
    past = r.past ++ loss_of g.unnamed h.words;
    lists = lists-then r.lists (lists-one q l g.unnamed h.words p.0 h.puts);
    goal = append_assoc r.past (loss_of g.unnamed h.words) (losses_at s false g.index g.at) ∙ ap (λ (x : List Loss). r.past ++ x) (sym h.rest) ∙ r.goal;
    count_small = omega (arith, r.count_small, p.1.1, h.index);
    small = omega (arith, r.small, h.small);
  }

  pub lose-end : length s ≤ at → Listed s first start q l rs count bs before rs' bs' (record { losses = k; bytes = to })
  unfolding losses_at losses_from parts
  lose-end le =
      let z : losses_at s false i at ≡ [] = rw (drop_of_length-le s {i = at} le) in
      let e : r.past ≡ losses_at s false first start = sym (append-nil r.past) ∙ ap (λ (x : List Loss). r.past ++ x) (sym z) ∙ r.goal in
      record {
        lists = lists-as e r.lists;
        losses = omega (arith, r.count_small, r.here.slow, r.here.stands.inside);
        small = omega (arith, r.small, r.here.stands.inside);
      }

-- ---- a leading id that an id field passes over

passed_is : (s : List ℕ) (d : Lead) (f : Fields) → LeadAt s d → FieldsAt s f → passed_loss (passed_by d f) ≡ passed_over (parts 0 s)
unfolding passed_by passed_over
passed_is s d f ld fs =
    let n = length-bytes s d.id.from d.id.size ld.inside in
    rw (empty-is s PostId f.post fs.post, empty-is s Id f.id fs.id, ← empty-words (leading_id (parts 0 s)) d.id.size (sym (ap length ld.words) ∙ n)) (by (eqb d.id.size 0 || (is_empty (field_of PostId (parts 0 s)) && is_empty (field_of Id (parts 0 s)))))
  where
    by : (t : Bool) → passed_loss (not t) ≡ cond t [] (loss_of false (ascii "id"))
    by true = refl
    by false = refl

-- it takes a part
passed-counts : (s : List ℕ) (d : Lead) (f : Fields) → LeadAt s d → passed_by d f ≡ true → d.count ≡ 1
unfolding passed_by leading leading_id
passed-counts s d f ld e = ld.count ∙ by (is_leading (part_no 0 (parts 0 s))) refl
  where
    some : d.id.size ≡ 0 → ⊥
    some z = true≢false (sym e ∙ rw z)

    by : (t : Bool) → is_leading (part_no 0 (parts 0 s)) ≡ t → ◌≡◌ {A = ℕ} (cond t 1 0) 1
    by true p = refl
    by false p = absurd (some (let n = length-bytes s d.id.from d.id.size ld.inside in sym n ∙ ap length ld.words ∙ rw p))

passed_length : (t : Bool) → length (passed_loss t) ≡ flag t
passed_length true = refl
passed_length false = refl

passed_words : (t : Bool) → length (loss_words (passed_loss t)) ≡ 2 * flag t
unfolding loss_words
passed_words true = refl
passed_words false = refl

module _ (passed : Bool) where
  pub one-passed : passed ≡ true → (q l : ℕ) (rs : List ℕ) (k : ℕ) (bs : List ℕ) (to : ℕ) (rs' : List ℕ) (n : ℕ) (bs' : List ℕ) (e : ℕ)
      → Puts rs (5 * k) rs' (5 * n) (record_of q l 0 to (e - to)) → Puts bs to bs' e (ascii "id") → Lists q l rs k bs to rs' n bs' e (passed_loss passed)
  one-passed p q l rs k bs to rs' n bs' e r w = rw p (lists-one q l false (ascii "id") r w)

  pub none_passed : passed ≡ false → (q l : ℕ) (rs : List ℕ) (k : ℕ) (bs : List ℕ) (to : ℕ) → Lists q l rs k bs to rs k bs to (passed_loss passed)
  none_passed p q l rs k bs to = rw p (lists-none q l rs k bs to)

-- ---- the whole

records-length : (q l to : ℕ) (xs : List Loss) → length (records_of q l to xs) ≡ 5 * length xs
unfolding records_of
records-length q l to [] = refl
records-length q l to (x ∷ xs) = let n = records-length q l (to + length x.words) xs in omega (arith, n)

-- how many have been listed
pub listed-counts : {q l k k' to to' : ℕ} {rs rs' bs bs' : List ℕ} (xs : List Loss) → Lists q l rs k bs to rs' k' bs' to' xs → (k' ≡ k + length xs) × (to' ≡ to + length (loss_words xs))
listed-counts {q} {l} {k} {k'} {to} {to'} xs h =
    let n = records-length q l to xs in
    let e = h.records.end in
    (omega (arith, n, e), h.words.end)

flag-within : (s : List ℕ) (d : Lead) (f : Fields) → LeadAt s d → flag (passed_by d f) ≤ d.count
flag-within s d f ld = by (passed_by d f) refl
  where
    by : (t : Bool) → passed_by d f ≡ t → flag t ≤ d.count
    by true p = let n = passed-counts s d f ld p in omega (arith, n)
    by false p = omega arith

module _ (s : List ℕ) (d : Lead) (f : Fields) (ld : LeadAt s d) (fs : FieldsAt s f) (passed : Bool) (ps : passed ≡ passed_by d f)
    (q l k to : ℕ) (rs bs rs₁ bs₁ : List ℕ) (c : Counts) (h : Lists q l rs k bs to rs₁ c.losses bs₁ c.bytes (passed_loss passed)) where
  start-counts : (c.losses ≡ k + flag passed) × (c.bytes ≡ to + 2 * flag passed)
  start-counts =
      let n = listed-counts (passed_loss passed) h in
      let a = passed_length passed in
      let b = passed_words passed in
      (omega (arith, n.0, a), omega (arith, n.1, b))

  flag_small : (flag passed ≤ d.count) × (flag passed ≤ 1)
  flag_small = (rw ps (flag-within s d f ld), by passed)
    where
      by : (t : Bool) → flag t ≤ 1
      by true = omega arith
      by false = omega arith

  pub groups-room : k + length s < 4294967295 → to + 2 * length s ≤ 4294967280 → (c.losses + length s < 4294967296) × Here s d.count d.next c.bytes
  groups-room a b =
      let n = start-counts in
      let m = flag_small in
      (omega (arith, n.0, m.1), record { stands = ld.stands; slow = ld.slow; room = omega (arith, n.1, m.1) })

  losses-are : passed_loss passed ++ losses_at s false d.count d.next ≡ losses s
  unfolding losses losses_of losses_at
  losses-are =
      let z : drop (leading (parts 0 s)) (parts 0 s) ≡ parts 0 (drop d.next s) = ap (λ (n : ℕ). drop n (parts 0 s)) (sym ld.count) ∙ ld.stands.rest in
      rw (ps, passed_is s d f ld fs, ld.count, z)

  pub all_listed : (rs₂ bs₂ : List ℕ) (r : Counts) → Listed s d.count d.next q l rs₁ c.losses bs₁ c.bytes rs₂ bs₂ r
      → Lists q l rs k bs to rs₂ r.losses bs₂ r.bytes (losses s) × ((r.losses ≤ k + length s) × (r.bytes ≤ to + 2 * length s))
  all_listed rs₂ bs₂ r g =
      let n = start-counts in
      let m = flag_small in
      (lists-as losses-are (lists-then h g.lists), (omega (arith, n.0, m.0, g.losses), omega (arith, n.1, m.0, ld.slow, g.small)))

-- ---- no fields, no losses

-- nor from part n on
drop-fieldless : (n : ℕ) {ps : List Part} → NoFields ps → NoFields (drop n ps)
drop-fieldless zero h = h
drop-fieldless (suc n) no_part = no_part
drop-fieldless (suc n) (a-text w quoted h) = drop-fieldless n h

-- a text is lost by a name field only
fieldless-from : (all : List Part) (i : ℕ) (run : Bool) {ps : List Part} → field_of Name all ≡ [] → NoFields ps → losses_from all i run ps ≡ []
unfolding losses_from loss_at unnamed
fieldless-from all i run e no_part = refl
fieldless-from all i run e (a-text w true h) = rw e (fieldless-from all (suc i) false e h)
fieldless-from all i true e (a-text w false h) = fieldless-from all (suc i) true e h
fieldless-from all i false e (a-text w false h) = rw e (fieldless-from all (suc i) true e h)

fieldless-passed : (all : List Part) → NoFields all → passed_over all ≡ []
unfolding passed_over
fieldless-passed all h = rw (field-none PostId all h, field-none Id all h) (by (is_empty (leading_id all)))
  where
    by : (t : Bool) → cond (t || true) [] (loss_of false (ascii "id")) ≡ []
    by true = refl
    by false = refl

no-losses : (s : List ℕ) → NoFields (parts 0 s) → losses s ≡ []
unfolding losses losses_of
no-losses s h =
    let all = parts 0 s in
    rw (fieldless-passed all h) (fieldless-from all (leading all) false (field-none Name all h) (drop-fieldless (leading all) h))

pub none-listed : (s : List ℕ) → ltb (to_first (is "=") s) (length s) ≡ false → (q l : ℕ) (rs : List ℕ) (k : ℕ) (bs : List ℕ) (to : ℕ)
    → Lists q l rs k bs to rs k bs to (losses s) × ((k ≤ k + length s) × (to ≤ to + 2 * length s))
none-listed s h q l rs k bs to = (lists-as (sym (no-losses s (no_fields_lem s h))) (lists-none q l rs k bs to), (omega arith, omega arith))
