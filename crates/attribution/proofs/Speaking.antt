-- Laws of an attribution that stands in the slices which its caption is written into. Assumes nothing.
use mathlib.Core.Path.{◌≡◌, sym, ap, subst, ◌∙◌}
use Prim.Native.Nat.{ℕ, ◌+◌, ◌-◌, ◌≤◌}
use native.Mathlib.Nat.{add-sub_cancel_left, le_refl}
use native.Mathlib.Omega.{arith}
use mathlib.Core.List.{List, ◌++◌}
use lib.ListN.{length, take, drop, length-drop}
use lib.Seq.{take-take, take-add, drop-drop, drop_at, length-take-le}
use borrow.Author.Tests.{eq-eqb, ne_eqb}
use Rattle.text.specs.Cells.{Cell}
use Rattle.text.specs.Writes.{AppendsIn, Apart, cut}
use Rattle.text.specs.Writers.{Wrote}
use Rattle.text.specs.declared.writer.Writer.{Writer}
use Rattle.text.proofs.Areas.{drop-take, apart-before, apart-on, apart-cut}
use Rattle.attribution_losses.specs.Captions.{named, name_texts}
use Rattle.attribution_losses.specs.Lists.{Puts}
use Rattle.attribution_parts.specs.declared.Kind.{Kind}
use Rattle.attribution_reading.specs.declared.facts.Field.{Field}
use Rattle.attribution_reading.specs.Reads.{FieldAt}
use Rattle.attribution.specs.declared.caption.Words.{Words}
use Rattle.attribution.specs.Spoken.{said, Spoken, NameAt}

-- ---- a part of a part

pub cut-length : (a e : ℕ) (s : List ℕ) → e ≤ length s → length (cut a e s) ≡ e - a
cut-length a e s h = let d = length-drop a s in length-take-le (e - a) (drop a s) (omega (arith, d))

pub cut-cut : (a e f z : ℕ) (s : List ℕ) → f + z ≤ e - a → cut (a + f) (a + f + z) s ≡ take (f + z - f) (drop f (cut a e s))
cut-cut a e f z s h =
    rw (add-sub_cancel_left (a + f) z, add-sub_cancel_left f z)
    (sym (ap (take z) (drop-take f (e - a) (drop a s)) ∙ take-take z (e - a - f) (drop f (drop a s)) (omega arith) ∙ ap (take z) (drop-drop f a s)))

pub apart_in : {a e at end : ℕ} (i j : ℕ) → a ≤ i → j ≤ e → Apart a e at end → Apart i j at end
apart_in i j h k f lt = let z = f (omega arith) in omega arith

-- ---- what is said stays

module _ {s ns s' ns' : List ℕ} {at at' end : ℕ} {t : List Cell} {w : Words} (p : AppendsIn s ns end at s' ns' at' t) (h : Spoken s at end w) where
  pub said-on : said w s' ≡ said w s
  said-on = apart-cut w.from.0 w.to.0 h.apart p

  pub spoken-on : length s' ≡ length s → Spoken s' at' end w
  spoken-on size = record {
    order = h.order;
    inside = omega (arith, h.inside, size);
    apart = apart-on h.apart p.appends.grows;
    joined-order = h.joined-order;
    joined-inside = omega (arith, h.joined-inside, size);
    joined-apart = apart-on h.joined-apart p.appends.grows;
    joins = apart-cut w.joined.0 w.past.0 h.joined-apart p ∙ h.joins ∙ ap name_texts (sym said-on);
  }

-- the same behind what a writer leaves
module _ {v v' : Writer} {t : List Cell} {w : Words} (p : Wrote v v' t) (h : Spoken v.bytes.now v.at.0 v.end w) where
  pub said-after : said w v'.bytes.now ≡ said w v.bytes.now
  said-after = said-on p.text h

  pub spoken-after : Spoken v'.bytes.now v'.at.0 v'.end w
  spoken-after = subst (λ (end : ℕ). Spoken v'.bytes.now v'.at.0 end w) (sym p.same.end) (spoken-on p.text h p.same.bytes-size)

-- ---- a part of what is said

module _ (s : List ℕ) (w : Words) {at end : ℕ} (h : Spoken s at end w) where
  pub said-length : length (said w s) ≡ w.to.0 - w.from.0
  said-length = cut-length w.from.0 w.to.0 s h.inside

  pub field-inside : (k : Kind) (f : Field) → FieldAt (said w s) k f → f.value.from + f.value.size ≤ w.to.0 - w.from.0
  field-inside k f q = let l = said-length in omega (arith, l, q.inside)

  module _ (f z : ℕ) (le : f + z ≤ w.to.0 - w.from.0) where
    pub inner-end : w.from.0 + f + z ≤ length s
    inner-end = omega (arith, h.order, h.inside, le)

    pub inner_cut : cut (w.from.0 + f) (w.from.0 + f + z) s ≡ take (f + z - f) (drop f (said w s))
    inner_cut = cut-cut w.from.0 w.to.0 f z s le

    pub inner-apart : Apart (w.from.0 + f) (w.from.0 + f + z) at end
    inner-apart = apart_in (w.from.0 + f) (w.from.0 + f + z) (omega arith) (omega (arith, h.order, le)) h.apart

-- ---- the name

module _ (s : List ℕ) (w : Words) (from size : ℕ) {x : List ℕ} (e : x ≡ named (said w s) (cut w.joined.0 w.past.0 s) from size) where
  pub name-joined : size ≡ 0 → w.joined.0 ≤ w.past.0 → w.past.0 ≤ length s → NameAt s w from size w.joined.0 (w.joined.0 + length x)
  unfolding named
  name-joined z h k =
      let j : ℕ = w.joined.0 in
      let v : x ≡ cut j w.past.0 s = e ∙ rw (eq-eqb size 0 z) in
      let n : length x ≡ w.past.0 - j = ap length v ∙ cut-length j w.past.0 s k in
      let m : j + length x ≡ w.past.0 = omega (arith, n, h) in
      record {
        words = ap (λ (i : ℕ). cut j i s) m ∙ sym v ∙ e;
        order = omega arith;
        inside = omega (arith, m, k);
        apart = λ at end f g. apart_in j (j + length x) (omega arith) (omega (arith, m)) g;
      }

  pub name-field : (size ≡ 0 → ⊥) → w.from.0 ≤ w.to.0 → w.to.0 ≤ length s → from + size ≤ w.to.0 - w.from.0 → NameAt s w from size (w.from.0 + from) (w.from.0 + from + length x)
  unfolding named
  name-field z h k le =
      let a : ℕ = w.from.0 in
      let l = cut-length a w.to.0 s k in
      let d = length-drop from (said w s) in
      let v : x ≡ take size (drop from (said w s)) = e ∙ rw (ne_eqb size 0 z) in
      let n : length x ≡ size = ap length v ∙ length-take-le size (drop from (said w s)) (omega (arith, l, d, le)) in
      record {
        words = ap (λ (m : ℕ). cut (a + from) (a + from + m) s) n ∙ cut-cut a w.to.0 from size s le ∙ ap (λ (m : ℕ). take m (drop from (said w s))) (add-sub_cancel_left from size) ∙ sym v ∙ e;
        order = omega arith;
        inside = omega (arith, n, le, h, k);
        apart = λ at end f g. apart_in (a + from) (a + from + length x) (omega arith) (omega (arith, n, le, h)) f;
      }

-- ---- joined texts

-- they stand where they have been put
pub joined-there : {v v' : List ℕ} {end j : ℕ} {t : List ℕ} → Puts v end v' j t → end ≤ length v → j ≤ length v → cut end j v' ≡ t
joined-there {v} {v'} {end} {j} {t} p he fit =
    let z : end + (j - end) ≡ j = omega (arith, p.end) in
    let l : length (take end v) ≡ end = length-take-le end v he in
    let l' : length (take end v') ≡ end = length-take-le end v' (omega (arith, p.size, he)) in
    let q : take end v' ++ take (j - end) (drop end v') ≡ take end v ++ t = sym (take-add end (j - end) v') ∙ ap (λ (k : ℕ). take k v') z ∙ p.text fit in
    sym (drop_at (take end v') (take (j - end) (drop end v')) end l') ∙ ap (drop end) q ∙ drop_at (take end v) t end l

-- the attribution stands before the area from `at` up to `end`, the joined texts behind it
pub spoken-there : {v : List ℕ} {at end : ℕ} (a b j : ℕ) → a ≤ b → b ≤ at → at ≤ end → end ≤ j → j ≤ length v → cut end j v ≡ name_texts (cut a b v) → Spoken v at end (record { from = record { 0 = a }; to = record { 0 = b }; joined = record { 0 = end }; past = record { 0 = j } })
spoken-there a b j h k l m n e = record {
  order = h;
  inside = omega arith;
  apart = apart-before k;
  joined-order = m;
  joined-inside = n;
  joined-apart = λ _. le_refl _;
  joins = e;
}
