-- Laws of bytes that are moved down, as they are or blanked, while a text is masked in place. Assumes nothing.
use mathlib.Core.Path.{◌≡◌, refl, sym, ap, ◌∙◌}
use Prim.Native.Nat.{ℕ, zero, suc, ◌+◌, ◌-◌, ◌≤◌, ◌<◌}
use native.Mathlib.Nat.{add-zero}
use native.Mathlib.Omega.{arith}
use native.Mathlib.Numerals.{add-one}
use mathlib.Core.List.{List, [], ◌∷◌, ◌++◌, append_assoc, append-nil}
use lib.ListN.{length, take, drop, get_or, set, length-set, length-drop}
use lib.Seq.{take-add, take-suc, take-suc-set, take-set-le, drop-set-lt, drop-drop, get_or-drop, length-take-le, paste}
use Rattle.std.proofs.lemmas.List.Edits.{take-paste, drop-paste}
use Rattle.quote_tags.specs.Masks.{Mask, region, blanked, each, masked, Rewritten}
use Rattle.quote_tags.proofs.Tagging.{part-before}
use Rattle.quote_tags.proofs.Plain.{bracket-past}
use Rattle.quote_tags.proofs.Masking.{Masking, unread, first_of, region-within, masked-region}
use Rattle.quote_tags.proofs.Unmasking.{masked-run}

-- ---- one byte after another

each-then : (f : ℕ → List ℕ) (x : List ℕ) (b : ℕ) → each f (x ++ (b ∷ [])) ≡ each f x ++ f b
unfolding each
each-then f [] b = append-nil (f b)
each-then f (a ∷ x) b = ap (λ (y : List ℕ). f a ++ y) (each-then f x b) ∙ sym (append_assoc (f a) (each f x) (f b))

each_same : (x : List ℕ) → each (λ b. b ∷ []) x ≡ x
unfolding each
each_same [] = refl
each_same (b ∷ x) = ap (λ (y : List ℕ). b ∷ y) (each_same x)

-- a byte that is written, and counts or not
one_written : (buf : List ℕ) (t c k : ℕ) → t < length buf → k ≤ 1 → take (t + k) (set buf t c) ≡ take t buf ++ take k (c ∷ [])
one_written buf t c zero l h = rw (add-zero, append-nil (take t buf)) (take-set-le t buf t c (omega arith))
one_written buf t c (suc zero) l h = rw (add-one t) (take-suc-set buf t c l)
one_written buf t c (suc (suc k)) l h = absurd (omega arith)

-- bytes that are copied to a place before them
pub moved-within : (xs : List ℕ) (a e to : ℕ) → to ≤ a → a ≤ e → e ≤ length xs → Rewritten (λ b. b ∷ []) xs a e to (paste xs to (drop a xs) (e - a)) (to + (e - a))
moved-within xs a e to h g l =
    let d = length-drop a xs in
    let x : to + (e - a) + (e - (to + (e - a))) ≡ e = omega arith in
    let p : drop (to + (e - a)) (paste xs to (drop a xs) (e - a)) ≡ drop (to + (e - a)) xs = drop-paste xs to (drop a xs) (e - a) (omega arith) (omega (arith, d)) in
    record {
      short = omega arith;
      text = take-paste xs to (drop a xs) (e - a) (omega arith) (omega (arith, d)) ∙ ap (λ (y : List ℕ). take to xs ++ y) (sym (each_same (take (e - a) (drop a xs))));
      rest = ap (λ (j : ℕ). drop j (paste xs to (drop a xs) (e - a))) (sym x) ∙ sym (drop-drop (e - (to + (e - a))) (to + (e - a)) (paste xs to (drop a xs) (e - a)))
          ∙ ap (drop (e - (to + (e - a)))) p ∙ drop-drop (e - (to + (e - a))) (to + (e - a)) xs ∙ ap (λ (j : ℕ). drop j xs) x;
    }

-- and where they stand already
pub moved_none : (xs : List ℕ) (a e to : ℕ) → to ≡ a → a ≤ e → Rewritten (λ b. b ∷ []) xs a e to xs (to + (e - a))
moved_none xs a e to q h =
    record {
      short = omega arith;
      text = take-add to (e - a) xs ∙ ap (λ (j : ℕ). take to xs ++ take (e - a) (drop j xs)) q ∙ ap (λ (y : List ℕ). take to xs ++ y) (sym (each_same (take (e - a) (drop a xs))));
      rest = refl;
    }

-- the first bytes, up to i, have been rewritten before t
pub record Moving (f : ℕ → List ℕ) (xs : List ℕ) (a e to : ℕ) (buf : List ℕ) (i t : ℕ) : Type 0 where
  pub same : length buf ≡ length xs
  pub order : a ≤ i
  pub inside : i ≤ e
  pub done : Rewritten f xs a i to buf t

pub moving : (f : ℕ → List ℕ) (xs : List ℕ) (a e to : ℕ) → a ≤ e → Moving f xs a e to xs a to
unfolding each
moving f xs a e to h =
    let z : a - a ≡ 0 = omega arith in
    record { same = refl; order = omega arith; inside = h; done = record { short = omega arith; text = rw (z, append-nil (take to xs)); rest = refl } }

module _ {f : ℕ → List ℕ} {xs : List ℕ} {a e to : ℕ} {buf : List ℕ} {i t : ℕ} (w : Moving f xs a e to buf i t) (ht : to ≤ a) (he : e ≤ length xs) where
  module _ (lt : i < e) where
    one_more : each f (take (i + 1 - a) (drop a xs)) ≡ each f (take (i - a) (drop a xs)) ++ f (get_or buf i 0)
    one_more =
        let k : i + 1 - a ≡ suc (i - a) = omega (arith, w.order) in
        let x : a + (i - a) ≡ i = omega (arith, w.order) in
        let g : get_or (drop a xs) (i - a) 0 ≡ get_or buf i 0 = get_or-drop a xs (i - a) 0 ∙ ap (λ (j : ℕ). get_or xs j 0) x ∙ sym (first_of buf xs i w.done.rest) in
        let d = length-drop a xs in
        ap (λ (j : ℕ). each f (take j (drop a xs))) k
        ∙ ap (each f) (take-suc (drop a xs) (i - a) 0 (omega (arith, d, w.order)) ∙ ap (λ (c : ℕ). take (i - a) (drop a xs) ++ (c ∷ [])) g)
        ∙ each-then f (take (i - a) (drop a xs)) (get_or buf i 0)

    further : drop (i + 1) buf ≡ drop (i + 1) xs
    further = sym (drop-drop 1 i buf) ∙ ap (drop 1) w.done.rest ∙ drop-drop 1 i xs

    pub moving-on : (k c : ℕ) → (k ≤ 1) × (f (get_or buf i 0) ≡ take k (c ∷ [])) → Moving f xs a e to (set buf t c) (i + 1) (t + k)
    moving-on k c p = record {
      same = length-set buf t c ∙ w.same;
      order = omega (arith, w.order);
      inside = omega arith;
      done = record {
        short = omega (arith, w.done.short, w.order, p.0);
        text = one_written buf t c k (omega (arith, w.same, w.done.short, w.order)) p.0 ∙ ap (λ (y : List ℕ). y ++ take k (c ∷ [])) w.done.text
            ∙ append_assoc (take to xs) (each f (take (i - a) (drop a xs))) (take k (c ∷ []))
            ∙ ap (λ (y : List ℕ). take to xs ++ y) (ap (λ (y : List ℕ). each f (take (i - a) (drop a xs)) ++ y) (sym p.1) ∙ sym one_more);
        rest = drop-set-lt (i + 1) buf t c (omega (arith, w.done.short, w.order)) ∙ further;
      };
    }

  pub moving-end : e ≤ i → Rewritten f xs a e to buf t
  moving-end le = let x : i ≡ e = omega (arith, w.inside) in rw x at w.done

-- ---- while a text is masked

pub size-now : {m : Mask} {s : List ℕ} {n : ℕ} {buf : List ℕ} {i to b f q : ℕ} → Masking m s n buf i to b f q → n ≤ length s → length (take n buf) ≡ n
size-now {m} {s} {n} {buf} w le = length-take-le n buf (omega (arith, w.same))

module _ {m : Mask} {s : List ℕ} {n : ℕ} {buf : List ℕ} {i to b f q : ℕ} (w : Masking m s n buf i to b f q) (le : n ≤ length s) where
  rewritten : (g : ℕ → List ℕ) {p : ℕ} → (i ≤ p) × (p ≤ n) → masked m 0 (drop i (take n buf)) ≡ each g (take (p - i) (drop i (take n buf))) ++ masked m 0 (drop (p - i) (drop i (take n buf)))
      → {buf' : List ℕ} {to' : ℕ} → Rewritten g buf i p to buf' to' → length buf' ≡ length buf → Masking m s n buf' p to' b f q
  rewritten g {p} r c {buf'} {to'} v lb =
      let x : i + (p - i) ≡ p = omega (arith, r) in
      let k : length (take n s) ≡ n = length-take-le n s le in
      let u : drop i (take n buf) ≡ drop i (take n s) = unread i i n buf s w.rest (omega arith) in
      let d : drop (p - i) (drop i (take n buf)) ≡ drop p (take n s) = ap (drop (p - i)) u ∙ drop-drop (p - i) i (take n s) ∙ ap (λ (j : ℕ). drop j (take n s)) x in
      let t : take (p - i) (drop i (take n buf)) ≡ take (p - i) (drop i buf) = part-before i (p - i) n buf (omega (arith, r)) in
      record {
        same = lb ∙ w.same;
        order = omega (arith, v.short, w.order, r);
        inside = r.1;
        rest = v.rest ∙ ap (λ (j : ℕ). drop j buf) (sym x) ∙ sym (drop-drop (p - i) i buf) ∙ ap (drop (p - i)) w.rest ∙ drop-drop (p - i) i s ∙ ap (λ (j : ℕ). drop j s) x;
        text = ap (λ (y : List ℕ). y ++ masked m 0 (drop p (take n s))) v.text
            ∙ append_assoc (take to buf) (each g (take (p - i) (drop i buf))) (masked m 0 (drop p (take n s)))
            ∙ ap (λ (y : List ℕ). take to buf ++ y) (sym (ap (masked m 0) (sym u) ∙ c ∙ rw (t, d)))
            ∙ w.text;
        bracket = bracket-past (take n s) i p r.0 (omega (arith, r, k)) w.bracket;
        closer = record { at = λ j h g l. w.closer.at j (omega (arith, r)) g l };
      }

  -- a run that no region begins in
  module _ {P : List ℕ → Type 0} (o : (x : List ℕ) → P x → region m x ≡ 0) {p : ℕ} (e : ((i ≤ p) × (p ≤ length (take n buf))) × ((j : ℕ) → i ≤ j → j < p → P (drop j (take n buf)))) where
    pub run_inside : (i ≤ p) × (p ≤ n)
    run_inside = let k = size-now w le in (e.0.0, omega (arith, e.0.1))

    pub moved : {buf' : List ℕ} {to' : ℕ} → Rewritten (λ b. b ∷ []) buf i p to buf' to' → length buf' ≡ length buf → Masking m s n buf' p to' b f q
    moved v lb =
        rewritten
        (λ b. b ∷ [])
        run_inside
        (rw (each_same (take (p - i) (drop i (take n buf))))
        (masked-run m (p - i) (drop i (take n buf)) (λ j h. ap (region m) (drop-drop j i (take n buf)) ∙ o (drop (i + j) (take n buf)) (e.1 (i + j) (omega arith) (omega arith)))))
        v
        lb

  -- a place and the region that begins there
  module _ {k : ℕ} (e : k ≡ region m (drop i (take n buf))) where
    pub region-inside : i + k ≤ n
    region-inside =
        let h = region-within m (drop i (take n buf)) in
        let l : length (drop i (take n buf)) ≡ length (take n buf) - i = length-drop i (take n buf) in
        let z = size-now w le in
        omega (arith, h, l, z, e, w.inside)

    pub moved-one : i < n → k ≡ 0 → {buf' : List ℕ} {to' : ℕ} → Rewritten (λ b. b ∷ []) buf i (i + 1) to buf' to' → length buf' ≡ length buf → Masking m s n buf' (i + 1) to' b f q
    moved-one lt z =
        let l = size-now w le in
        moved {P = λ x. region m x ≡ 0} (λ x h. h) ((omega arith, omega (arith, l)), λ j h g. let x : j ≡ i = omega arith in ap (λ (j : ℕ). region m (drop j (take n buf))) x ∙ sym e ∙ z)

    pub blanked-out : (k ≡ 0 → ⊥) → {buf' : List ℕ} {to' : ℕ} → Rewritten blanked buf i (i + k) to buf' to' → length buf' ≡ length buf → Masking m s n buf' (i + k) to' b f q
    blanked-out o v lb =
        let x : i + k - i ≡ k = omega arith in
        rewritten blanked (omega arith, region-inside) (rw x (masked-region m (drop i (take n buf)) e o)) v lb
