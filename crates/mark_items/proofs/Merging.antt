-- Laws of merging the items from the left. Assumes nothing.
use mathlib.Core.Path.{◌≡◌, refl, sym, ap, ap₂, ◌∙◌}
use mathlib.Core.Bool.{true, false}
use mathlib.Core.Logic.{◌⊎◌, inl, inr}
use mathlib.Core.List.{List, [], ◌∷◌, ◌++◌, append-nil, append_assoc}
use Prim.Native.Nat.{ℕ, zero, suc, ◌+◌, ◌-◌, ◌*◌, ◌%◌, ◌≤◌, ◌<◌}
use native.Mathlib.Numerals.{add-one, sub-one}
use native.Mathlib.Nat.{zero-add, sub-zero}
use native.Mathlib.Omega.{arith}
use native.Mathlib.Decide.{dec_le}
use lib.Dec.{leb}
use lib.Bits.{bit_and, bit_or}
use lib.ListN.{length, take, get_or, set, length-set}
use lib.Seq.{get_or-set_same, get_or-set_other, take-take}
use borrow.Author.Tests.{le-leb, lt-leb, ne_eqb}
use Rattle.text.specs.Cells.{Cell, part}
use Rattle.mark_tags.specs.Marks.{Kind, Kinds, no-kinds, has, add}
use Rattle.mark_tags.specs.Flat.{Flat, piece, vanish, leave, enter, Outer, entered, leaving, outside, rest, merged, flat_of, bound_at, flat_at, flats, kind_numbered, bit_of, kinds_of, outers_of, MergedItem, Recodes, Tagged, Itemed, Bounded, settled, flat_marks}
use Rattle.mark_items.proofs.Tabling.{flats-same, flats-more}
use Rattle.mark_items.proofs.Settling.{flat-leave, flat-gone, flat-enter, flat-begun, recoded, flat-code, flat_at-by, take_same}
use Rattle.mark_items.proofs.TagReading.{same-bound}
use Rattle.mark_items.proofs.Masks.{Fits, fits}

outers-same : (ns ns' : List ℕ) (n depth : ℕ) → ((i : ℕ) → 3 * n + 3 ≤ i → i < 3 * n + 3 + depth → get_or ns' i 0 ≡ get_or ns i 0) → outers_of ns' n depth ≡ outers_of ns n depth
unfolding outers_of
outers-same ns ns' n zero h = refl
outers-same ns ns' n (suc depth) h =
    ap₂ (λ (v : ℕ) (l : List Outer). record { kinds-outside = kinds_of (v % 16); merges = leb 16 v } ∷ l) (h (3 * n + 3 + depth) (omega arith) (omega arith)) (outers-same ns ns' n depth (λ i a b. h i a (omega arith)))

outers-top : (ns : List ℕ) (n depth : ℕ) → (depth ≡ 0 → ⊥)
    → outers_of ns n depth ≡ record { kinds-outside = kinds_of (get_or ns (3 * n + 3 + (depth - 1)) 0 % 16); merges = leb 16 (get_or ns (3 * n + 3 + (depth - 1)) 0) } ∷ outers_of ns n (depth - 1)
unfolding outers_of
outers-top ns n zero z = absurd (z refl)
outers-top ns n (suc depth) z = rw sub-one

gone_one : (s : List Cell) → flat_of 1 s ≡ vanish s
unfolding flat_of
gone_one s = refl

pub zero-piece : (s : List Cell) → flat_of 0 s ≡ piece s
unfolding flat_of
zero-piece s = refl

merged-leave : (s : List Cell) (f : List Flat) (m : Kinds) (st : List Outer) → merged (leave s ∷ f) m st ≡ leaving st s ∷ merged f (outside st m) (rest st)
unfolding merged
merged-leave s f m st = refl

merged-enter : (k : Kind) (s : List Cell) (f : List Flat) (m : Kinds) (st : List Outer) → merged (enter k s ∷ f) m st ≡ entered (has k m) k s ∷ merged f (add k m) (record { kinds-outside = m; merges = has k m } ∷ st)
unfolding merged
merged-enter k s f m st = refl

merged-kept : (code : ℕ) (s : List Cell) (f : List Flat) (m : Kinds) (st : List Outer) → (code ≡ 2 → ⊥) → code < 4 → merged (flat_of code s ∷ f) m st ≡ flat_of code s ∷ merged f m st
unfolding merged
merged-kept code s f m st b h = elim (dec_le 1 code) [ yes u ↦ rw (flat-gone code s (λ z. omega arith) b h) | no v ↦ let z : code ≡ 0 = omega arith in rw (z, zero-piece s) ]

merged-begun : (code : ℕ) (s : List Cell) (f : List Flat) (m : Kinds) (st : List Outer) → 8 ≤ code → merged (flat_of code s ∷ f) m st ≡ flat_of code s ∷ merged f m st
unfolding merged
merged-begun code s f m st h = rw (flat-begun code s h)

no-outers : (ns ns' : List ℕ) (n : ℕ) (f : List Flat) (s : List Cell) (m : Kinds)
    → leaving (outers_of ns n 0) s ∷ merged f (outside (outers_of ns n 0) m) (rest (outers_of ns n 0)) ≡ vanish s ∷ merged f m (outers_of ns' n 0)
unfolding outers_of
no-outers ns ns' n f s m = refl

outers-push : (ns ns' : List ℕ) (n depth v : ℕ) → get_or ns' (3 * n + 3 + depth) 0 ≡ v → ((i : ℕ) → 3 * n + 3 ≤ i → i < 3 * n + 3 + depth → get_or ns' i 0 ≡ get_or ns i 0)
    → outers_of ns' n (depth + 1) ≡ record { kinds-outside = kinds_of (v % 16); merges = leb 16 v } ∷ outers_of ns n depth
unfolding outers_of
outers-push ns ns' n depth v e h = rw (add-one, e, outers-same ns ns' n depth h)

outer-plain : (mask : ℕ) → mask < 16 → ◌≡◌ {A = Outer} (record { kinds-outside = kinds_of mask; merges = false }) (record { kinds-outside = kinds_of (mask % 16); merges = leb 16 mask })
outer-plain mask h = let z : mask % 16 ≡ mask = omega arith in rw (z, lt-leb 16 mask h)

outer-merges : (mask : ℕ) → mask < 16 → ◌≡◌ {A = Outer} (record { kinds-outside = kinds_of mask; merges = true }) (record { kinds-outside = kinds_of ((mask + 16) % 16); merges = leb 16 (mask + 16) })
outer-merges mask h = let z : (mask + 16) % 16 ≡ mask = omega arith in rw (z, le-leb 16 (mask + 16) (omega arith))

pub cons-flats : (f : ℕ → Flat) (k j : ℕ) → j < k → flats f (k - j) j ≡ f j ∷ flats f (k - suc j) (suc j)
unfolding flats
cons-flats f k j h = let z : k - j ≡ suc (k - suc j) = omega arith in rw (z, add-one)

module _ (ns : List ℕ) (n j mask depth : ℕ) (low : j ≤ n) (deep : depth ≤ j) (small : mask < 16) (room : 4 * n + 4 ≤ length ns) where
  abbrev here : ℕ
  here = 2 * n + 2 + j

  abbrev spelled : List Cell → List Cell
  spelled x = part (bound_at ns n j) (bound_at ns n (j + 1)) x

  spelled_same : (x : List Cell) (ns₁ : List ℕ) → get_or ns₁ (n + j) 0 ≡ get_or ns (n + j) 0 → get_or ns₁ (n + (j + 1)) 0 ≡ get_or ns (n + (j + 1)) 0 → spelled x ≡ part (bound_at ns₁ n j) (bound_at ns₁ n (j + 1)) x
  unfolding bound_at
  spelled_same x ns₁ a b = rw (a, b)

  pub merged-same : (get_or ns here 0 ≡ 2 → ⊥) → get_or ns here 0 < 4 → MergedItem ns ns n j mask depth mask depth
  merged-same b h = record {
    is = λ x f. rw (flat-code x ns n j) (merged-kept (get_or ns here 0) (spelled x) f (kinds_of mask) (outers_of ns n depth) b h);
    others = λ i a e. refl;
    small = small;
    deep = omega arith;
  }

  pub merged-open : 8 ≤ get_or ns here 0 → MergedItem ns ns n j mask depth mask depth
  merged-open h = record {
    is = λ x f. rw (flat-code x ns n j) (merged-begun (get_or ns here 0) (spelled x) f (kinds_of mask) (outers_of ns n depth) h);
    others = λ i a e. refl;
    small = small;
    deep = omega arith;
  }

  module _ (two : get_or ns here 0 ≡ 2) where
    now : (x : List Cell) (f : List Flat) → merged (flat_at x ns n j ∷ f) (kinds_of mask) (outers_of ns n depth) ≡ leaving (outers_of ns n depth) (spelled x) ∷ merged f (outside (outers_of ns n depth) (kinds_of mask)) (rest (outers_of ns n depth))
    now x f = rw (flat-code x ns n j, two, flat-leave (spelled x)) (merged-leave (spelled x) f (kinds_of mask) (outers_of ns n depth))

    pub merged-stray : depth ≡ 0 → MergedItem ns (set ns here 1) n j mask depth mask depth
    merged-stray z = record {
      is = λ x f. now x f ∙ rw (recoded x ns n j 1 low (omega arith), gone_one (spelled x), z) (no-outers ns (set ns here 1) n f (spelled x) (kinds_of mask));
      others = λ i a e. get_or-set_other ns here i 1 0 a;
      small = small;
      deep = omega arith;
    }

    pub merged-out : (depth ≡ 0 → ⊥) → 16 ≤ get_or ns (3 * n + 3 + (depth - 1)) 0 → MergedItem ns (set ns here 1) n j mask depth (get_or ns (3 * n + 3 + (depth - 1)) 0 % 16) (depth - 1)
    merged-out z g = record {
      is = λ x f. now x f ∙ rw (recoded x ns n j 1 low (omega arith), gone_one (spelled x), outers-top ns n depth z, le-leb 16 (get_or ns (3 * n + 3 + (depth - 1)) 0) g)
          (ap (λ (st : List Outer). vanish (spelled x) ∷ merged f (kinds_of (get_or ns (3 * n + 3 + (depth - 1)) 0 % 16)) st) (sym (outers-same ns (set ns here 1) n (depth - 1) (λ i a b. get_or-set_other ns here i 1 0 (λ w. omega arith)))));
      others = λ i a e. get_or-set_other ns here i 1 0 a;
      small = omega arith;
      deep = omega arith;
    }

    pub merged-left : (depth ≡ 0 → ⊥) → get_or ns (3 * n + 3 + (depth - 1)) 0 < 16 → MergedItem ns ns n j mask depth (get_or ns (3 * n + 3 + (depth - 1)) 0 % 16) (depth - 1)
    merged-left z g = record {
      is = λ x f. now x f ∙ rw (flat-code x ns n j, two, flat-leave (spelled x), outers-top ns n depth z, lt-leb 16 (get_or ns (3 * n + 3 + (depth - 1)) 0) g);
      others = λ i a e. refl;
      small = omega arith;
      deep = omega arith;
    }

  module _ (from : 4 ≤ get_or ns here 0) (to : get_or ns here 0 < 8) (bit : ℕ) (bits : bit ≡ bit_of (get_or ns here 0 % 4)) where
    abbrev kind : Kind
    kind = kind_numbered (get_or ns here 0 % 4)

    fit : Fits mask (get_or ns here 0 % 4)
    fit = fits mask (get_or ns here 0 % 4) small (omega arith)

    enters : (x : List Cell) (f : List Flat) → merged (flat_at x ns n j ∷ f) (kinds_of mask) (outers_of ns n depth)
        ≡ entered (has kind (kinds_of mask)) kind (spelled x) ∷ merged f (add kind (kinds_of mask)) (record { kinds-outside = kinds_of mask; merges = has kind (kinds_of mask) } ∷ outers_of ns n depth)
    enters x f = rw (flat-code x ns n j, flat-enter (get_or ns here 0) (spelled x) from to) (merged-enter kind (spelled x) f (kinds_of mask) (outers_of ns n depth))

    pub merged-fresh : bit_and mask bit ≡ 0 → MergedItem ns (set ns (3 * n + 3 + depth) mask) n j mask depth (bit_or mask bit) (depth + 1)
    merged-fresh e =
        let fresh : has kind (kinds_of mask) ≡ false = fit.is_open ∙ rw (← bits, e) in
        let same : (i : ℕ) → (i ≡ 3 * n + 3 + depth → ⊥) → get_or (set ns (3 * n + 3 + depth) mask) i 0 ≡ get_or ns i 0 = λ i q. get_or-set_other ns (3 * n + 3 + depth) i mask 0 q in
        record {
          is = λ x f.
              enters x f
              ∙ rw (
                fresh,
                bits,
                fit.opens,
                outers-push ns (set ns (3 * n + 3 + depth) mask) n depth mask (get_or-set_same ns (3 * n + 3 + depth) mask 0 (omega arith)) (λ i a b. same i (λ w. omega arith)),
                flat_at-by x ns (set ns (3 * n + 3 + depth) mask) n j (same here (λ w. omega arith)) (same (n + j) (λ w. omega arith)) (same (n + (j + 1)) (λ w. omega arith)),
                flat-code x ns n j,
                flat-enter (get_or ns here 0) (spelled x) from to,
              )
              (ap (λ (o : Outer). enter kind (spelled x) ∷ merged f (add kind (kinds_of mask)) (o ∷ outers_of ns n depth)) (outer-plain mask small));
          others = λ i a b. same i (λ w. omega arith);
          small = rw bits fit.small;
          deep = omega arith;
        }

    pub merged-again : (bit_and mask bit ≡ 0 → ⊥) → MergedItem ns (set (set ns (3 * n + 3 + depth) (mask + 16)) here 1) n j mask depth (bit_or mask bit) (depth + 1)
    merged-again e =
        let old : has kind (kinds_of mask) ≡ true = fit.is_open ∙ rw (← bits, ne_eqb (bit_and mask bit) 0 e) in
        let ns₁ = set ns (3 * n + 3 + depth) (mask + 16) in
        let l = length-set ns (3 * n + 3 + depth) (mask + 16) in
        let same : (i : ℕ) → (i ≡ 3 * n + 3 + depth → ⊥) → get_or ns₁ i 0 ≡ get_or ns i 0 = λ i q. get_or-set_other ns (3 * n + 3 + depth) i (mask + 16) 0 q in
        let sames : (i : ℕ) → (i ≡ 3 * n + 3 + depth → ⊥) → (i ≡ here → ⊥) → get_or (set ns₁ here 1) i 0 ≡ get_or ns i 0 = λ i q p. get_or-set_other ns₁ here i 1 0 p ∙ same i q in
        record {
          is = λ x f.
              enters x f
              ∙ rw (
                old,
                bits,
                fit.opens,
                outers-push ns (set ns₁ here 1) n depth (mask + 16) (get_or-set_other ns₁ here (3 * n + 3 + depth) 1 0 (λ w. omega arith) ∙ get_or-set_same ns (3 * n + 3 + depth) (mask + 16) 0 (omega arith)) (λ i a b. sames i (λ w. omega arith) (λ w. omega arith)),
                recoded x ns₁ n j 1 low (omega arith),
                gone_one,
              )
              (ap₂ (λ (s : List Cell) (o : Outer). vanish s ∷ merged f (add kind (kinds_of mask)) (o ∷ outers_of ns n depth)) (spelled_same x ns₁ (same (n + j) (λ w. omega arith)) (same (n + (j + 1)) (λ w. omega arith))) (outer-merges mask small));
          others = λ i a b. sames i (λ w. omega arith) a;
          small = rw bits fit.small;
          deep = omega arith;
        }

-- ---- the loop: the items before j are merged, those from j on are as they were

pub record Merging (ns₀ ns : List ℕ) (n k j mask depth : ℕ) : Type 0 where
  pub up_to : j ≤ k
  pub deep : depth ≤ j
  pub small : mask < 16
  pub is : (x : List Cell) → flats (flat_at x ns n) j 0 ++ merged (flats (flat_at x ns₀ n) (k - j) j) (kinds_of mask) (outers_of ns n depth) ≡ merged (flats (flat_at x ns₀ n) k 0) no-kinds []
  pub same : (i : ℕ) → (i < 2 * n + 2) ⊎ (2 * n + 2 + j ≤ i) → i < 3 * n + 3 → get_or ns i 0 ≡ get_or ns₀ i 0

pub merging_start : (ns : List ℕ) (n k : ℕ) → Merging ns ns n k 0 0 0
unfolding flats outers_of kinds_of
merging_start ns n k = record { up_to = omega arith; deep = omega arith; small = omega arith; is = λ x. rw (sub-zero k); same = λ i a b. refl }

module _ (ns₀ ns ns' : List ℕ) (n k j mask depth mask' depth' : ℕ) (h : j < k) (room : k ≤ n + 1) (m : Merging ns₀ ns n k j mask depth) (s : MergedItem ns ns' n j mask depth mask' depth') where
  done : (x : List Cell) → flats (flat_at x ns' n) (suc j) 0 ≡ flats (flat_at x ns n) j 0 ++ (flat_at x ns' n j ∷ [])
  done x = flats-more (flat_at x ns' n) j 0 ∙ rw (zero-add j) (ap (λ (l : List Flat). l ++ (flat_at x ns' n j ∷ []))
      (flats-same (flat_at x ns' n) (flat_at x ns n) j 0 (λ i a b. flat_at-by x ns ns' n i (s.others (2 * n + 2 + i) (λ z. omega arith) (omega arith)) (s.others (n + i) (λ z. omega arith) (omega arith)) (s.others (n + (i + 1)) (λ z. omega arith) (omega arith)))))

  first : (x : List Cell) → flat_at x ns₀ n j ≡ flat_at x ns n j
  first x = sym (flat_at-by x ns₀ ns n j (m.same (2 * n + 2 + j) (inr (omega arith)) (omega arith)) (m.same (n + j) (inl (omega arith)) (omega arith)) (m.same (n + (j + 1)) (inl (omega arith)) (omega arith)))

  before : (x : List Cell) → flats (flat_at x ns n) j 0 ++ merged (flat_at x ns n j ∷ flats (flat_at x ns₀ n) (k - suc j) (suc j)) (kinds_of mask) (outers_of ns n depth) ≡ merged (flats (flat_at x ns₀ n) k 0) no-kinds []
  before x = ap (λ (l : List Flat). flats (flat_at x ns n) j 0 ++ merged l (kinds_of mask) (outers_of ns n depth)) (sym (cons-flats (flat_at x ns₀ n) k j h ∙ ap (λ (a : Flat). a ∷ flats (flat_at x ns₀ n) (k - suc j) (suc j)) (first x))) ∙ m.is x

  pub merging-turn : Merging ns₀ ns' n k (j + 1) mask' depth'
  merging-turn =
      let d = m.deep in
      let e = s.deep in
      record {
        up_to = omega arith;
        deep = omega arith;
        small = s.small;
        is = λ x. rw (add-one, done x, append_assoc (flats (flat_at x ns n) j 0) (flat_at x ns' n j ∷ []) (merged (flats (flat_at x ns₀ n) (k - suc j) (suc j)) (kinds_of mask') (outers_of ns' n depth')))
            (ap (λ (l : List Flat). flats (flat_at x ns n) j 0 ++ l) (sym (s.is x (flats (flat_at x ns₀ n) (k - suc j) (suc j)))) ∙ before x);
        same = λ i a b. s.others i (λ z. elim a [ inl p ↦ omega arith | inr p ↦ omega arith ]) b ∙ m.same i (elim a [ inl p ↦ inl p | inr p ↦ inr (omega arith) ]) b;
      }

pub merging-end : (ns₀ ns : List ℕ) (n k j mask depth : ℕ) → k ≤ j → length ns ≡ length ns₀ → Merging ns₀ ns n k j mask depth → Recodes (λ f. merged f no-kinds []) n k ns₀ ns
unfolding flats merged
merging-end ns₀ ns n k j mask depth h l m =
    let u = m.up_to in
    let z : j ≡ k = omega arith in
    let y : k - j ≡ 0 = omega arith in
    record {
      items = λ x. (let b : flats (flat_at x ns n) j 0 ++ [] ≡ merged (flats (flat_at x ns₀ n) k 0) no-kinds [] = rw y at (m.is x) in ap (λ (i : ℕ). flats (flat_at x ns n) i 0) (sym z) ∙ sym (append-nil (flats (flat_at x ns n) j 0)) ∙ b);
      source = take_same ns ns₀ (2 * n + 2) l (λ i lt. m.same i (inl lt) (omega arith));
    }

-- ---- all three: the tags read, settled and merged

pub itemed : (src ns ns₁ ns₂ ns₃ : List ℕ) (k : ℕ) → Tagged src ns ns₁ k → Recodes (λ f. (settled f).flat) (length src) k ns₁ ns₂ → Recodes (λ f. merged f no-kinds []) (length src) k ns₂ ns₃ → Itemed src ns ns₃ k
unfolding Bounded flat_marks
itemed src ns ns₁ ns₂ ns₃ k t a b =
    let n = length src in
    let f = t.few in
    let s : take (2 * n + 2) ns₃ ≡ take (2 * n + 2) ns₁ = b.source ∙ a.source in
    let same : (j : ℕ) → n + j < 2 * n + 2 → bound_at ns₃ n j ≡ bound_at ns₁ n j = λ j h. same-bound ns₁ ns₃ n (2 * n + 2) j s h in
    record {
      items = λ x e. b.items x ∙ rw (a.items x, t.items x e);
      bounded = λ j h. rw (same j (omega arith), same (j + 1) (omega arith)) (t.bounded j h);
      few = t.few;
      source = sym (take-take n (2 * n + 2) ns₃ (omega arith)) ∙ ap (take n) s ∙ take-take n (2 * n + 2) ns₁ (omega arith) ∙ t.source;
    }
