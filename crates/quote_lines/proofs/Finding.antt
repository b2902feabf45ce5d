-- Laws of the search for a quote's tag: ts are the tags of the text, a is the quote's attribution. Assumes nothing.
use mathlib.Core.Path.{◌≡◌, refl, sym, ap, subst, ◌∙◌}
use Prim.Native.Nat.{ℕ, zero, suc, ◌+◌, ◌-◌, ◌*◌, ◌≤◌, ◌<◌, min}
use native.Mathlib.Nat.{add-zero, min-le_right}
use native.Mathlib.Decide.{dec_le}
use native.Mathlib.Omega.{arith}
use native.Mathlib.Numerals.{add-one}
use mathlib.Core.Bool.{Bool, true, false, cond, true≢false}
use mathlib.Core.List.{List, [], ◌∷◌}
use lib.ListN.{length, take, drop, get_or, length-drop, drop_of_length-le}
use lib.Seq.{drop-cons, get_or-take, get_or-drop, length-take-le}
use lib.Dec.{eqb}
use borrow.Author.Tests.{lt-ltb, le-ltb, eq-eqb, ne_eqb}
use Rattle.text.specs.Ascii.{to_first}
use Rattle.text.proofs.Bytes.{first-within, first-plain-at}
use Rattle.quote_lines.proofs.Bared.{other-weight}
use Rattle.quote_lines.specs.Lines.{Tag, bare, tags, same, find, place, next_after, line_at}
use Rattle.quote_lines.specs.Tables.{weight, words_at, no_tag, Table, line_in}

-- the search that stands at tag i will end where the search from `next` does
pub record Finding (ts : List Tag) (next : ℕ) (a : List ℕ) (i : ℕ) : Type 0 where
  pub later : next ≤ i
  pub ends : i + find a (drop i ts) ≡ next + find a (drop next ts)

module _ (ts : List Tag) (next : ℕ) (a : List ℕ) where
  pub finding : Finding ts next a next
  finding = record { later = omega arith; ends = refl }

  abbrev Gives : (line next' : ℕ) → Type 0
  Gives line next' = (line ≡ line_at ts (place ts next a)) × (next' ≡ next_after ts next a)

  find-turn : (i : ℕ) → i < length ts → find a (drop i ts) ≡ cond (same (bare (get_or ts i no_tag).attribution) (bare a)) 0 (suc (find a (drop (i + 1) ts)))
  unfolding find
  find-turn i lt = rw (add-one, drop-cons ts i no_tag lt)

  module _ (i : ℕ) (w : Finding ts next a i) where
    module _ (lt : i < length ts) {words : List ℕ} (r : words ≡ (get_or ts i no_tag).attribution) {t : Bool} (e : t ≡ same (bare words) (bare a)) where
      pub finding-on : t ≡ false → Finding ts next a (i + 1)
      finding-on p =
          let z : find a (drop i ts) ≡ suc (find a (drop (i + 1) ts)) = find-turn i lt ∙ rw (← r, sym e ∙ p) in
          record { later = omega (arith, w.later); ends = omega (arith, z, w.ends) }

      pub finding-here : t ≡ true → i ≡ next + find a (drop next ts)
      finding-here p =
          let z : find a (drop i ts) ≡ 0 = find-turn i lt ∙ rw (← r, sym e ∙ p) in
          omega (arith, z, w.ends)

    pub finding-end : length ts ≤ i → i ≡ next + find a (drop next ts)
    unfolding find
    finding-end le =
        let z : find a (drop i ts) ≡ 0 = rw (drop_of_length-le ts {i = i} le) in
        omega (arith, z, w.ends)

  -- no tag from i up to the n-th behind it is the one
  pub finding-run : (n i : ℕ) → Finding ts next a i → i + n ≤ length ts → ((j : ℕ) → i ≤ j → j < i + n → false ≡ same (bare (get_or ts j no_tag).attribution) (bare a)) → Finding ts next a (i + n)
  finding-run zero i w le f = rw add-zero w
  finding-run (suc n) i w le f =
      let q : i + 1 + n ≡ i + suc n = omega arith in
      let v = finding-on i w (omega arith) refl (f i (omega arith) (omega arith)) refl in
      subst (λ (k : ℕ). Finding ts next a k) q (finding-run n (i + 1) v (omega arith) (λ j h g. f j (omega arith) (omega arith)))

  -- what a search that ends at i gives
  module _ {i : ℕ} (e : i ≡ next + find a (drop next ts)) where
    pub found : {line : ℕ} → i < length ts → line ≡ (get_or ts i no_tag).line → Gives line (i + 1)
    unfolding place next_after line_at
    found {line} lt l = (rw (← e, lt-ltb i (length ts) lt) l, rw (← e, lt-ltb i (length ts) lt))

    -- tag `next`, at most the last
    pub failed : {line : ℕ} → length ts ≤ i → line ≡ (get_or ts (min next (length ts - 1)) no_tag).line → Gives line next
    unfolding place next_after line_at
    failed le l = (rw (← e, le-ltb i (length ts) le) l, rw (← e, le-ltb i (length ts) le))

-- ---- where nothing is found

-- there are no tags
none-there : (ts : List Tag) (k : ℕ) → length ts ≡ 0 → 1 ≡ (get_or ts k no_tag).line
none-there [] k e = refl
none-there (x ∷ ts) k e = absurd (omega (arith, e))

module _ (ns : List ℕ) (t count next : ℕ) where
  pub line-none : count ≡ 0 → 1 ≡ line_in ns t count next
  unfolding line_in
  line-none e = rw (eq-eqb count 0 e)

  pub line-some : {i : ℕ} → (count ≡ 0 → ⊥) → i ≡ min next (count - 1) → get_or ns (t + 3 * i) 0 ≡ line_in ns t count next
  unfolding line_in
  line-some n e = rw (e, ne_eqb count 0 n)

-- the line in the table is that of the tag
pub line-there : (s ns : List ℕ) (t count next : ℕ) → Table s ns t count → line_in ns t count next ≡ (get_or (tags 1 0 s) (min next (length (tags 1 0 s) - 1)) no_tag).line
unfolding line_in
line-there s ns t count next w =
    elim (dec_le count 0) [
      | yes p ↦ rw (eq-eqb count 0 (omega arith)) (none-there (tags 1 0 s) (min next (length (tags 1 0 s) - 1)) (omega (arith, w.all)))
      | no p ↦ rw (ne_eqb count 0 (λ (e : count ≡ 0). omega arith), ← w.all) (w.each (min next (count - 1)) (let m = min-le_right next (count - 1) in omega arith)).line-is
    ]

-- ---- by weight

-- a number that none of them is
none-such : (n : ℕ) (x : List ℕ) → ((k : ℕ) → get_or x k 0 ≡ n → ⊥) → to_first (λ y. eqb y n) x ≡ length x
unfolding to_first
none-such n [] f = refl
none-such n (b ∷ x) f = rw (ne_eqb b n (f 0), none-such n x (λ k. f (suc k)))

pub first-missing : (x : List ℕ) (at : ℕ) {n : ℕ} → at ≤ length x → ((k : ℕ) → get_or x k 0 < n) → length x ≡ at + to_first (λ y. eqb y n) (drop at x)
first-missing x at {n} h f =
    let z = none-such n (drop at x) (λ k q. let m = f (at + k) in let g = get_or-drop at x k 0 in omega (arith, m, g, q)) in
    let d = length-drop at x in
    omega (arith, z, d)

module _ {s ns : List ℕ} {t count : ℕ} (w : Table s ns t count) (next : ℕ) (a : List ℕ) {weighs : ℕ} (f : weighs ≡ weight (bare a)) where
  -- a tag of another weight is another
  weighs-other : (j : ℕ) → j < count → eqb (get_or ns (t + 3 * count + j) 0) weighs ≡ false → false ≡ same (bare (get_or (tags 1 0 s) j no_tag).attribution) (bare a)
  weighs-other j lt n =
      rw (← (w.each j lt).words_are)
      (other-weight (bare (words_at s ns (t + 3 * j))) (bare a) (λ q. true≢false (sym (eq-eqb (get_or ns (t + 3 * count + j) 0) weighs (w.weighed j lt ∙ q ∙ sym f)) ∙ n)))

  -- the search goes on at the next tag of the weight
  module _ {i r : ℕ} (v : Finding (tags 1 0 s) next a i) (le : i ≤ count)
      (q : r ≡ i + to_first (λ x. eqb x weighs) (drop i (take (t + 3 * count + count - (t + 3 * count)) (drop (t + 3 * count) ns)))) where
    abbrev weights : List ℕ
    weights = take (t + 3 * count + count - (t + 3 * count)) (drop (t + 3 * count) ns)

    count-is : t + 3 * count + count - (t + 3 * count) ≡ count
    count-is = omega arith

    many : length weights ≡ count
    many = length-take-le (t + 3 * count + count - (t + 3 * count)) (drop (t + 3 * count) ns) (let n = length-drop (t + 3 * count) ns in omega (arith, n, w.room)) ∙ count-is

    weight-there : (j : ℕ) → j < count → get_or weights j 0 ≡ get_or ns (t + 3 * count + j) 0
    weight-there j lt = get_or-take (t + 3 * count + count - (t + 3 * count)) (drop (t + 3 * count) ns) j 0 (omega (arith, count-is)) ∙ get_or-drop (t + 3 * count) ns j 0

    weight-within : r ≤ count
    weight-within = let n = first-within (λ x. eqb x weighs) (drop i weights) in let m = length-drop i weights in omega (arith, n, m, many, q)

    pub finding-weight : Finding (tags 1 0 s) next a r
    finding-weight =
        subst (λ (k : ℕ). Finding (tags 1 0 s) next a k) (sym q)
        (finding-run (tags 1 0 s) next a (to_first (λ x. eqb x weighs) (drop i weights)) i v (omega (arith, weight-within, q, w.all)) (λ j h g.
        let lt : j < count = omega (arith, g, weight-within, q) in
        weighs-other j lt (ap (λ (x : ℕ). eqb x weighs) (sym (weight-there j lt)) ∙ first-plain-at (λ x. eqb x weighs) weights i j h (omega (arith, lt, many)) g)))
