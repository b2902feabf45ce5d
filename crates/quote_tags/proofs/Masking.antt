-- Laws of masking a text in place. Assumes nothing.
use mathlib.Core.Path.{◌≡◌, refl, sym, ap, ◌∙◌}
use mathlib.Core.Bool.{Bool, true, false, cond, ◌&&◌, ◌||◌, true≢false}
use mathlib.Core.List.{List, [], ◌∷◌, ◌++◌, append_assoc, append-nil}
use Prim.Native.Nat.{ℕ, zero, suc, ◌+◌, ◌-◌, ◌≤◌, ◌<◌}
use native.Mathlib.Nat.{add-zero, sub-zero, zero-sub, suc-sub-suc}
use native.Mathlib.Numerals.{add-one}
use native.Mathlib.Omega.{arith}
use native.Mathlib.Decide.{dec_le}
use lib.Dec.{ltb}
use lib.ListN.{length, take, drop, get_or, length-drop, drop_of_length-le}
use lib.Seq.{take-nil, drop-cons, drop-drop, get_or-drop, length-take-le}
use borrow.Author.Tests.{lt-ltb, le-ltb, eqb-true}
use Rattle.text.specs.Ascii.{is, inside, begins, to_bracket}
use Rattle.quote_tags.specs.Tags.{NextBracket, begins_any, tag_size}
use Rattle.quote_tags.proofs.Tagging.{tag-within, behind-within}
use Rattle.quote_tags.specs.Masks.{Mask, to_closer, region, blanked, each, shown, masked, code, icode, noparse, visible, Masked, KnownCloser}

-- ---- looking for a closer

module _ (ws : List (List ℕ)) (s : List ℕ) where
  closer-first : (i : ℕ) → i < length s → (t : Bool) → begins_any ws (drop i s) ≡ t → to_closer ws (drop i s) ≡ cond t 0 (suc (to_closer ws (drop (i + 1) s)))
  unfolding to_closer
  closer-first i lt t e = rw (add-one, ← e, drop-cons s i 0 lt)

  -- the search that stands at i will end where the search from `at` does
  pub record Seeks (at i : ℕ) : Type 0 where
    pub inside : i ≤ length s
    pub ends : i + to_closer ws (drop i s) ≡ at + to_closer ws (drop at s)

  pub seek : (at : ℕ) → at ≤ length s → Seeks at at
  seek at h = record { inside = h; ends = refl }

  module _ (at i : ℕ) (w : Seeks at i) where
    pub seek-here : i < length s → begins_any ws (drop i s) ≡ true → i ≡ at + to_closer ws (drop at s)
    seek-here lt e = let z = closer-first i lt true e in omega (arith, z, w.ends)

    pub seek-on : i < length s → begins_any ws (drop i s) ≡ false → Seeks at (i + 1)
    seek-on lt e = let z = closer-first i lt false e in record { inside = omega arith; ends = omega (arith, z, w.ends) }

    pub seek-end : length s ≤ i → i ≡ at + to_closer ws (drop at s)
    unfolding to_closer
    seek-end le = let z : to_closer ws (drop i s) ≡ 0 = rw (drop_of_length-le s {i = i} le) in omega (arith, z, w.ends)

  -- from every place up to the closer it is the same
  pub closer-later : (a n q : ℕ) → q ≡ a + to_closer ws (drop a s) → a + n ≤ q → q ≡ a + n + to_closer ws (drop (a + n) s)
  unfolding to_closer
  closer-later a zero q e h = rw add-zero e
  closer-later a (suc n) q e h =
      elim (dec_le (length s) a) [
        | yes p ↦ absurd (let z : to_closer ws (drop a s) ≡ 0 = rw (drop_of_length-le s {i = a} p) in omega (arith, z, e, h))
        | no p ↦ by (omega arith) (begins_any ws (drop a s)) refl (closer-later (a + 1) n q)
      ]
    where
      by : a < length s → (t : Bool) → begins_any ws (drop a s) ≡ t → (q ≡ a + 1 + to_closer ws (drop (a + 1) s) → a + 1 + n ≤ q → q ≡ a + 1 + n + to_closer ws (drop (a + 1 + n) s))
          → q ≡ a + suc n + to_closer ws (drop (a + suc n) s)
      by lt true p k = absurd (let z = closer-first a lt true p in omega (arith, z, e, h))
      by lt false p k =
          let z = closer-first a lt false p in
          let x : a + 1 + n ≡ a + suc n = omega arith in
          rw x at (k (omega (arith, z, e)) (omega arith))

  pub known-closer : (a q i : ℕ) → q ≡ a + to_closer ws (drop a s) → KnownCloser ws s i a q
  known-closer a q i e = record {
    at = λ j h g l.
        let x : a + (j - a) ≡ j = omega arith in
        rw x at (closer-later a (j - a) q e (omega arith));
  }

-- ---- the region that begins at a place

module _ (m : Mask) (s : List ℕ) where
  pub region-none : 0 ≡ tag_size m.opens s → 0 ≡ region m s
  unfolding region
  region-none e = rw (← e)

  -- k bytes of an opener, the closer at q, z bytes of it
  pub region-at : (k q z : ℕ) → k ≡ tag_size m.opens s → q ≡ k + to_closer m.closes (drop k s) → z ≡ tag_size m.closes (drop q s) → (k ≡ 0 → ⊥) → (z ≡ 0 → ⊥) → q + z ≡ region m s
  unfolding region
  region-at k q z ek eq ez n o =
      rw (← ek, ← eq, ← ez, lt-ltb 0 k (omega arith), lt-ltb 0 z (omega arith))

  pub region-open : (k q z : ℕ) → k ≡ tag_size m.opens s → q ≡ k + to_closer m.closes (drop k s) → z ≡ tag_size m.closes (drop q s) → (k ≡ 0 → ⊥) → z ≡ 0 → 0 ≡ region m s
  unfolding region
  region-open k q z ek eq ez n o =
      rw (← ek, ← eq, ← ez, lt-ltb 0 k (omega arith), le-ltb 0 z (omega arith))

pub closer-within : (ws : List (List ℕ)) (s : List ℕ) → to_closer ws s ≤ length s
unfolding to_closer
closer-within ws [] = omega arith
closer-within ws (b ∷ s) = by (begins_any ws (b ∷ s)) (closer-within ws s)
  where
    by : (t : Bool) → to_closer ws s ≤ length s → cond t 0 (suc (to_closer ws s)) ≤ suc (length s)
    by true h = omega arith
    by false h = omega arith

pub region-within : (m : Mask) (s : List ℕ) → region m s ≤ length s
unfolding region
region-within m s =
    let k : ℕ = tag_size m.opens s in
    let c : ℕ = to_closer m.closes (drop k s) in
    let z : ℕ = tag_size m.closes (drop (k + c) s) in
    let hk : k ≤ length s = tag-within m.opens s in
    let hc : c ≤ length (drop k s) = closer-within m.closes (drop k s) in
    let hz : z ≤ length (drop (k + c) s) = tag-within m.closes (drop (k + c) s) in
    let lk : length (drop k s) ≡ length s - k = length-drop k s in
    let lz : length (drop (k + c) s) ≡ length s - (k + c) = length-drop (k + c) s in
    by (ltb 0 k && ltb 0 z) (omega (arith, hk, hc, hz, lk, lz))
  where
    by : (t : Bool) {r : ℕ} → r ≤ length s → cond t r 0 ≤ length s
    by true h = h
    by false h = omega arith

-- the same by place
module _ (m : Mask) (s : List ℕ) (i k q z : ℕ) (ek : k ≡ tag_size m.opens (drop i s)) (eq : q ≡ i + k + to_closer m.closes (drop (i + k) s)) (ez : z ≡ tag_size m.closes (drop q s)) (n : k ≡ 0 → ⊥) where
  from-here : q - i ≡ k + to_closer m.closes (drop k (drop i s))
  from-here = rw (drop-drop k i s) (omega arith)

  at-closer : z ≡ tag_size m.closes (drop (q - i) (drop i s))
  at-closer = let x : i + (q - i) ≡ q = omega arith in rw (drop-drop (q - i) i s, x) ez

  pub region-here : (z ≡ 0 → ⊥) → q - i + z ≡ region m (drop i s)
  region-here o = region-at m (drop i s) k (q - i) z ek from-here at-closer n o

  pub region-unclosed : z ≡ 0 → 0 ≡ region m (drop i s)
  region-unclosed o = region-open m (drop i s) k (q - i) z ek from-here at-closer n o

pub closer-place : (ws vs : List (List ℕ)) (s : List ℕ) (i k q : ℕ) → i ≤ length s → k ≡ tag_size ws (drop i s) → q ≡ i + k + to_closer vs (drop (i + k) s) → (i + k ≤ length s) × ((i + k ≤ q) × (q ≤ length s))
closer-place ws vs s i k q h ek eq =
    let w = behind-within ws s i h ek in
    let c = closer-within vs (drop (i + k) s) in
    let l : length (drop (i + k) s) ≡ length s - (i + k) = length-drop (i + k) s in
    (w, (omega (arith, eq), omega (arith, w, c, l, eq)))

-- ---- masking in place

-- what is written for a byte of a region
pub blanked-by : (b : ℕ) {k c : ℕ} → k ≡ cond (inside 0x80 0xBF b) 0 1 → c ≡ cond (is "\n" b) 10 32 → (k ≤ 1) × (blanked b ≡ take k (c ∷ []))
unfolding blanked inside
blanked-by b ek ec = rw (ek, ec) (by (is "\n" b) (inside 0x80 0xBF b) (λ p. (eqb-true b 10 p, rw (eqb-true b 10 p))))
  where
    by : (t u : Bool) → (t ≡ true → (b ≡ 10) × (u ≡ false)) → (cond u 0 1 ≤ 1) × (cond t (b ∷ []) (cond u [] (32 ∷ [])) ≡ take (cond u 0 1) (cond t 10 32 ∷ []))
    by true true h = absurd (true≢false (h refl).1)
    by true false h = (omega arith, rw (h refl).0)
    by false true h = (omega arith, refl)
    by false false h = (omega arith, refl)

module _ (m : Mask) where
  masked-left : (k : ℕ) (x : List ℕ) → masked m k x ≡ each blanked (take k x) ++ masked m 0 (drop k x)
  unfolding masked shown each
  masked-left zero x = refl
  masked-left (suc k) [] = refl
  masked-left (suc k) (b ∷ x) =
      rw (lt-ltb 0 (suc k) (omega arith))
      (ap (λ (y : List ℕ). blanked b ++ y) (masked-left k x) ∙ sym (append_assoc (blanked b) (each blanked (take k x)) (masked m 0 (drop k x))))

  masked-opened : (x : List ℕ) {k : ℕ} → k ≡ region m x → (k ≡ 0 → ⊥) → masked m 0 x ≡ masked m k x
  unfolding masked
  masked-opened [] e n = refl
  masked-opened (b ∷ x) {k} e n = rw (← e) (by k n)
    where
      by : (k : ℕ) → (k ≡ 0 → ⊥) → shown k b ++ masked m (k - 1) x ≡ masked m k (b ∷ x)
      by zero n = absurd (n refl)
      by (suc k) n = let z : suc k - 1 ≡ k = omega arith in rw z

  -- a region becomes blanks, and the text goes on behind it
  pub masked-region : (x : List ℕ) {k : ℕ} → k ≡ region m x → (k ≡ 0 → ⊥) → masked m 0 x ≡ each blanked (take k x) ++ masked m 0 (drop k x)
  masked-region x {k} e n = masked-opened x e n ∙ masked-left k x

pub drop-take-take : (j n : ℕ) (zs : List ℕ) → drop j (take n zs) ≡ take (n - j) (drop j zs)
drop-take-take zero n zs = rw sub-zero
drop-take-take (suc j) zero zs = rw zero-sub
drop-take-take (suc j) (suc n) [] = rw (suc-sub-suc, take-nil)
drop-take-take (suc j) (suc n) (z ∷ zs) = rw suc-sub-suc (drop-take-take j n zs)

-- what has not been read yet stands as it was
pub unread : (i j n : ℕ) (xs ys : List ℕ) → drop i xs ≡ drop i ys → i ≤ j → drop j (take n xs) ≡ drop j (take n ys)
unread i j n xs ys e h =
    let x : i + (j - i) ≡ j = omega arith in
    let a : drop j xs ≡ drop j ys = ap (λ (k : ℕ). drop k xs) (sym x) ∙ sym (drop-drop (j - i) i xs) ∙ ap (drop (j - i)) e ∙ drop-drop (j - i) i ys ∙ ap (λ (k : ℕ). drop k ys) x in
    drop-take-take j n xs ∙ ap (take (n - j)) a ∙ sym (drop-take-take j n ys)

pub first_of : (xs ys : List ℕ) (k : ℕ) → drop k xs ≡ drop k ys → get_or xs k 0 ≡ get_or ys k 0
first_of xs ys k p =
    let a : get_or (drop k xs) 0 0 ≡ get_or xs k 0 = rw (get_or-drop k xs 0 0, add-zero) in
    let c : get_or (drop k ys) 0 0 ≡ get_or ys k 0 = rw (get_or-drop k ys 0 0, add-zero) in
    sym a ∙ ap (λ (l : List ℕ). get_or l 0 0) p ∙ c

pub record Masking (m : Mask) (s : List ℕ) (n : ℕ) (buf : List ℕ) (i to b f q : ℕ) : Type 0 where
  pub same : length buf ≡ length s
  pub order : to ≤ i
  pub inside : i ≤ n
  pub rest : drop i buf ≡ drop i s
  pub text : take to buf ++ masked m 0 (drop i (take n s)) ≡ masked m 0 (take n s)
  pub bracket : NextBracket (take n s) i b
  pub closer : KnownCloser m.closes (take n s) i f q

pub begin : (m : Mask) (s : List ℕ) (n b : ℕ) → b ≡ 0 + to_bracket (drop 0 (take n s)) → Masking m s n s 0 0 b 1 0
begin m s n b e = record {
  same = refl;
  order = omega arith;
  inside = omega arith;
  rest = refl;
  text = refl;
  bracket = λ _. e;
  closer = record { at = λ j h g l. absurd (omega arith) };
}

module _ {m : Mask} {s : List ℕ} {n : ℕ} {buf : List ℕ} {i to b f q : ℕ} (w : Masking m s n buf i to b f q) where
  -- what is known of the text is known of what is left in place
  pub bracket-now : NextBracket (take n buf) i b
  bracket-now h = w.bracket h ∙ ap (λ (l : List ℕ). i + to_bracket l) (unread i i n s buf (sym w.rest) (omega arith))

  pub closer-now : KnownCloser m.closes (take n buf) i f q
  closer-now = record { at = λ j h g l. w.closer.at j h g l ∙ ap (λ (x : List ℕ). j + to_closer m.closes x) (unread i j n s buf (sym w.rest) h) }

  pub finished : n ≤ i → n ≤ length s → Masked m n s to buf
  unfolding masked
  finished le ls =
      let k : length (take n s) ≡ n = length-take-le n s ls in
      let d : drop i (take n s) ≡ [] = drop_of_length-le (take n s) {i = i} (omega arith) in
      let z : masked m 0 (drop i (take n s)) ≡ [] = rw d in
      record { short = omega (arith, w.order, w.inside); text = sym (append-nil (take to buf)) ∙ ap (λ (l : List ℕ). take to buf ++ l) (sym z) ∙ w.text }

  -- and the other way round
  pub known : {b' f' q' : ℕ} → NextBracket (take n buf) i b' → KnownCloser m.closes (take n buf) i f' q' → Masking m s n buf i to b' f' q'
  known nb kc = record {
    same = w.same;
    order = w.order;
    inside = w.inside;
    rest = w.rest;
    text = w.text;
    bracket = λ h. nb h ∙ ap (λ (l : List ℕ). i + to_bracket l) (unread i i n buf s w.rest (omega arith));
    closer = record { at = λ j h g l. kc.at j h g l ∙ ap (λ (x : List ℕ). j + to_closer m.closes x) (unread i j n buf s w.rest h) };
  }

-- ---- all masks

-- masks whose words begin the same texts mask the same
module _ (m m' : Mask) (eo : (s : List ℕ) → begins_any m.opens s ≡ begins_any m'.opens s) (ec : (s : List ℕ) → begins_any m.closes s ≡ begins_any m'.closes s) where
  closer-same : (s : List ℕ) → to_closer m.closes s ≡ to_closer m'.closes s
  unfolding to_closer
  closer-same [] = refl
  closer-same (b ∷ s) = rw (ec (b ∷ s), closer-same s)

  opener-same : (s : List ℕ) → tag_size m.opens s ≡ tag_size m'.opens s
  unfolding tag_size
  opener-same s = rw (eo s)

  end_same : (s : List ℕ) → tag_size m.closes s ≡ tag_size m'.closes s
  unfolding tag_size
  end_same s = rw (ec s)

  pub region-same : (s : List ℕ) → region m s ≡ region m' s
  unfolding region
  region-same s =
      rw (opener-same s, closer-same (drop (tag_size m'.opens s) s), end_same (drop (tag_size m'.opens s + to_closer m'.closes (drop (tag_size m'.opens s) s)) s))

  pub masked_same : (left : ℕ) (s : List ℕ) → masked m left s ≡ masked m' left s
  unfolding masked
  masked_same left [] = refl
  masked_same (suc left) (b ∷ s) = rw (masked_same left s)
  masked_same zero (b ∷ s) = rw (region-same (b ∷ s), masked_same (region m' (b ∷ s) - 1) s)

pub any_twice : (w s : List ℕ) → begins_any (w ∷ w ∷ []) s ≡ begins_any (w ∷ []) s
unfolding begins_any
any_twice w s = by (begins w s)
  where
    by : (t : Bool) → (t || (t || false)) ≡ (t || false)
    by true = refl
    by false = refl

pub same-any : (ws : List (List ℕ)) (s : List ℕ) → begins_any ws s ≡ begins_any ws s
same-any ws s = refl

-- one mask after another
pub visible-by : {n a b r : ℕ} {s s₁ s₂ s₃ : List ℕ} (m₁ m₂ m₃ : Mask) → Masked m₁ n s a s₁ → Masked m₂ a s₁ b s₂ → Masked m₃ b s₂ r s₃
    → ((x : List ℕ) → masked m₁ 0 x ≡ masked code 0 x) → ((x : List ℕ) → masked m₂ 0 x ≡ masked icode 0 x) → ((x : List ℕ) → masked m₃ 0 x ≡ masked noparse 0 x)
    → (r ≤ n) × (take r s₃ ≡ visible (take n s))
unfolding visible
visible-by {n} {a} {b} {r} {s} {s₁} {s₂} {s₃} m₁ m₂ m₃ p q t e₁ e₂ e₃ = (
  omega (arith, p.short, q.short, t.short),
  t.text ∙ e₃ (take b s₂) ∙ ap (masked noparse 0) (q.text ∙ e₂ (take a s₁) ∙ ap (masked icode 0) (p.text ∙ e₁ (take n s))),
)
