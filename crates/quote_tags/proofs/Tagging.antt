-- Laws of reading tags. Assumes nothing.
use mathlib.Core.Path.{◌≡◌, refl, sym, ◌∙◌}
use Prim.Native.Nat.{ℕ, zero, suc, ◌+◌, ◌-◌, ◌≤◌, ◌<◌}
use native.Mathlib.Omega.{arith}
use native.Mathlib.Decide.{dec_le}
use mathlib.Core.Bool.{Bool, true, false, cond, ◌||◌}
use mathlib.Core.List.{List, [], ◌∷◌}
use lib.ListN.{length, take, drop, length-drop}
use lib.Seq.{drop-drop, take-take, length-take-le}
use lib.Dec.{ltb}
use borrow.Author.Tests.{lt-ltb, le-ltb}
use Rattle.text.specs.Ascii.{begins, to_bracket}
use Rattle.std.specs.Prelude.{Option, Some, None, MatchOption}
use Rattle.quote_tags.specs.declared.tag.Kind.{Kind}
use Rattle.quote_tags.specs.declared.tag.Kind.TheVariants.{Opener, Closer, Plain}
use Rattle.quote_tags.specs.Tags.{up_to_bracket, begins_any, tag_size, openers, closers, opener_size, closer_size, sized, tag_of, opened, closed, attribution_of}

-- ---- up to the `]` at b

module _ (s : List ℕ) (i b : ℕ) (h : i ≤ length s) (e : b ≡ i + to_bracket (drop i s)) where
  pub up-to-here : b < length s → Some (b - i + 1) ≡ sized (up_to_bracket (drop i s))
  unfolding up_to_bracket sized
  up-to-here lt =
      let l : length (drop i s) ≡ length s - i = length-drop i s in
      let t : b - i + 1 ≡ suc (to_bracket (drop i s)) = omega arith in
      rw (lt-ltb (to_bracket (drop i s)) (length (drop i s)) (omega arith), t)

  pub up-to-none : length s ≤ b → None ≡ sized (up_to_bracket (drop i s))
  unfolding up_to_bracket sized
  up-to-none le =
      let l : length (drop i s) ≡ length s - i = length-drop i s in
      rw (le-ltb (to_bracket (drop i s)) (length (drop i s)) (omega arith))

-- a tag is no longer than the text
pub up-to-within : (s : List ℕ) → up_to_bracket s ≤ length s
unfolding up_to_bracket
up-to-within s = by (to_bracket s) (length s)
  where
    by : (t n : ℕ) → cond (ltb t n) (suc t) 0 ≤ n
    by t n = elim (dec_le n t) [ yes p ↦ rw (le-ltb t n p) (omega arith) | no p ↦ rw (lt-ltb t n (omega arith)) (omega arith) ]

pub tag-within : (ws : List (List ℕ)) (s : List ℕ) → tag_size ws s ≤ length s
unfolding tag_size
tag-within ws s = by (begins_any ws s)
  where
    by : (t : Bool) → cond t (up_to_bracket s) 0 ≤ length s
    by true = up-to-within s
    by false = omega arith

-- ---- which tag it is

module _ (ws : List (List ℕ)) (s : List ℕ) where
  pub tag_is : {k : Option ℕ} → begins_any ws s ≡ true → k ≡ sized (up_to_bracket s) → k ≡ sized (tag_size ws s)
  unfolding tag_size
  tag_is p e = rw p e

  pub tag-missing : begins_any ws s ≡ false → None ≡ sized (tag_size ws s)
  unfolding tag_size sized
  tag-missing p = rw p

  pub tag-not : begins_any ws s ≡ false → 0 ≡ tag_size ws s
  unfolding tag_size
  tag-not p = rw p

  -- the word that a function compared
  module _ (w : List ℕ) {t : Bool} (e : t ≡ begins w s) where
    pub any_here : t ≡ true → begins_any (w ∷ ws) s ≡ true
    unfolding begins_any
    any_here p = rw (sym e ∙ p)

    pub any-later : {r : Bool} → t ≡ false → begins_any ws s ≡ r → begins_any (w ∷ ws) s ≡ r
    unfolding begins_any
    any-later p q = rw (sym e ∙ p) q

pub any_none : (s : List ℕ) → begins_any [] s ≡ false
unfolding begins_any
any_none s = refl

-- ---- the attribution, by place

-- a part of the first e elements
pub part-before : (a n e : ℕ) (xs : List ℕ) → a + n ≤ e → take n (drop a (take e xs)) ≡ take n (drop a xs)
part-before zero n e xs h = take-take n e xs (omega arith)
part-before (suc a) n zero xs h = absurd (omega arith)
part-before (suc a) n (suc e) [] h = refl
part-before (suc a) n (suc e) (x ∷ xs) h = part-before a n e xs (omega arith)

module _ (xs : List ℕ) (t e k : ℕ) (ht : t ≤ e) (he : e ≤ length xs) (ek : k ≡ opener_size (drop t (take e xs))) where
  pub opener-within : t + k ≤ e
  unfolding opener_size
  opener-within =
      let l : length (take e xs) ≡ e = length-take-le e xs he in
      let w = tag-within openers (drop t (take e xs)) in
      let m : length (drop t (take e xs)) ≡ length (take e xs) - t = length-drop t (take e xs) in
      omega (arith, w, ek)

  pub attribution-none : k < 9 → [] ≡ attribution_of (drop t (take e xs))
  unfolding attribution_of
  attribution-none lt = let z : k - 8 ≡ 0 = omega arith in rw (← ek, z)

  pub attribution-at : 9 ≤ k → take (t + k - 1 - (t + 7)) (drop (t + 7) xs) ≡ attribution_of (drop t (take e xs))
  unfolding attribution_of
  attribution-at le =
      let w = opener-within in
      let z : t + k - 1 - (t + 7) ≡ k - 8 = omega arith in
      rw (← ek, z, drop-drop 7 t (take e xs)) (sym (part-before (t + 7) (k - 8) e xs (omega arith)))

pub any_last : (w s : List ℕ) {t : Bool} → t ≡ begins w s → begins_any (w ∷ []) s ≡ t
unfolding begins_any
any_last w s {t} e = rw (← e) (or-none t)
  where
    or-none : (b : Bool) → (b || false) ≡ b
    or-none true = refl
    or-none false = refl

-- ---- the place behind a tag

module _ (ws : List (List ℕ)) (s : List ℕ) (i : ℕ) (h : i ≤ length s) {k : ℕ} (e : k ≡ tag_size ws (drop i s)) where
  pub behind-within : i + k ≤ length s
  behind-within = let w = tag-within ws (drop i s) in let l : length (drop i s) ≡ length s - i = length-drop i s in omega (arith, w, e)

  pub behind-bracket : {b : ℕ} → b ≡ i + to_bracket (drop i s) → (k ≡ 0 → ⊥) → i + k ≡ b + 1
  unfolding tag_size up_to_bracket
  behind-bracket {b} q n = by (begins_any ws (drop i s)) (ltb (to_bracket (drop i s)) (length (drop i s))) e
    where
      by : (t u : Bool) → k ≡ cond t (cond u (suc (to_bracket (drop i s))) 0) 0 → i + k ≡ b + 1
      by true true p = omega arith
      by true false p = absurd (n p)
      by false u p = absurd (n p)

-- ---- a tag as code has it

unfoldable pub kind_or : (f : ℕ → Kind) → Option ℕ → Kind
kind_or f None = Plain
kind_or f (Some k) = f k

pub mapped : (f : ℕ → Kind) (r : Option ℕ) {o : Kind} {P : ℕ → Type 0} → MatchOption r (o ≡ Plain) P → ((k : ℕ) → P k → o ≡ f k) → o ≡ kind_or f r
unfolding kind_or
mapped f None h g = h
mapped f (Some k) h g = g k h

module _ (x : List ℕ) {r : Option ℕ} {o : Kind} (er : r ≡ sized (up_to_bracket x)) where
  pub tag-opens : begins_any openers x ≡ true → o ≡ kind_or Opener r → o ≡ tag_of (opener_size x) (closer_size x)
  unfolding opener_size closer_size tag_size sized tag_of kind_or
  tag-opens p q = rw (q, er, p) (by (up_to_bracket x) (begins_any closers x))
    where
      by : (k : ℕ) (t : Bool) → kind_or Opener (sized k) ≡ tag_of k (cond t k 0)
      by zero true = refl
      by zero false = refl
      by (suc k) t = refl

  pub tag-closes : begins_any openers x ≡ false → begins_any closers x ≡ true → o ≡ kind_or Closer r → o ≡ tag_of (opener_size x) (closer_size x)
  unfolding opener_size closer_size tag_size sized tag_of kind_or
  tag-closes n p q = rw (q, er, n, p) (by (up_to_bracket x))
    where
      by : (k : ℕ) → kind_or Closer (sized k) ≡ tag_of 0 k
      by zero = refl
      by (suc k) = refl

pub tag-neither : (x : List ℕ) → begins_any openers x ≡ false → begins_any closers x ≡ false → Plain ≡ tag_of (opener_size x) (closer_size x)
unfolding opener_size closer_size tag_size tag_of
tag-neither x n p = rw (n, p)

pub some-sized : {u k : ℕ} → k ≡ u → (k ≡ 0 → ⊥) → Some k ≡ sized u
unfolding sized
some-sized {u = zero} e n = absurd (n e)
some-sized {u = suc u} e n = rw e

pub none-sized : {u : ℕ} → 0 ≡ u → None ≡ sized u
unfolding sized
none-sized e = rw (← e)

-- what is known where a tag or a size was found, or none

module _ {u : ℕ} {r : Option ℕ} (e : r ≡ sized u) where
  pub sized-some : {k : ℕ} → r ≡ Some k → (k ≡ u) × (k ≡ 0 → ⊥)
  unfolding sized
  sized-some {k} q = by u (sym e ∙ q)
    where
      by : (u : ℕ) → sized u ≡ Some k → (k ≡ u) × (k ≡ 0 → ⊥)
      by zero p = absurd (cc)
      by (suc u) p = let z : k ≡ suc u = cc in (z, omega (arith, z))

  pub sized-none : r ≡ None → u ≡ 0
  unfolding sized
  sized-none q = by u (sym e ∙ q)
    where
      by : (u : ℕ) → sized u ≡ None → u ≡ 0
      by zero p = refl
      by (suc u) p = absurd (cc)

module _ (u v : ℕ) {r : Kind} (e : r ≡ tag_of u v) where
  pub tag-opener : {k : ℕ} → r ≡ Opener k → (k ≡ u) × (k ≡ 0 → ⊥)
  unfolding tag_of
  tag-opener {k} q = by u v (sym e ∙ q)
    where
      by : (u v : ℕ) → tag_of u v ≡ Opener k → (k ≡ u) × (k ≡ 0 → ⊥)
      by zero zero p = absurd (cc)
      by zero (suc v) p = absurd (cc)
      by (suc u) v p = let z : k ≡ suc u = cc in (z, omega (arith, z))

  pub tag-closer : {k : ℕ} → r ≡ Closer k → (u ≡ 0) × ((k ≡ v) × (k ≡ 0 → ⊥))
  unfolding tag_of
  tag-closer {k} q = by u v (sym e ∙ q)
    where
      by : (u v : ℕ) → tag_of u v ≡ Closer k → (u ≡ 0) × ((k ≡ v) × (k ≡ 0 → ⊥))
      by zero zero p = absurd (cc)
      by zero (suc v) p = let z : k ≡ suc v = cc in (refl, (z, omega (arith, z)))
      by (suc u) v p = absurd (cc)

  pub tag-plain : r ≡ Plain → (u ≡ 0) × (v ≡ 0)
  unfolding tag_of
  tag-plain q = by u v (sym e ∙ q)
    where
      by : (u v : ℕ) → tag_of u v ≡ Plain → (u ≡ 0) × (v ≡ 0)
      by zero zero p = (refl, refl)
      by zero (suc v) p = absurd (cc)
      by (suc u) v p = absurd (cc)

  -- where an opener is no closer, the kind tells both sizes
  pub tag-sizes : ((u ≡ 0 → ⊥) → v ≡ 0) → (u ≡ opened r) × (v ≡ closed r)
  unfolding tag_of
  tag-sizes alone = rw e (by u v alone)
    where
      by : (u v : ℕ) → ((u ≡ 0 → ⊥) → v ≡ 0) → (u ≡ opened (tag_of u v)) × (v ≡ closed (tag_of u v))
      by zero zero f = (refl, refl)
      by zero (suc v) f = (refl, refl)
      by (suc u) v f = (refl, f (λ z. omega (arith, z)))

  pub tag-other : ((k : ℕ) → r ≡ Opener k → ⊥) → u ≡ 0
  unfolding tag_of
  tag-other f = by u v (λ k q. f k (e ∙ q))
    where
      by : (u v : ℕ) → ((k : ℕ) → tag_of u v ≡ Opener k → ⊥) → u ≡ 0
      by zero v g = refl
      by (suc u) v g = absurd (g (suc u) refl)
