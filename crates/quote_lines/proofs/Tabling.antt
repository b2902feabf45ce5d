-- Laws of the table of quote tags: s is the text, ns the numbers. Assumes nothing.
use mathlib.Core.Path.{◌≡◌, refl, sym, ap, subst, ◌∙◌}
use Prim.Native.Nat.{ℕ, zero, suc, ◌+◌, ◌-◌, ◌*◌, ◌≤◌, ◌<◌}
use native.Mathlib.Nat.{add-zero, zero-add, suc-add}
use native.Mathlib.Omega.{arith}
use native.Mathlib.Decide.{dec_le}
use native.Mathlib.Numerals.{add-one}
use mathlib.Core.Bool.{Bool, true, false, cond, ◌&&◌, ◌||◌, true≢false}
use mathlib.Core.List.{List, [], ◌∷◌, ◌++◌}
use lib.ListN.{length, take, drop, get_or, set, length-set, length-take, length-drop, drop_of_length-le}
use lib.Seq.{take-add, drop-cons, drop-drop, get_or-drop, get_or-take, get_or-set_same, get_or-set_other, take-take, take-set-le, length-take-le}
use lib.Dec.{eqb, ltb}
use mir.Val.{bool_byte}
use borrow.Author.Tests.{eqb-true, eq-eqb}
use Rattle.text.specs.Ascii.{is, begins, small, inside, to_first, to_bracket}
use Rattle.quote_tags.proofs.Masking.{drop-take-take}
use Rattle.quote_tags.proofs.Plain.{PlainRun}
use Rattle.quote_tags.proofs.Places.{between_none, between-one}
use Rattle.quote_tags.specs.Tags.{NextBracket, begins_any, tag_size, up_to_bracket, openers, opener_size, attribution_of}
use Rattle.quote_lines.specs.Lines.{Tag, bare, line_after, tags}
use Rattle.quote_lines.specs.Tables.{weight, words_at, WordsIn, TagAt, no_tag, Weighed, Table, Tabled, Untagged, NextOpener, lines_behind}

-- ---- lines

-- a test as a number
pub counted : (t : Bool) → (bool_byte t ≡ cond t 1 0) × (bool_byte t ≤ 1)
counted true = (refl, omega arith)
counted false = (refl, omega arith)

-- so many line feeds stand from a up to i: the line behind e can be told from there on
pub record Behind (s : List ℕ) (a e line i feeds : ℕ) : Type 0 where
  pub same : lines_behind (line + feeds) (drop i (take e s)) ≡ lines_behind line (drop a (take e s))
  pub most : feeds ≤ i - a
  pub order : a ≤ i
  pub inside : i ≤ e

pub behind : (s : List ℕ) (a e line : ℕ) → a ≤ e → Behind s a e line a 0
behind s a e line h = record { same = rw add-zero; most = omega arith; order = omega arith; inside = h }

lines-append : (line : ℕ) (xs ys : List ℕ) → lines_behind line (xs ++ ys) ≡ lines_behind (lines_behind line xs) ys
unfolding lines_behind
lines-append line [] ys = refl
lines-append line (b ∷ xs) ys = lines-append (line_after b line) xs ys

module _ {s : List ℕ} {a e line i feeds : ℕ} (w : Behind s a e line i feeds) where
  pub behind-byte : {k : ℕ} → i < e → e ≤ length s → k ≡ cond (is "\n" (get_or s i 0)) 1 0 → Behind s a e line (i + 1) (feeds + k)
  unfolding lines_behind
  behind-byte {k} lt le q =
      let l : length (take e s) ≡ e = length-take-le e s le in
      let d : drop i (take e s) ≡ get_or s i 0 ∷ drop (i + 1) (take e s) = rw (add-one, ← get_or-take e s i 0 lt) (drop-cons (take e s) i 0 (omega arith)) in
      let n = by (is "\n" (get_or s i 0)) q in
      let t : lines_behind (line + feeds) (drop i (take e s)) ≡ lines_behind (line + (feeds + k)) (drop (i + 1) (take e s)) =
      ap (lines_behind (line + feeds)) d ∙ ap (λ (j : ℕ). lines_behind j (drop (i + 1) (take e s))) n.0 in
      record { same = sym t ∙ w.same; most = omega (arith, n.1, w.most, w.order); order = omega (arith, w.order); inside = omega arith }
    where
      by : (t : Bool) → k ≡ cond t 1 0 → (cond t (suc (line + feeds)) (line + feeds) ≡ line + (feeds + k)) × (k ≤ 1)
      by true z = (omega arith, omega arith)
      by false z = (omega arith, omega arith)

  -- a run whose feeds are counted
  pub behind-run : {j k : ℕ} → i ≤ j → j ≤ e → ((x : ℕ) → x + k ≡ lines_behind x (take (j - i) (drop i s))) × (k ≤ j - i) → Behind s a e line j (feeds + k)
  behind-run {j} {k} le lt q =
      let run : List ℕ = take (j - i) (drop i s) in
      let x : i + (j - i) ≡ j = omega arith in
      let y : e - i ≡ j - i + (e - j) = omega arith in
      let d : drop i (take e s) ≡ run ++ drop j (take e s) =
      drop-take-take i e s ∙ ap (λ (n : ℕ). take n (drop i s)) y ∙ take-add (j - i) (e - j) (drop i s)
      ∙ ap (λ (z : List ℕ). run ++ take (e - j) z) (drop-drop (j - i) i s ∙ ap (λ (n : ℕ). drop n s) x) ∙ ap (λ (z : List ℕ). run ++ z) (sym (drop-take-take j e s)) in
      let n : line + feeds + k ≡ line + (feeds + k) = omega arith in
      let t : lines_behind (line + feeds) (drop i (take e s)) ≡ lines_behind (line + (feeds + k)) (drop j (take e s)) =
      ap (lines_behind (line + feeds)) d ∙ lines-append (line + feeds) run (drop j (take e s))
      ∙ ap (λ (z : ℕ). lines_behind z (drop j (take e s))) (sym (q.0 (line + feeds)) ∙ n) in
      record { same = sym t ∙ w.same; most = omega (arith, q.1, w.most, w.order); order = omega (arith, w.order); inside = lt }

  pub behind-end : e ≤ i → (line + feeds ≡ lines_behind line (take (e - a) (drop a s))) × (line + feeds ≤ line + (e - a))
  unfolding lines_behind
  behind-end le =
      let z : drop i (take e s) ≡ [] = drop_of_length-le (take e s) {i = i} (let l = length-take e s in omega arith) in
      let t : lines_behind (line + feeds) (drop i (take e s)) ≡ line + feeds = rw z in
      (sym t ∙ w.same ∙ ap (lines_behind line) (drop-take-take a e s), omega (arith, w.most, w.inside))

-- ---- the tags from a place on

tags-skip : (k line : ℕ) (x : List ℕ) → tags line k x ≡ tags (lines_behind line (take k x)) 0 (drop k x)
unfolding tags lines_behind
tags-skip zero line x = refl
tags-skip (suc k) line [] = refl
tags-skip (suc k) line (b ∷ x) = tags-skip k (line_after b line) x

no-opener : opener_size [] ≡ 0
unfolding opener_size tag_size begins_any begins
no-opener = refl

first-tag : (line k : ℕ) (x : List ℕ) → opener_size x ≡ suc k
    → tags line 0 x ≡ record { line = line; attribution = attribution_of x } ∷ tags (lines_behind line (take (suc k) x)) 0 (drop (suc k) x)
unfolding tags lines_behind
first-tag line k [] e = absurd (omega (arith, e, no-opener))
first-tag line k (b ∷ x) e = let q : suc k - 1 ≡ k = omega arith in rw (e, q, tags-skip k (line_after b line) x)

first_byte : (line b : ℕ) (x : List ℕ) → opener_size (b ∷ x) ≡ 0 → tags line 0 (b ∷ x) ≡ tags (lines_behind line (take 1 (b ∷ x))) 0 x
unfolding tags lines_behind
first_byte line b x e = rw e

module _ (s : List ℕ) (i line k : ℕ) (e : k ≡ opener_size (drop i s)) where
  tags-opener : (k ≡ 0 → ⊥)
      → tags line 0 (drop i s) ≡ record { line = line; attribution = take (k - 8) (drop (i + 7) s) } ∷ tags (lines_behind line (take (i + k - i) (drop i s))) 0 (drop (i + k) s)
  unfolding attribution_of
  tags-opener n =
      let q : i + k - i ≡ suc (k - 1) = omega arith in
      let r : k ≡ suc (k - 1) = omega arith in
      let f = first-tag line (k - 1) (drop i s) (sym e ∙ r) in
      rw (q, ← drop-drop k i s, ← drop-drop 7 i s) (f ∙ rw (← e, ← r))

-- ---- where no tag begins

-- what stands there is skipped as the rest of a tag would be
under : (k n : ℕ) (x : List ℕ) → ((line : ℕ) → tags line 0 (drop k x) ≡ tags line n (drop k x)) → (line : ℕ) → tags line k x ≡ tags line (k + n) x
unfolding tags
under zero n x f line = rw zero-add (f line)
under (suc k) n [] f line = refl
under (suc k) n (b ∷ x) f line = rw suc-add (under k n x f (line_after b line))

run-skipped : (n line : ℕ) (x : List ℕ) → ((j : ℕ) → j < n → opener_size (drop j x) ≡ 0) → tags line 0 x ≡ tags line n x
unfolding tags lines_behind
run-skipped zero line x f = refl
run-skipped (suc n) line [] f = refl
run-skipped (suc n) line (b ∷ x) f = first_byte line b x (f 0 (omega arith)) ∙ run-skipped n (line_after b line) x (λ j h. f (suc j) (omega arith))

pub untagged : (s : List ℕ) (i : ℕ) → i ≤ length s → Untagged s i i
untagged s i h = record { order = omega arith; inside = h; skip = λ line. (let z : i - i ≡ 0 = omega arith in rw z) }

module _ {s : List ℕ} {a i : ℕ} (w : Untagged s a i) where
  untagged-run : {q : ℕ} → ((i ≤ q) × (q ≤ length s)) × ((j : ℕ) → i ≤ j → j < q → opener_size (drop j s) ≡ 0) → Untagged s a q
  untagged-run {q} ((le, lq), f) =
      let x : a + (i - a) ≡ i = omega (arith, w.order) in
      let y : i - a + (q - i) ≡ q - a = omega (arith, w.order) in
      let d : drop (i - a) (drop a s) ≡ drop i s = drop-drop (i - a) a s ∙ ap (λ (k : ℕ). drop k s) x in
      record {
        order = omega (arith, w.order);
        inside = lq;
        skip = λ line. w.skip line
            ∙ under (i - a) (q - i) (drop a s) (λ l. rw d (run-skipped (q - i) l (drop i s) (λ j h. ap opener_size (drop-drop j i s) ∙ f (i + j) (omega arith) (omega arith)))) line
            ∙ ap (λ (k : ℕ). tags line k (drop a s)) y;
      }

  pub untagged-past : {q : ℕ} → PlainRun s i q → Untagged s a q
  untagged-past (h, f) = untagged-run (h, λ j l g. (f j l g).0)

  pub untagged-byte : i < length s → opener_size (drop i s) ≡ 0 → Untagged s a (i + 1)
  untagged-byte lt e = untagged-run ((omega arith, omega arith), between-one (λ j. opener_size (drop j s) ≡ 0) i i (between_none (λ j. opener_size (drop j s) ≡ 0) i) e)

pub opener-found : {s : List ℕ} {a q p b k : ℕ} → Untagged s a q → p ≡ q → k ≡ opener_size (drop q s) → NextBracket s q b → ((k ≡ 0 → ⊥) → b ≡ q + to_bracket (drop q s)) → (k ≡ 0 → ⊥) → NextOpener s a p b k
opener-found {s} {a} {q} {p} {b} {k} u e es nb cl n =
    subst (λ (x : ℕ). NextOpener s a x b k) (sym e) (record { before = u; size = es; bracket = nb; closed = cl; none = λ z. absurd (n z) })

-- ---- an opener has at least 7 bytes

bracket-later : (w x : List ℕ) → begins w x ≡ true → to_bracket w ≤ to_bracket x
unfolding begins to_bracket to_first small inside
bracket-later [] x h = omega arith
bracket-later (a ∷ w) [] h = absurd (true≢false (sym h))
bracket-later (a ∷ w) (b ∷ x) h = by (eqb (small b) a) refl h (bracket-later w x)
  where
    at : (t u : Bool) → eqb a 93 ≡ t → eqb b 93 ≡ u → eqb (small b) a ≡ true → to_first (is "]") w ≤ to_first (is "]") x
        → cond t 0 (suc (to_first (is "]") w)) ≤ cond u 0 (suc (to_first (is "]") x))
    at true u p q e k = omega arith
    at false false p q e k = omega arith
    at false true p q e k =
        let f : b ≡ 93 = eqb-true b 93 q in
        let g : small b ≡ 93 = rw f in
        let j : a ≡ 93 = sym (eqb-true (small b) a e) ∙ g in
        absurd (true≢false (sym (eq-eqb a 93 j) ∙ p))

    by : (t : Bool) → eqb (small b) a ≡ t → (t && begins w x) ≡ true → (begins w x ≡ true → to_first (is "]") w ≤ to_first (is "]") x)
        → cond (is "]" a) 0 (suc (to_first (is "]") w)) ≤ cond (is "]" b) 0 (suc (to_first (is "]") x))
    by true e f k = at (is "]" a) (is "]" b) refl refl e (k f)
    by false e f k = absurd (true≢false (sym f))

abbrev Long : List (List ℕ) → Type 0
Long [] = Unit
Long (w ∷ ws) = (6 ≤ to_bracket w) × Long ws

any-long : (ws : List (List ℕ)) (x : List ℕ) → Long ws → begins_any ws x ≡ true → 6 ≤ to_bracket x
unfolding begins_any
any-long [] x l h = absurd (true≢false (sym h))
any-long (w ∷ ws) x (l, m) h = by (begins w x) refl h (any-long ws x m)
  where
    by : (t : Bool) → begins w x ≡ t → (t || begins_any ws x) ≡ true → (begins_any ws x ≡ true → 6 ≤ to_bracket x) → 6 ≤ to_bracket x
    by true e f k = let z = bracket-later w x e in omega (arith, z, l)
    by false e f k = k f

openers-long : Long openers
unfolding to_bracket to_first
openers-long = (omega arith, (omega arith, (omega arith, tt)))

pub opener-long : (x : List ℕ) {k : ℕ} → k ≡ opener_size x → (k ≡ 0 → ⊥) → 7 ≤ k
unfolding opener_size tag_size up_to_bracket
opener-long x {k} e n = by (begins_any openers x) refl (ltb (to_bracket x) (length x)) e
  where
    by : (t : Bool) → begins_any openers x ≡ t → (u : Bool) → k ≡ cond t (cond u (suc (to_bracket x)) 0) 0 → 7 ≤ k
    by true p true q = let z = any-long openers x openers-long p in omega (arith, z, q)
    by true p false q = absurd (n q)
    by false p u q = absurd (n q)

-- ---- numbers that stand

same-before : (q : ℕ) (ns ns' : List ℕ) → take q ns' ≡ take q ns → (j : ℕ) → j < q → get_or ns' j 0 ≡ get_or ns j 0
same-before q ns ns' e j h = sym (get_or-take q ns' j 0 h) ∙ ap (λ (l : List ℕ). get_or l j 0) e ∙ get_or-take q ns j 0 h

pub take_less : (q t : ℕ) (ns ns' : List ℕ) → take q ns' ≡ take q ns → t ≤ q → take t ns' ≡ take t ns
take_less q t ns ns' e h = sym (take-take t q ns' h) ∙ ap (take t) e ∙ take-take t q ns h

-- what is known of the numbers before a place holds of others that are the same there
module _ (s ns ns' : List ℕ) (q p : ℕ) (e : take q ns' ≡ take q ns) (h : p + 3 ≤ q) where
  pub words-kept : words_at s ns' p ≡ words_at s ns p
  unfolding words_at
  words-kept = rw (same-before q ns ns' e (p + 1) (omega arith), same-before q ns ns' e (p + 2) (omega arith))

  pub words-in-kept : WordsIn s ns p → WordsIn s ns' p
  words-in-kept w = rw (same-before q ns ns' e (p + 1) (omega arith), same-before q ns ns' e (p + 2) (omega arith)) w

  tag-kept : {line : ℕ} {words : List ℕ} → TagAt s ns p line words → TagAt s ns' p line words
  tag-kept w = record { inside = words-in-kept w.inside; line-is = same-before q ns ns' e p (omega arith) ∙ w.line-is; words_are = words-kept ∙ w.words_are }

-- the attribution of the tag at p, cut out of the text
module _ (s ns : List ℕ) (p : ℕ) where
  abbrev from : ℕ
  from = get_or ns (p + 1) 0

  pub words-cut : take (from + get_or ns (p + 2) 0 - from) (drop from s) ≡ words_at s ns p
  unfolding words_at
  words-cut = let q : from + get_or ns (p + 2) 0 - from ≡ get_or ns (p + 2) 0 = omega arith in rw q

  pub words-short : length (take (from + get_or ns (p + 2) 0 - from) (drop from s)) ≤ length s
  words-short =
      let t = length-take (from + get_or ns (p + 2) 0 - from) (drop from s) in
      let d = length-drop from s in
      omega (arith, t, d)

-- the three numbers of a tag, written at p
module _ (s ns : List ℕ) (p line a size : ℕ) (h : a + size ≤ length s) (g : p + 3 ≤ length ns) where
  abbrev ns₁ : List ℕ
  ns₁ = set ns p line

  abbrev ns₂ : List ℕ
  ns₂ = set ns₁ (p + 1) a

  abbrev ns₃ : List ℕ
  ns₃ = set ns₂ (p + 2) size

  pub tag-put : TagAt s (set (set (set ns p line) (p + 1) a) (p + 2) size) p line (take size (drop a s))
      × (take p (set (set (set ns p line) (p + 1) a) (p + 2) size) ≡ take p ns)
  unfolding words_at
  tag-put =
      let l₁ : length ns₁ ≡ length ns = length-set ns p line in
      let l₂ : length ns₂ ≡ length ns = length-set ns₁ (p + 1) a ∙ l₁ in
      let g₂ : get_or ns₃ (p + 2) 0 ≡ size = get_or-set_same ns₂ (p + 2) size 0 (omega arith) in
      let g₁ : get_or ns₃ (p + 1) 0 ≡ a = get_or-set_other ns₂ (p + 2) (p + 1) size 0 (λ q. omega (arith, q)) ∙ get_or-set_same ns₁ (p + 1) a 0 (omega arith) in
      let g₀ : get_or ns₃ p 0 ≡ line =
      get_or-set_other ns₂ (p + 2) p size 0 (λ q. omega (arith, q)) ∙ get_or-set_other ns₁ (p + 1) p a 0 (λ q. omega (arith, q)) ∙ get_or-set_same ns p line 0 (omega arith) in (
        record { inside = rw (g₁, g₂) h; line-is = g₀; words_are = rw (g₁, g₂) },
        take-set-le p ns₂ (p + 2) size (omega arith) ∙ take-set-le p ns₁ (p + 1) a (omega arith) ∙ take-set-le p ns p line (omega arith),
      )

-- the weights of the first i tags are written, and nothing else
pub record Weighing (s ns ns' : List ℕ) (t count i : ℕ) : Type 0 where
  pub each : (k : ℕ) → k < i → get_or ns' (t + 3 * count + k) 0 ≡ weight (bare (words_at s ns (t + 3 * k)))
  pub long : length ns' ≡ length ns
  pub kept : take (t + 3 * count) ns' ≡ take (t + 3 * count) ns
  pub inside : i ≤ count

pub weighing : (s ns : List ℕ) (t count : ℕ) → Weighing s ns ns t count 0
weighing s ns t count = record { each = λ k lt. absurd (omega (arith, lt)); long = refl; kept = refl; inside = omega arith }

module _ {s ns ns' : List ℕ} {t count i : ℕ} (w : Weighing s ns ns' t count i) where
  pub weighing-on : {x : ℕ} → i < count → t + 4 * count ≤ length ns → x ≡ weight (bare (words_at s ns' (t + 3 * i))) → Weighing s ns (set ns' (t + 3 * count + i) x) t count (i + 1)
  weighing-on {x} lt room e = record {
    each = λ k h. at k h (dec_le i k);
    long = length-set ns' (t + 3 * count + i) x ∙ w.long;
    kept = take-set-le (t + 3 * count) ns' (t + 3 * count + i) x (omega arith) ∙ w.kept;
    inside = omega arith;
  }
    where
      new : get_or (set ns' (t + 3 * count + i) x) (t + 3 * count + i) 0 ≡ weight (bare (words_at s ns (t + 3 * i)))
      new =
          get_or-set_same ns' (t + 3 * count + i) x 0 (omega (arith, w.long)) ∙ e
          ∙ ap (λ (y : List ℕ). weight (bare y)) (words-kept s ns ns' (t + 3 * count) (t + 3 * i) w.kept (omega arith))

      at : (k : ℕ) → k < i + 1 → Dec (i ≤ k) → get_or (set ns' (t + 3 * count + i) x) (t + 3 * count + k) 0 ≡ weight (bare (words_at s ns (t + 3 * k)))
      at k h (yes p) = let c : i ≡ k = omega (arith, h, p) in subst (λ (y : ℕ). get_or (set ns' (t + 3 * count + i) x) (t + 3 * count + y) 0 ≡ weight (bare (words_at s ns (t + 3 * y)))) c new
      at k h (no p) = get_or-set_other ns' (t + 3 * count + i) (t + 3 * count + k) x 0 (λ q. omega (arith, p, q)) ∙ w.each k (omega (arith, p))

  pub weighing-end : count ≤ i → Weighed s ns' t count × (take (t + 3 * count) ns' ≡ take (t + 3 * count) ns)
  weighing-end le =
      (λ k lt. w.each k (omega (arith, le, lt)) ∙ ap (λ (y : List ℕ). weight (bare y)) (sym (words-kept s ns ns' (t + 3 * count) (t + 3 * k) w.kept (omega (arith, lt)))), w.kept)

-- ---- reading

pub tabled : (s ns : List ℕ) (t : ℕ) → Tabled s ns t 0 1 0
tabled s ns t = record { rest = refl; some = omega arith; few = omega arith; line-most = omega arith; each = λ k lt. absurd (omega (arith, lt)) }

module _ (s ns : List ℕ) (t i line count : ℕ) (w : Tabled s ns t i line count) where
  module _ {p : ℕ} (u : Untagged s i p) where
    rest_at : drop count (tags 1 0 s) ≡ tags (lines_behind line (take (p - i) (drop i s))) 0 (drop p s)
    rest_at =
        let x : i + (p - i) ≡ p = omega (arith, u.order) in
        let d : drop (p - i) (drop i s) ≡ drop p s = drop-drop (p - i) i s ∙ ap (λ (k : ℕ). drop k s) x in
        w.rest ∙ u.skip line ∙ tags-skip (p - i) line (drop i s) ∙ rw d

    pub tabled-on : {here : ℕ} → (here ≡ lines_behind line (take (p - i) (drop i s))) × (here ≤ line + (p - i)) → Tabled s ns t p here count
    tabled-on (q, m) = record {
      rest = rest_at ∙ ap (λ (l : ℕ). tags l 0 (drop p s)) (sym q);
      some = w.some;
      few = omega (arith, w.few, u.order);
      line-most = omega (arith, m, w.line-most, u.order);
      each = w.each;
    }

    pub tabled-last : p ≡ length s → Tabled s ns t p line count
    unfolding tags
    tabled-last e =
        let d : drop p s ≡ [] = drop_of_length-le s {i = p} (omega arith) in
        record {
          rest = rest_at ∙ rw d;
          some = w.some;
          few = omega (arith, w.few, u.order);
          line-most = omega (arith, w.line-most, u.order);
          each = w.each;
        }

  module _ (k : ℕ) (e : k ≡ opener_size (drop i s)) (n : k ≡ 0 → ⊥) where
    comes : Tag
    comes = record { line = line; attribution = take (k - 8) (drop (i + 7) s) }

    more : List Tag
    more = tags (lines_behind line (take (i + k - i) (drop i s))) 0 (drop (i + k) s)

    split : drop count (tags 1 0 s) ≡ comes ∷ more
    unfolding comes more
    split = w.rest ∙ tags-opener s i line k e n

    here : get_or (tags 1 0 s) count no_tag ≡ comes
    here =
        let a : get_or (drop count (tags 1 0 s)) 0 no_tag ≡ get_or (tags 1 0 s) count no_tag = rw (get_or-drop count (tags 1 0 s) 0 no_tag, add-zero) in
        sym a ∙ ap (λ (l : List Tag). get_or l 0 no_tag) split

    pub tabled-opener : (ns' : List ℕ) {next size : ℕ} → size ≡ k - 8
        → TagAt s ns' (t + 3 * count) line (take size (drop (i + 7) s)) × (take (t + 3 * count) ns' ≡ take (t + 3 * count) ns)
        → (next ≡ lines_behind line (take (i + k - i) (drop i s))) × (next ≤ line + (i + k - i)) → Tabled s ns' t (i + k) next (count + 1)
    unfolding comes more
    tabled-opener ns' {next} {size} z (g, b) (q, m) =
        let l = opener-long (drop i s) e n in
        let d : length (drop count (tags 1 0 s)) ≡ length (tags 1 0 s) - count = length-drop count (tags 1 0 s) in
        let u : length (drop count (tags 1 0 s)) ≡ suc (length more) = ap length split in
        record {
          rest = sym (drop-drop 1 count (tags 1 0 s)) ∙ ap (drop 1) split ∙ ap (λ (l : ℕ). tags l 0 (drop (i + k) s)) (sym q);
          some = omega (arith, d, u);
          few = omega (arith, l, w.few);
          line-most = omega (arith, m, w.line-most);
          each = λ j lt. at j lt (dec_le count j);
        }
      where
        new : TagAt s ns' (t + 3 * count) (get_or (tags 1 0 s) count no_tag).line (get_or (tags 1 0 s) count no_tag).attribution
        new = rw here (subst (λ (y : ℕ). TagAt s ns' (t + 3 * count) line (take y (drop (i + 7) s))) z g)

        at : (j : ℕ) → j < count + 1 → Dec (count ≤ j) → TagAt s ns' (t + 3 * j) (get_or (tags 1 0 s) j no_tag).line (get_or (tags 1 0 s) j no_tag).attribution
        at j lt (yes p) = let c : count ≡ j = omega (arith, lt, p) in subst (λ (y : ℕ). TagAt s ns' (t + 3 * y) (get_or (tags 1 0 s) y no_tag).line (get_or (tags 1 0 s) y no_tag).attribution) c new
        at j lt (no p) = tag-kept s ns ns' (t + 3 * count) (t + 3 * j) b (omega (arith, p)) (w.each j (omega (arith, p)))

  -- all tags are read, and ns' has their weights behind them
  pub tabled-end : length s ≤ i → i ≤ length s → (ns' : List ℕ) → t + length s ≤ length ns' → Weighed s ns' t count × (take (t + 3 * count) ns' ≡ take (t + 3 * count) ns) → Table s ns' t count
  unfolding tags
  tabled-end le ge ns' room (v, b) =
      let a : drop i s ≡ [] = drop_of_length-le s {i = i} le in
      let n : tags line 0 (drop i s) ≡ [] = rw a in
      let d : length (drop count (tags 1 0 s)) ≡ length (tags 1 0 s) - count = length-drop count (tags 1 0 s) in
      let z : length (drop count (tags 1 0 s)) ≡ 0 = ap length (w.rest ∙ n) in
      record {
        all = omega (arith, d, z, w.some);
        room = omega (arith, w.few);
        each = λ k lt. tag-kept s ns ns' (t + 3 * count) (t + 3 * k) b (omega (arith, lt)) (w.each k lt);
        weighed = v;
      }
