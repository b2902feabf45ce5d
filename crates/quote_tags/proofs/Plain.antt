-- Laws of bytes that no quote tag begins with. Assumes nothing.
use mathlib.Core.Path.{◌≡◌, refl, sym, ap, ◌∙◌}
use Prim.Native.Nat.{ℕ, zero, suc, ◌+◌, ◌-◌, ◌≤◌, ◌<◌}
use native.Mathlib.Nat.{add-zero, le_of_suc-le-suc, not-suc-le-zero}
use native.Mathlib.Omega.{arith}
use mathlib.Core.Bool.{Bool, true, false, cond, ◌&&◌, ◌||◌, true≢false}
use mathlib.Core.List.{List, [], ◌∷◌, ◌++◌}
use lib.ListN.{length, take, drop, get_or, length-drop}
use lib.Seq.{get_or-drop, get_or-take, length-take-le}
use lib.Dec.{eqb}
use borrow.Author.Tests.{eq-eqb, ne_eqb, eqb-true, eqb-false}
use Rattle.text.specs.Ascii.{ascii, is, inside, small, begins, to_first, to_bracket}
use Rattle.text.proofs.Bytes.{inside-true, look, look-past, first-within, first-plain-at}
use Rattle.quote_tags.specs.Tags.{NextBracket, begins_any, openers, closers, opener_size, closer_size, NoTag, NoQ}
use Rattle.quote_tags.proofs.Places.{Between, between-then, Run}
use Rattle.quote_tags.proofs.Tagging.{tag-not}

-- ---- another byte

-- a byte below the small letters is read off no other byte
pub small-other : (b c : ℕ) → c < 97 → (b ≡ c → ⊥) → small b ≡ c → ⊥
unfolding small
small-other b c lt n e = by (inside 65 90 b) refl e
  where
    by : (t : Bool) → inside 65 90 b ≡ t → cond t (b + 32) b ≡ c → ⊥
    by true p q = let z = inside-true 65 90 b p in omega (arith, z.0, q)
    by false p q = n q

pub byte-other : (k : ℕ) (w x : List ℕ) → k < length w → (small (get_or x k 0) ≡ get_or w k 0 → ⊥) → begins w x ≡ false
unfolding begins
byte-other k [] x h n = absurd (not-suc-le-zero h)
byte-other k (a ∷ w) [] h n = refl
byte-other zero (a ∷ w) (b ∷ x) h n = rw (ne_eqb (small b) a n)
byte-other (suc k) (a ∷ w) (b ∷ x) h n = rw (byte-other k w x (le_of_suc-le-suc h) n) (and-false (eqb (small b) a))
  where
    and-false : (t : Bool) → (t && false) ≡ false
    and-false true = refl
    and-false false = refl

pub neither : (t u : Bool) → (t || u) ≡ false → (t ≡ false) × (u ≡ false)
neither true u q = absurd (true≢false q)
neither false u q = (refl, q)

-- neither a capital letter nor its small one
pub letter-other : (b c : ℕ) → (eqb b (c + 32) || eqb b c) ≡ false → small b ≡ c + 32 → ⊥
unfolding small
letter-other b c h e = by (inside 65 90 b) e (neither (eqb b (c + 32)) (eqb b c) h)
  where
    by : (t : Bool) → cond t (b + 32) b ≡ c + 32 → (eqb b (c + 32) ≡ false) × (eqb b c ≡ false) → ⊥
    by true q p = eqb-false b c p.1 (omega (arith, q))
    by false q p = eqb-false b (c + 32) p.0 q

-- ---- a word and one byte more

-- a byte that is its own small one, below the small letters
small_same : (b c : ℕ) → c < 97 → small c ≡ c → eqb (small b) c ≡ eqb b c
small_same b c lt e = by (eqb b c) refl
  where
    by : (t : Bool) → eqb b c ≡ t → eqb (small b) c ≡ t
    by true p = eq-eqb (small b) c (ap small (eqb-true b c p) ∙ e)
    by false p = ne_eqb (small b) c (small-other b c lt (eqb-false b c p))

begins-then : (w x : List ℕ) (c : ℕ) → 0 < c → begins (w ++ (c ∷ [])) x ≡ (begins w x && eqb (small (get_or x (length w) 0)) c)
unfolding begins small inside
begins-then [] [] c h = sym (ne_eqb 0 c (λ e. omega arith))
begins-then [] (b ∷ x) c h = and-true (eqb (small b) c)
  where
    and-true : (t : Bool) → (t && true) ≡ t
    and-true true = refl
    and-true false = refl
begins-then (a ∷ w) [] c h = refl
begins-then (a ∷ w) (b ∷ x) c h = rw (begins-then w x c h) (and_assoc (eqb (small b) a) _ _)
  where
    and_assoc : (t u v : Bool) → (t && (u && v)) ≡ ((t && u) && v)
    and_assoc true u v = refl
    and_assoc false u v = refl

-- the word of an opener that a function compared, and the byte behind it
pub openers-by : (x : List ℕ) {t : Bool} {b : ℕ} → t ≡ begins (ascii "[quote") x → b ≡ get_or x 6 0 → (t && ((eqb b 93 || eqb b 61) || eqb b 32)) ≡ begins_any openers x
unfolding begins_any small inside
openers-by x {t} {b} et eb = rw (then 93 (omega arith) (omega arith) refl, then 61 (omega arith) (omega arith) refl, then 32 (omega arith) (omega arith) refl) (by t _ _ _)
  where
    then : (c : ℕ) → 0 < c → c < 97 → small c ≡ c → begins (ascii "[quote" ++ (c ∷ [])) x ≡ (t && eqb b c)
    then c h l e = rw (begins-then (ascii "[quote") x c h, ← et, ← eb) (ap (λ u. t && u) (small_same b c l e))

    by : (t u v w : Bool) → (t && ((u || v) || w)) ≡ ((t && u) || ((t && v) || ((t && w) || false)))
    by false u v w = refl
    by true true v w = refl
    by true false true w = refl
    by true false false true = refl
    by true false false false = refl

-- ---- bytes that begin no tag

openers-other : (x : List ℕ) → begins (ascii "[quote") x ≡ false → begins_any openers x ≡ false
openers-other x p = sym (openers-by x (sym p) refl)

-- an opener's second byte is a q, a closer's `/`
pub openers-alone : (x : List ℕ) → (opener_size x ≡ 0 → ⊥) → closer_size x ≡ 0
unfolding opener_size closer_size begins_any
openers-alone x n = by (eqb (small (get_or x 1 0)) 47) refl
  where
    by : (t : Bool) → eqb (small (get_or x 1 0)) 47 ≡ t → closer_size x ≡ 0
    by true p = absurd (n (sym (tag-not openers x (openers-other x (byte-other 1 _ x (omega arith) (λ q. let z = eqb-true _ 47 p in omega (arith, z, q)))))))
    by false p = sym (tag-not closers x (rw (byte-other 1 (ascii "[/quote]") x (omega arith) (eqb-false _ 47 p))))

plain : (x : List ℕ) → begins (ascii "[quote") x ≡ false → begins (ascii "[/quote]") x ≡ false → NoTag x
unfolding opener_size closer_size begins_any
plain x p q = (sym (tag-not openers x (openers-other x p)), sym (tag-not closers x (rw q)))

module _ (s : List ℕ) (i : ℕ) {y t : ℕ} (ey : y ≡ get_or s (i + 1) 0) (et : t ≡ small y) where
  pub second-not : (a c : ℕ) (w : List ℕ) → (t ≡ c → ⊥) → begins (a ∷ c ∷ w) (drop i s) ≡ false
  second-not a c w n = byte-other 1 (a ∷ c ∷ w) (drop i s) (omega arith) (λ q. n (et ∙ ap small (ey ∙ sym (get_or-drop i s 1 0)) ∙ q))

  pub openers-not : (t ≡ 113 → ⊥) → false ≡ begins_any openers (drop i s)
  openers-not n = sym (openers-other (drop i s) (second-not _ _ _ n))

pub first-here : (s : List ℕ) (i : ℕ) → get_or (drop i s) 0 0 ≡ get_or s i 0
first-here s i = rw (get_or-drop i s 0 0, add-zero)

module _ (s : List ℕ) (i : ℕ) where
  not-bracket : (get_or s i 0 ≡ 91 → ⊥) → NoTag (drop i s)
  not-bracket n =
      let f = small-other _ 91 (omega arith) (λ z. n (sym (first-here s i) ∙ z)) in
      plain (drop i s) (byte-other 0 _ _ (omega arith) f) (byte-other 0 _ _ (omega arith) f)

  -- the bytes that a function compared
  not-tag : {b c : ℕ} → b ≡ get_or s (i + 1) 0 → c ≡ get_or s (i + 2) 0 → ((eqb b 113 || eqb b 81) || (eqb b 47 && (eqb c 113 || eqb c 81))) ≡ false → NoTag (drop i s)
  not-tag {b} {c} eb ec h =
      let r = neither (eqb b 113 || eqb b 81) (eqb b 47 && (eqb c 113 || eqb c 81)) h in
      plain (drop i s) (byte-other 1 _ _ (omega arith) (λ z. letter-other b 81 r.0 (second z))) (by (eqb b 47) refl r.1)
    where
      second : {d : ℕ} → small (get_or (drop i s) 1 0) ≡ d → small b ≡ d
      second z = ap small (eb ∙ sym (get_or-drop i s 1 0)) ∙ z

      by : (t : Bool) → eqb b 47 ≡ t → (t && (eqb c 113 || eqb c 81)) ≡ false → begins (ascii "[/quote]") (drop i s) ≡ false
      by false p q = byte-other 1 _ _ (omega arith) (λ z. small-other b 47 (omega arith) (eqb-false b 47 p) (second z))
      by true p q = byte-other 2 _ _ (omega arith) (λ z. letter-other c 81 q (ap small (ec ∙ sym (get_or-drop i s 2 0)) ∙ z))

  pub not-begun : {b c : ℕ} → b ≡ get_or s (i + 1) 0 → c ≡ get_or s (i + 2) 0 → (eqb (get_or s i 0) 91 && ((eqb b 113 || eqb b 81) || (eqb b 47 && (eqb c 113 || eqb c 81)))) ≡ false → NoTag (drop i s)
  not-begun {b} {c} eb ec h = by (eqb (get_or s i 0) 91) refl h
    where
      by : (t : Bool) → eqb (get_or s i 0) 91 ≡ t → (t && ((eqb b 113 || eqb b 81) || (eqb b 47 && (eqb c 113 || eqb c 81)))) ≡ false → NoTag (drop i s)
      by false p q = not-bracket (eqb-false (get_or s i 0) 91 p)
      by true p q = not-tag eb ec q

  no-q : NoQ (get_or s (i + 1) 0) → NoQ (get_or s (i + 2) 0) → NoTag (drop i s)
  no-q p q =
      plain
      (drop i s)
      (byte-other 1 _ _ (omega arith) (λ z. letter-other _ 81 p (ap small (sym (get_or-drop i s 1 0)) ∙ z)))
      (byte-other 2 _ _ (omega arith) (λ z. letter-other _ 81 q (ap small (sym (get_or-drop i s 2 0)) ∙ z)))

-- a run of no tag goes on past bytes that are no q, but for the last two of them, and past places that were looked at
pub run_past : (s : List ℕ) {a i r j k : ℕ} → Between (λ n. NoTag (drop n s)) a i → Between (λ n. NoQ (get_or s n 0)) i j → (i < r → r + 2 ≤ j) → Between (λ n. NoTag (drop n s)) r k
    → Between (λ n. NoTag (drop n s)) a k
run_past s {a} {i} {r} {j} {k} f g h t = between-then P a i k f (between-then P i r k past t)
  where
    P : ℕ → Type 0
    P n = NoTag (drop n s)

    past : Between P i r
    past n l m = let b = h (omega arith) in no-q s n (g (n + 1) (omega arith) (omega (arith, b))) (g (n + 2) (omega arith) (omega (arith, b)))

-- and up to the next `[` before e
pub run-to-bracket : (s : List ℕ) {a i e k : ℕ} → Between (λ n. NoTag (drop n s)) a i → i ≤ e → e ≤ length s → k ≡ i + to_first (λ x. eqb x 91) (drop i (take e s))
    → ((i ≤ k) × (k ≤ e)) × Between (λ n. NoTag (drop n s)) a k
run-to-bracket s {a} {i} {e} {k} f h le q =
    let l : length (take e s) ≡ e = length-take-le e s le in
    let d = length-drop i (take e s) in
    let m = first-within (λ x. eqb x 91) (drop i (take e s)) in
    let kl : k ≤ e = omega (arith, q, m, d, l) in
    ((omega (arith, q), kl), between-then P a i k f (λ n g t. not-bracket s n (λ z. eqb-false _ 91 (first-plain-at (λ x. eqb x 91) (take e s) i n g (omega (arith, l, t, kl)) (omega (arith, t, q))) (get_or-take e s n 0 (omega (arith, t, kl)) ∙ z))))
  where
    P : ℕ → Type 0
    P n = NoTag (drop n s)

-- ---- a run from one place up to another

-- what `next_tag` says of it
abbrev pub PlainRun : (s : List ℕ) (i q : ℕ) → Type 0
PlainRun s i q = Run NoTag s i q

-- the next `]` of a place is that of a later one before it
pub bracket-past : (s : List ℕ) (i q : ℕ) {b : ℕ} → i ≤ q → q ≤ length s → NextBracket s i b → NextBracket s q b
unfolding to_bracket
bracket-past s i q {b} h le nb g =
    let e : b ≡ i + to_first (is "]") (drop i s) = nb (omega arith) in
    let x : i + (q - i) ≡ q = omega arith in
    let l = look-past (is "]") s i i (q - i) (look (is "]") s i (omega arith)) (omega arith) (omega arith) in
    e ∙ sym (rw x at l.ends)
