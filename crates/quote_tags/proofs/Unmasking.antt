-- Laws of masks that find nothing to mask. Assumes nothing.
use mathlib.Core.Path.{◌≡◌, refl, sym, ap, ◌∙◌}
use Prim.Native.Nat.{ℕ, zero, suc, ◌+◌, ◌<◌}
use native.Mathlib.Nat.{zero-sub}
use native.Mathlib.Omega.{arith}
use mathlib.Core.Bool.{Bool, true, false, cond, not, ◌&&◌, ◌||◌, true≢false}
use mathlib.Core.List.{List, [], ◌∷◌, ◌++◌, append-nil}
use lib.Bits.{bit_or}
use lib.ListN.{length, take, drop, get_or}
use lib.Seq.{take-length, drop-length, get_or-drop}
use lib.Dec.{eqb}
use borrow.Author.Tests.{eqb-true, eqb-false, not-false}
use Rattle.text.specs.Ascii.{ascii, inside, small, begins}
use Rattle.quote_tags.specs.Tags.{begins_any}
use Rattle.quote_tags.specs.Masks.{Mask, region, shown, masked, code, icode, noparse, visible, NoMask, NoOpener}
use Rattle.quote_tags.proofs.Tagging.{tag-not}
use Rattle.quote_tags.proofs.Masking.{region-none, any_twice}
use Rattle.quote_tags.proofs.Places.{Between, between-turn}
use Rattle.quote_tags.proofs.Plain.{small-other, byte-other, neither, letter-other, first-here}

-- ---- a mask where none begins

masked-byte : (m : Mask) (b : ℕ) (x : List ℕ) → region m (b ∷ x) ≡ 0 → masked m 0 (b ∷ x) ≡ b ∷ masked m 0 x
unfolding masked shown
masked-byte m b x e = rw (e, zero-sub)

pub masked-run : (m : Mask) (n : ℕ) (x : List ℕ) → ((j : ℕ) → j < n → region m (drop j x) ≡ 0) → masked m 0 x ≡ take n x ++ masked m 0 (drop n x)
masked-run m zero x f = refl
masked-run m (suc n) [] f = refl
masked-run m (suc n) (b ∷ x) f = masked-byte m b x (f 0 (omega arith)) ∙ ap (λ (r : List ℕ). b ∷ r) (masked-run m n x (λ j h. f (suc j) (omega arith)))

-- ---- a text with no mask

masked-none : (m : Mask) (s : List ℕ) → ((j : ℕ) → j < length s → region m (drop j s) ≡ 0) → masked m 0 s ≡ s
unfolding masked
masked-none m s f = masked-run m (length s) s f ∙ rw (take-length, drop-length, append-nil)

pub visible-same : (s : List ℕ) → Between (λ j. NoMask (drop j s)) 0 (length s) → visible s ≡ s
unfolding visible
visible-same s f =
    ap (λ (x : List ℕ). masked noparse 0 (masked icode 0 x)) (masked-none code s (λ j h. (f j (omega arith) h).0))
    ∙ ap (masked noparse 0) (masked-none icode s (λ j h. (f j (omega arith) h).1))
    ∙ masked-none noparse s (λ j h. (f j (omega arith) h).2)

-- ---- the words that open a mask

begins-shorter : (w v x : List ℕ) → begins w x ≡ false → begins (w ++ v) x ≡ false
unfolding begins
begins-shorter [] v x e = absurd (true≢false e)
begins-shorter (a ∷ w) v [] e = refl
begins-shorter (a ∷ w) v (b ∷ x) e = by (eqb (small b) a) e (begins-shorter w v x)
  where
    by : (t : Bool) → (t && begins w x) ≡ false → (begins w x ≡ false → begins (w ++ v) x ≡ false) → (t && begins (w ++ v) x) ≡ false
    by true p k = k p
    by false p k = refl

neither-begins : (w v x : List ℕ) → begins w x ≡ false → begins v x ≡ false → begins_any (w ∷ v ∷ []) x ≡ false
unfolding begins_any
neither-begins w v x p q = rw (p, q)

unopened : (m : Mask) (x : List ℕ) → begins_any m.opens x ≡ false → region m x ≡ 0
unopened m x e = sym (region-none m x (tag-not m.opens x e))

module _ (x : List ℕ) where
  no_code : begins (ascii "[code") x ≡ false → region code x ≡ 0
  unfolding code
  no_code p = unopened code x (neither-begins _ _ x (begins-shorter (ascii "[code") (ascii "]") x p) (begins-shorter (ascii "[code") (ascii "=") x p))

  no-icode : begins (ascii "[c]") x ≡ false → begins (ascii "[icode]") x ≡ false → region icode x ≡ 0
  unfolding icode
  no-icode p q = unopened icode x (neither-begins _ _ x p q)

  no-noparse : begins (ascii "[noparse]") x ≡ false → region noparse x ≡ 0
  unfolding noparse
  no-noparse p = unopened noparse x (sym (any_twice _ x) ∙ neither-begins _ _ x p p)

  pub no-mask : begins (ascii "[code") x ≡ false → begins (ascii "[c]") x ≡ false → begins (ascii "[icode]") x ≡ false → begins (ascii "[noparse]") x ≡ false → NoMask x
  no-mask a b c d = (no_code a, no-icode b c, no-noparse d)

-- ---- the bytes that a word begins with

small-bracket : small 93 ≡ 93
unfolding small inside
small-bracket = refl

module _ (x : List ℕ) where
  pub no-tag : (get_or x 0 0 ≡ 91 → ⊥) → NoMask x
  no-tag n =
      let f = small-other (get_or x 0 0) 91 (omega arith) n in
      no-mask x (byte-other 0 _ x (omega arith) f) (byte-other 0 _ x (omega arith) f) (byte-other 0 _ x (omega arith) f) (byte-other 0 _ x (omega arith) f)

  -- the bytes that a function compared
  pub not-open : {a b c : ℕ} → (eqb a 91 && (((eqb b 99 || eqb b 67) || (eqb b 110 || eqb b 78)) || ((eqb b 105 || eqb b 73) && not (eqb c 93)))) ≡ false
      → get_or x 0 0 ≡ a → get_or x 1 0 ≡ b → get_or x 2 0 ≡ c → NoMask x
  not-open {a} {b} {c} h ea eb ec = by (eqb a 91) refl h
    where
      other : (l : ℕ) → (eqb b (l + 32) || eqb b l) ≡ false → small (get_or x 1 0) ≡ l + 32 → ⊥
      other l p z = letter-other b l p (ap small (sym eb) ∙ z)

      by-i : (t : Bool) → (eqb b 105 || eqb b 73) ≡ t → (t && not (eqb c 93)) ≡ false → begins (ascii "[icode]") x ≡ false
      by-i false p q = byte-other 1 (ascii "[icode]") x (omega arith) (other 73 p)
      by-i true p q = byte-other 2 (ascii "[icode]") x (omega arith) (λ z. let e : 93 ≡ 99 = sym small-bracket ∙ ap small (sym (ec ∙ eqb-true c 93 (not-false _ q))) ∙ z in omega (arith, e))

      by : (t : Bool) → eqb a 91 ≡ t → (t && (((eqb b 99 || eqb b 67) || (eqb b 110 || eqb b 78)) || ((eqb b 105 || eqb b 73) && not (eqb c 93)))) ≡ false → NoMask x
      by false p q = no-tag (λ z. eqb-false a 91 p (sym ea ∙ z))
      by true p q =
          let r = neither ((eqb b 99 || eqb b 67) || (eqb b 110 || eqb b 78)) ((eqb b 105 || eqb b 73) && not (eqb c 93)) q in
          let s = neither (eqb b 99 || eqb b 67) (eqb b 110 || eqb b 78) r.0 in
          no-mask x (byte-other 1 _ x (omega arith) (other 67 s.0)) (byte-other 1 _ x (omega arith) (other 67 s.0)) (by-i (eqb b 105 || eqb b 73) refl r.1) (byte-other 1 _ x (omega arith) (other 78 s.1))

-- ---- the letters that a mask's words are looked for by

module _ (x : List ℕ) (l : ℕ) (capital : bit_or l 32 ≡ l + 32) (same : bit_or (l + 32) 32 ≡ l + 32) where
  letter-or : (b : ℕ) → small b ≡ l + 32 → bit_or b 32 ≡ l + 32
  unfolding small
  letter-or b e = by (inside 65 90 b) e
    where
      by : (t : Bool) → cond t (b + 32) b ≡ l + 32 → bit_or b 32 ≡ l + 32
      by true z = let y : b ≡ l = omega (arith, z) in rw y capital
      by false z = rw z same

  -- a word with the letter at place k
  word-not : (k : ℕ) (w : List ℕ) → k < length (91 ∷ w) → get_or (91 ∷ w) k 0 ≡ l + 32 → (get_or x 0 0 ≡ 91 → eqb (bit_or (get_or x k 0) 32) (l + 32) ≡ false) → begins (91 ∷ w) x ≡ false
  word-not k w h e n = by (eqb (get_or x 0 0) 91) refl
    where
      by : (t : Bool) → eqb (get_or x 0 0) 91 ≡ t → begins (91 ∷ w) x ≡ false
      by false p = byte-other 0 (91 ∷ w) x (omega arith) (small-other (get_or x 0 0) 91 (omega arith) (eqb-false (get_or x 0 0) 91 p))
      by true p = byte-other k (91 ∷ w) x h (λ z. eqb-false _ _ (n (eqb-true (get_or x 0 0) 91 p)) (letter-or (get_or x k 0) (z ∙ e)))

module _ (a b : ℕ) (x : List ℕ) where
  behind-bracket : NoOpener a b x → get_or x 0 0 ≡ 91 → (eqb (bit_or (get_or x 1 0) 32) a ≡ false) × (eqb (bit_or (get_or x 2 0) 32) b ≡ false)
  unfolding NoOpener
  behind-bracket h e = neither _ _ (rw e at h)

  -- the bytes that a function compared
  pub not-open-by : {c d e : ℕ} → (eqb c 91 && (eqb (bit_or d 32) a || eqb (bit_or e 32) b)) ≡ false → get_or x 0 0 ≡ c → get_or x 1 0 ≡ d → get_or x 2 0 ≡ e → NoOpener a b x
  unfolding NoOpener
  not-open-by h ec ed ee = rw (ec, ed, ee) h

module _ (x : List ℕ) where
  -- a word with the letter behind its bracket
  pub word-by : (l b : ℕ) → bit_or l 32 ≡ l + 32 → bit_or (l + 32) 32 ≡ l + 32 → (w : List ℕ) → NoOpener (l + 32) b x → begins (91 ∷ (l + 32) ∷ w) x ≡ false
  word-by l b capital same w h = word-not x l capital same 1 ((l + 32) ∷ w) (omega arith) refl (λ e. (behind-bracket (l + 32) b x h e).0)

  pub code-by-c : NoOpener 99 0 x → region code x ≡ 0
  code-by-c h = no_code x (word-by 67 0 refl refl _ h)

  pub icode-by-c : NoOpener 99 99 x → region icode x ≡ 0
  icode-by-c h = no-icode x (word-by 67 99 refl refl _ h) (word-not x 67 refl refl 2 _ (omega arith) refl (λ e. (behind-bracket 99 99 x h e).1))

  pub noparse-by-n : NoOpener 110 0 x → region noparse x ≡ 0
  noparse-by-n h = no-noparse x (word-by 78 0 refl refl _ h)

-- ---- what a function says of three bytes, by place

module _ (P : List ℕ → Type 0) (s : List ℕ) {r : Bool} {a b c : ℕ} (f : r ≡ false → (x : List ℕ) → get_or x 0 0 ≡ a → get_or x 1 0 ≡ b → get_or x 2 0 ≡ c → P x) where
  pub not-open-at : (i : ℕ) → a ≡ get_or s i 0 → b ≡ get_or s (i + 1) 0 → c ≡ get_or s (i + 2) 0 → r ≡ false → P (drop i s)
  not-open-at i ea eb ec q = f q (drop i s) (first-here s i ∙ sym ea) (get_or-drop i s 1 0 ∙ sym eb) (get_or-drop i s 2 0 ∙ sym ec)

  -- one place more of a block
  pub block-turn : (i k : ℕ) (t : Bool) → (t ≡ false → Between (λ j. P (drop j s)) i (i + k)) → a ≡ get_or s (i + k) 0 → b ≡ get_or s (i + k + 1) 0 → c ≡ get_or s (i + k + 2) 0 → (t || r) ≡ false
      → Between (λ j. P (drop j s)) i (i + (k + 1))
  block-turn i k t g ea eb ec z j h l = between-turn (λ j. P (drop j s)) i (i + k) t r g (not-open-at (i + k) ea eb ec) z j h (omega arith)
