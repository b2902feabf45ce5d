-- Laws of the listing. Assumes nothing.
use mathlib.Core.Path.{◌≡◌, refl, sym, ◌∙◌}
use mathlib.Core.Bool.{Bool, true, false, cond, not}
use Prim.Native.Nat.{ℕ, ◌+◌, ◌-◌, ◌<◌, min}
use native.Mathlib.Omega.{arith}
use mathlib.Core.List.{List, [], ◌∷◌, ◌++◌}
use lib.ListN.{length, take, drop, get_or, drop_of_length-le, length-drop}
use lib.Seq.{take_all, take-nil}
use native.Mathlib.Decide.{dec_le}
use lib.Dec.{eqb}
use borrow.Author.Tests.{eq-eqb}
use Rattle.std.specs.List.{flat_map, filter}
use Rattle.std.proofs.lemmas.List.{map-append, take_more, flat_map_more}
use Rattle.std.proofs.lemmas.List.Recursion.{same_from_clauses}
use Rattle.text.specs.Ascii.{ascii}
use Rattle.text.specs.Decimal.{decimal}
use Rattle.text.specs.declared.writer.Writer.{Writer}
use Rattle.text.proofs.Areas.{area-whole}
use Rattle.text.proofs.Writers.{wrote-then}
use Rattle.listing.specs.Listing.{escaped_byte, escaped, copied, line, loss, loss_lines, field, Adds, Lists}
use Rattle.losses.specs.declared.Loss.{Loss}
use Rattle.losses.specs.Records.{no_loss}

-- ---- bytes appended one behind the other

-- one more of the bytes s
pub lists-byte : {w w₁ w₂ : Writer} (s : List ℕ) (i : ℕ) → i < length s → Lists w w₁ (take i s) → Lists w₁ w₂ (get_or s i 0 ∷ []) → Lists w w₂ (take (i + 1) s)
lists-byte s i h p q = simp (take_more s i 0 h, map-append) (wrote-then p q)

-- one more of the elements xs, each of which is listed as f makes of it
lists-more : {X : Type 0} {w w₁ w₂ : Writer} (f : X → List ℕ) (xs : List X) (i : ℕ) (d : X) → i < length xs → Lists w w₁ (flat_map f (take i xs)) → Lists w₁ w₂ (f (get_or xs i d)) → Lists w w₂ (flat_map f (take (i + 1) xs))
lists-more f xs i d h p q = rw (take_more xs i d h, sym (flat_map_more f [] (take i xs) (get_or xs i d)), map-append) (wrote-then p q)

-- ---- a text, escaped

pub escaped-feed : (b : ℕ) → b ≡ 10 → escaped_byte b ≡ 92 ∷ 110 ∷ []
unfolding escaped_byte
escaped-feed b e = rw (eq-eqb b 10 e)

pub escaped-backslash : (b : ℕ) → b ≡ 92 → escaped_byte b ≡ 92 ∷ 92 ∷ []
unfolding escaped_byte
escaped-backslash b e = rw (e)

pub escaped-other : (b : ℕ) → eqb b 10 ≡ false → eqb b 92 ≡ false → escaped_byte b ≡ b ∷ []
unfolding escaped_byte
escaped-other b e f = rw (e, f)

escaped-is : (s : List ℕ) → escaped s ≡ flat_map escaped_byte s
unfolding escaped
escaped-is = same_from_clauses escaped (flat_map escaped_byte) (λ b t. escaped_byte b ++ t) refl (λ _ _. refl) (λ _ _. refl)

pub lists-escaped : {w w₁ w₂ : Writer} (s : List ℕ) (i : ℕ) → i < length s → Lists w w₁ (escaped (take i s)) → Lists w₁ w₂ (escaped_byte (get_or s i 0)) → Lists w w₂ (escaped (take (i + 1) s))
lists-escaped s i h p q = rw (escaped-is (take (i + 1) s)) (lists-more escaped_byte s i 0 h (rw (escaped-is (take i s)) at p) q)

-- ---- the losses

listed : List ℕ → Loss → List ℕ
listed ws x = loss x.quote x.line x.unnamed (field x.start x.length ws)

losses-is : (ws : List ℕ) (rs : List Loss) → loss_lines ws rs ≡ flat_map (listed ws) rs
unfolding loss_lines listed
losses-is ws = same_from_clauses (loss_lines ws) (flat_map (listed ws)) (λ x t. listed ws x ++ t) refl (λ _ _. refl) (λ _ _. refl)

pub lists-losses : {w w₁ w₂ : Writer} (ws : List ℕ) (rs : List Loss) (i : ℕ) → i < length rs → Lists w w₁ (loss_lines ws (take i rs))
    → Lists w₁ w₂ (loss (get_or rs i no_loss).quote (get_or rs i no_loss).line (get_or rs i no_loss).unnamed (field (get_or rs i no_loss).start (get_or rs i no_loss).length ws)) → Lists w w₂ (loss_lines ws (take (i + 1) rs))
unfolding listed
lists-losses ws rs i h p q = rw (losses-is ws (take (i + 1) rs)) (lists-more (listed ws) rs i no_loss h (rw (losses-is ws (take i rs)) at p) q)

-- the part of ws from one place up to another, neither behind its end
field-part : (start size a e : ℕ) (ws : List ℕ) → a ≡ min start (length ws) → e ≡ min (start + size) (length ws) → take (e - a) (drop a ws) ≡ field start size ws
unfolding field
field-part start size a e ws p q =
    elim (dec_le (start + size) (length ws)) [
      | yes h ↦
          let d : e - a ≡ size = omega arith in
          let f : a ≡ start = omega arith in
          rw (d, f)
      | no h ↦ elim (dec_le start (length ws)) [
        | yes k ↦
            let f : a ≡ start = omega arith in
            let l : length (drop start ws) ≡ length ws - start = length-drop start ws in
            let all : take (e - start) (drop start ws) ≡ drop start ws = take_all (e - start) (drop start ws) (omega arith) in
            let whole : take size (drop start ws) ≡ drop start ws = take_all size (drop start ws) (omega arith) in
            rw (f, all, whole)
        | no k ↦
            let none : drop a ws ≡ [] = drop_of_length-le ws {i = a} (omega arith) in
            let behind : drop start ws ≡ [] = drop_of_length-le ws {i = start} (omega arith) in
            rw (none, behind) (take-nil (e - a) ∙ sym (take-nil size))
      ]
    ]

pub lists-loss : (x : Loss) (a e : ℕ) (ws : List ℕ) {w w₁ w₂ w₃ w₄ : Writer} → a ≡ min x.start (length ws) → e ≡ min (x.start + x.length) (length ws)
    → Lists w w₁ (line (ascii "quote=") (decimal x.quote)) → Lists w₁ w₂ (line (ascii "line=") (decimal x.line)) → Lists w₂ w₃ (line (ascii "unnamed=") (decimal x.unnamed))
    → Lists w₃ w₄ (line (ascii "field=") (escaped (take (e - a) (drop a ws)))) → Lists w w₄ (loss x.quote x.line x.unnamed (field x.start x.length ws))
unfolding loss
lists-loss x a e ws f g p q r s = rw (← field-part x.start x.length a e ws f g) (simp map-append (wrote-then (wrote-then (wrote-then p q) r) s))

-- ---- origins counted

pub copied-counts : (os : List ℕ) → copied os ≡ length (filter (λ o. not (eqb o 0)) os)
unfolding copied
copied-counts [] = refl
copied-counts (o ∷ os) = rw (copied-counts os) (by (eqb o 0) (filter (λ x. not (eqb x 0)) os))
  where
    by : (t : Bool) (l : List ℕ) → cond t 0 1 + length l ≡ length (cond (not t) (o ∷ l) l)
    by true l = omega arith
    by false l = omega arith

-- ---- a pair of slices

-- a writer over the whole of a pair of slices
pub whole-listed : {bs ns : List ℕ} {w w' : Writer} (s : List ℕ) → Lists w w' s → w.end ≡ min (length w.bytes.now) (length w.numbers.now) → bs ≡ w'.bytes.now → ns ≡ w'.numbers.now
    → Adds w.bytes.now w.numbers.now w.at.0 bs ns w'.at.0 s
whole-listed {w} s p e b n = rw (b, n) (area-whole w.bytes.now w.numbers.now w.end (omega arith) (omega arith) e p.same.bytes-size p.same.numbers-size p.text)
