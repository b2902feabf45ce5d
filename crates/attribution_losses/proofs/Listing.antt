-- Laws of putting bytes and numbers, and of listing losses. Assumes nothing.
use mathlib.Core.Path.{◌≡◌, refl, sym, ap, ◌∙◌}
use mathlib.Core.Bool.{Bool, true, false}
use mir.Val.{bool_byte}
use Rattle.std.proofs.lemmas.List.{take-append-le}
use Rattle.std.proofs.lemmas.List.Edits.{take-paste}
use mathlib.Core.List.{List, [], ◌∷◌, ◌++◌, append-nil, append_assoc}
use Prim.Native.Nat.{ℕ, suc, ◌+◌, ◌-◌, ◌*◌, ◌≤◌, ◌<◌}
use native.Mathlib.Nat.{add-zero, le_refl}
use native.Mathlib.Omega.{arith}
use lib.Dec.{eqb}
use lib.ListN.{length, take, length-append}
use lib.Seq.{take-take, length-take-le, paste}
use borrow.Author.Tests.{ne_eqb}
use Rattle.attribution_parts.specs.Attribution.{Loss, loss_of}
use Rattle.attribution_losses.specs.Lists.{Puts, flag, record_of, records_of, loss_words, Lists}

-- ---- putting

pub puts_none : {T : Type 0} (v : List T) (at : ℕ) → Puts v at v at []
puts_none v at = record { size = refl; end = sym (add-zero at); keeps = refl; text = λ h. sym (append-nil (take at v)) }

pub puts_then : {T : Type 0} {v v₁ v₂ t u : List T} {a b c : ℕ} → Puts v a v₁ b t → Puts v₁ b v₂ c u → Puts v a v₂ c (t ++ u)
puts_then {T} {v} {v₁} {v₂} {t} {u} {a} {b} {c} p q =
    let n = length-append t u in
    let le : a ≤ b = omega (arith, p.end) in
    record {
      size = q.size ∙ p.size;
      end = omega (arith, n, p.end, q.end);
      keeps = sym (take-take a b v₂ le) ∙ ap (take a) q.keeps ∙ take-take a b v₁ le ∙ p.keeps;
      text = λ h. q.text (omega (arith, p.size)) ∙ ap (λ (l : List T). l ++ u) (p.text (omega (arith, q.end))) ∙ append_assoc (take a v) t u;
    }

pub puts-as : {T : Type 0} {v v' t u : List T} {a b : ℕ} → t ≡ u → Puts v a v' b t → Puts v a v' b u
puts-as e p = rw (← e) p

pub puts-past : {T : Type 0} (v t : List T) (at end : ℕ) → end ≡ at + length t → length v < end → Puts v at v end t
puts-past v t at end e lt = record { size = refl; end = e; keeps = refl; text = λ h. absurd (omega arith) }

-- n elements of s have been copied over those from `at` on
pub puts-pasted : {T : Type 0} (v s : List T) (at n : ℕ) → at + n ≤ length v → n ≤ length s → (v' : List T) → length v' ≡ length v → v' ≡ paste v at s n → Puts v at v' (at + n) (take n s)
puts-pasted v s at n le m v' z e =
    let t : take (at + n) v' ≡ take at v ++ take n s = rw e (take-paste v at s n (omega arith) m) in
    let w : length (take n s) ≡ n = length-take-le n s m in
    let a : length (take at v) ≡ at = length-take-le at v (omega arith) in
    record {
      size = z;
      end = omega (arith, w);
      keeps = sym (take-take at (at + n) v' (omega arith)) ∙ ap (take at) t ∙ take-append-le at (take at v) (take n s) (omega (arith, a)) ∙ take-take at at v (le_refl at);
      text = λ h. t;
    }

-- a flag as a number
pub flag-is : (u : Bool) → bool_byte u ≡ flag u
flag-is true = refl
flag-is false = refl

-- ---- records

pub no_record : (v : List ℕ) (k q l u start end : ℕ) → start ≡ end → Puts v (5 * k) v (5 * k) (record_of q l u start (end - start)) × ((k ≤ k) × (k ≤ k + 1))
unfolding record_of
no_record v k q l u start end e =
    let z : end - start ≡ 0 = omega arith in
    (rw z (puts_none v (5 * k)), (omega arith, omega arith))

pub one-record : (v v' : List ℕ) (k q l u start end : ℕ) → (start ≡ end → ⊥) → start ≤ end → Puts v (5 * k) v' (5 * (k + 1)) (q ∷ l ∷ u ∷ start ∷ (end - start) ∷ [])
    → Puts v (5 * k) v' (5 * (k + 1)) (record_of q l u start (end - start)) × ((k ≤ k + 1) × (k + 1 ≤ k + 1))
unfolding record_of
one-record v v' k q l u start end n le p = (rw (ne_eqb (end - start) 0 (λ (z : end - start ≡ 0). n (omega arith))) p, (omega arith, omega arith))

-- ---- listing

records_of-append : (q l to : ℕ) (xs ys : List Loss) → records_of q l to (xs ++ ys) ≡ records_of q l to xs ++ records_of q l (to + length (loss_words xs)) ys
unfolding records_of loss_words
records_of-append q l to [] ys = rw add-zero
records_of-append q l to (x ∷ xs) ys =
    let n = length-append x.words (loss_words xs) in
    let e : to + length x.words + length (loss_words xs) ≡ to + length (x.words ++ loss_words xs) = omega (arith, n) in
    ap (λ (r : List ℕ). q ∷ l ∷ flag x.unnamed ∷ to ∷ length x.words ∷ r) (records_of-append q l (to + length x.words) xs ys ∙ rw e)

loss_words-append : (xs ys : List Loss) → loss_words (xs ++ ys) ≡ loss_words xs ++ loss_words ys
unfolding loss_words
loss_words-append [] ys = refl
loss_words-append (x ∷ xs) ys = ap (λ (r : List ℕ). x.words ++ r) (loss_words-append xs ys) ∙ sym (append_assoc x.words (loss_words xs) (loss_words ys))

pub lists-none : (q l : ℕ) (rs : List ℕ) (k : ℕ) (bs : List ℕ) (to : ℕ) → Lists q l rs k bs to rs k bs to []
unfolding records_of loss_words
lists-none q l rs k bs to = record { records = puts_none rs (5 * k); words = puts_none bs to }

pub lists-then : {q l k k₁ k₂ to to₁ to₂ : ℕ} {rs rs₁ rs₂ bs bs₁ bs₂ : List ℕ} {xs ys : List Loss}
    → Lists q l rs k bs to rs₁ k₁ bs₁ to₁ xs → Lists q l rs₁ k₁ bs₁ to₁ rs₂ k₂ bs₂ to₂ ys → Lists q l rs k bs to rs₂ k₂ bs₂ to₂ (xs ++ ys)
lists-then {q} {l} {k} {k₁} {k₂} {to} {to₁} {to₂} {rs} {rs₁} {rs₂} {bs} {bs₁} {bs₂} {xs} {ys} p r =
    let e : to₁ ≡ to + length (loss_words xs) = p.words.end in
    record {
      records = rw (records_of-append q l to xs ys, ← e) (puts_then p.records r.records);
      words = rw (loss_words-append xs ys) (puts_then p.words r.words);
    }

-- one loss, if any
pub lists-one : {rs rs' bs bs' : List ℕ} {k r to e : ℕ} (q l : ℕ) (u : Bool) (w : List ℕ) → Puts rs (5 * k) rs' (5 * r) (record_of q l (flag u) to (e - to)) → Puts bs to bs' e w → Lists q l rs k bs to rs' r bs' e (loss_of u w)
unfolding records_of loss_words record_of
lists-one {rs} {rs'} {bs} {bs'} {k} {r} {to} {e} q l u [] p h =
    let z : e - to ≡ 0 = omega (arith, h.end) in
    let p' : Puts rs (5 * k) rs' (5 * r) [] = puts-as (rw z) p in
    record { records = p'; words = h }
lists-one {rs} {rs'} {bs} {bs'} {k} {r} {to} {e} q l u (b ∷ w) p h =
    let z : e - to ≡ suc (length w) = omega (arith, h.end) in
    let f : eqb (e - to) 0 ≡ false = ne_eqb (e - to) 0 (λ (y : e - to ≡ 0). omega (arith, z)) in
    let p' : Puts rs (5 * k) rs' (5 * r) (q ∷ l ∷ flag u ∷ to ∷ suc (length w) ∷ []) = puts-as (rw (f, z)) p in
    record { records = p'; words = rw append-nil h }

pub lists-as : {q l k k' to to' : ℕ} {rs rs' bs bs' : List ℕ} {xs ys : List Loss} → xs ≡ ys → Lists q l rs k bs to rs' k' bs' to' xs → Lists q l rs k bs to rs' k' bs' to' ys
lists-as e p = rw (← e) p
