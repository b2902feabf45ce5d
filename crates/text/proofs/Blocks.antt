-- Laws of copying in blocks of 16. Assumes nothing.
use mathlib.Core.Path.{◌≡◌, refl, sym, ap, ◌∙◌}
use Prim.Native.Nat.{ℕ, ◌+◌, ◌-◌, ◌≤◌, ◌<◌}
use native.Mathlib.Omega.{arith}
use native.Mathlib.Decide.{dec_le}
use mathlib.Core.List.{List, ◌++◌, append_assoc, append-nil}
use lib.ListN.{length, take, drop, length-drop}
use lib.Seq.{drop-drop, take-take, take-add, take-append-le, take-append-add, length-take-le, drop_at, paste, length-paste, take-paste, drop-paste, take_all}
use Rattle.text.specs.Writes.{Pasted, Apart}

-- ---- a run

-- The elements of src from a up to i stand in buf behind what xs has before `at`; i may be past the run's end e by less than a block.
pub record Copying {A : Type 0} (src xs : List A) (a e at : ℕ) (buf : List A) (i to : ℕ) : Type 0 where
  pub same : length buf ≡ length xs
  pub order : a ≤ i
  pub inside : i ≤ e + 15
  pub end : to ≡ at + (i - a)
  pub text : take to buf ≡ take at xs ++ take (i - a) (drop a src)
  pub behind : drop (at + (e - a) + 15) buf ≡ drop (at + (e - a) + 15) xs

pub copying : {A : Type 0} (src xs : List A) (a e at : ℕ) → a ≤ e → Copying src xs a e at xs a at
copying src xs a e at h =
    let z : a - a ≡ 0 = omega arith in
    record { same = refl; order = omega arith; inside = omega arith; end = omega arith; text = rw (z, append-nil (take at xs)); behind = refl }

module _ {A : Type 0} {src xs : List A} {a e at : ℕ} {buf : List A} {i to : ℕ} (w : Copying src xs a e at buf i to) (room : at + (e - a) + 15 ≤ length xs) where
  pub copying-on : {b : List A} → i < e → e + 15 ≤ length src → b ≡ take 16 (drop i src) → Copying src xs a e at (paste buf to b 16) (i + 16) (to + 16)
  copying-on {b} lt le q =
      let l : length b ≡ 16 = ap length q ∙ length-take-le 16 (drop i src) (let d = length-drop i src in omega (arith, d)) in
      let t : to + 16 ≤ length buf = omega (arith, w.same, w.end, w.order) in
      let k : i + 16 - a ≡ i - a + 16 = omega (arith, w.order) in
      let x : a + (i - a) ≡ i = omega (arith, w.order) in
      let y : to + 16 + (at + (e - a) + 15 - (to + 16)) ≡ at + (e - a) + 15 = omega (arith, w.end, w.order) in
      record {
        same = length-paste buf to b 16 t (omega (arith, l)) ∙ w.same;
        order = omega (arith, w.order);
        inside = omega arith;
        end = omega (arith, w.end, w.order);
        text = take-paste buf to b 16 (omega arith) (omega (arith, l)) ∙ ap (λ (v : List A). v ++ take 16 b) w.text
            ∙ append_assoc (take at xs) (take (i - a) (drop a src)) (take 16 b)
            ∙ ap (λ (v : List A). take at xs ++ v)
            (ap (λ (v : List A). take (i - a) (drop a src) ++ v)
            (take_all 16 b (omega (arith, l)) ∙ q ∙ ap (λ (j : ℕ). take 16 (drop j src)) (sym x) ∙ ap (take 16) (sym (drop-drop (i - a) a src)))
            ∙ sym (take-add (i - a) 16 (drop a src)) ∙ ap (λ (j : ℕ). take j (drop a src)) (sym k));
        behind = ap (λ (j : ℕ). drop j (paste buf to b 16)) (sym y) ∙ sym (drop-drop (at + (e - a) + 15 - (to + 16)) (to + 16) (paste buf to b 16))
            ∙ ap (drop (at + (e - a) + 15 - (to + 16))) (drop-paste buf to b 16 (omega arith) (omega (arith, l)))
            ∙ drop-drop (at + (e - a) + 15 - (to + 16)) (to + 16) buf ∙ ap (λ (j : ℕ). drop j buf) y ∙ w.behind;
      }

  pub copying-end : e ≤ i → a ≤ e → e ≤ length src → Pasted xs at buf (take (e - a) (drop a src))
  copying-end le h hs =
      let d = length-drop a src in
      let l : length (take (e - a) (drop a src)) ≡ e - a = length-take-le (e - a) (drop a src) (omega (arith, d)) in
      let n : length (take at xs) ≡ at = length-take-le at xs (omega arith) in
      record {
        text = ap (λ (j : ℕ). take (at + j) buf) l ∙ sym (take-take (at + (e - a)) to buf (omega (arith, w.end)))
            ∙ ap (take (at + (e - a))) w.text ∙ ap (λ (j : ℕ). take (j + (e - a)) (take at xs ++ take (i - a) (drop a src))) (sym n)
            ∙ take-append-add (take at xs) (take (i - a) (drop a src)) (e - a)
            ∙ ap (λ (v : List A). take at xs ++ v) (take-take (e - a) (i - a) (drop a src) (omega arith));
        behind = ap (λ (j : ℕ). drop (at + j + 15) buf) l ∙ w.behind ∙ ap (λ (j : ℕ). drop (at + j + 15) xs) (sym l);
      }

-- within one slice: what is read before `at` stands there since the start
copying-within : {A : Type 0} {xs : List A} {a e at : ℕ} {buf : List A} {i to : ℕ} → Copying xs xs a e at buf i to → at ≤ length xs → i + 16 ≤ at → take 16 (drop i buf) ≡ take 16 (drop i xs)
copying-within {A} {xs} {a} {e} {at} {buf} {i} {to} w h k =
    let n : length (take at xs) ≡ at = length-take-le at xs h in
    let s : take at buf ≡ take at xs = sym (take-take at to buf (omega (arith, w.end))) ∙ ap (take at) w.text
    ∙ take-append-le at (take at xs) (take (i - a) (drop a xs)) (omega (arith, n)) ∙ take-take at at xs (omega arith) in
    cut buf (omega (arith, w.same)) ∙ ap (λ (v : List A). take 16 (drop i v)) s ∙ sym (cut xs (omega arith))
  where
    cut : (v : List A) → i ≤ length v → take 16 (drop i v) ≡ take 16 (drop i (take at v))
    cut v hv =
        let x : i + (at - i) ≡ at = omega arith in
        sym (take-take 16 (at - i) (drop i v) (omega arith))
        ∙ ap (take 16) (sym (drop_at (take i v) (take (at - i) (drop i v)) i (length-take-le i v hv)) ∙ ap (drop i) (sym (take-add i (at - i) v) ∙ ap (λ (j : ℕ). take j v) x))

-- within one slice: a run that stands before the place or behind all that is written is read as it stood there at the start
pub copying-apart : {A : Type 0} {xs : List A} {a e at : ℕ} {buf : List A} {i to : ℕ} → Copying xs xs a e at buf i to → at ≤ length xs → i < e → Apart a (e + 15) at (at + (e - a) + 15) → take 16 (drop i buf) ≡ take 16 (drop i xs)
copying-apart {A} {xs} {a} {e} {at} {buf} {i} {to} w h lt f =
    elim (dec_le (e + 15) at) [
      | yes k ↦ copying-within w h (omega arith)
      | no n ↦ (let q : at + (e - a) + 15 ≤ a = f (omega arith) in
          let z : at + (e - a) + 15 + (i - (at + (e - a) + 15)) ≡ i = omega (arith, q, w.order) in
          let k : ℕ = i - (at + (e - a) + 15) in
          ap (take 16) (ap (λ (j : ℕ). drop j buf) (sym z) ∙ sym (drop-drop k (at + (e - a) + 15) buf) ∙ ap (drop k) w.behind ∙ drop-drop k (at + (e - a) + 15) xs ∙ ap (λ (j : ℕ). drop j xs) z))
    ]
