-- Laws of settling the items from the right. Assumes nothing.
use mathlib.Core.Path.{◌≡◌, refl, sym, ap, ◌∙◌}
use mathlib.Core.List.{List, ◌∷◌}
use Prim.Native.Nat.{ℕ, zero, suc, ◌+◌, ◌-◌, ◌*◌, ◌%◌, ◌≤◌, ◌<◌}
use native.Mathlib.Numerals.{add-one, sub-one}
use native.Mathlib.Omega.{arith}
use native.Mathlib.Decide.{dec_le}
use lib.ListN.{length, take, get_or, set, length-take}
use lib.Seq.{get_or-set_same, get_or-set_other, ext_get_or, get_or-take}
use borrow.Author.Tests.{lt-ltb, le-ltb, ne_eqb}
use Rattle.text.specs.Cells.{Cell, part}
use Rattle.mark_tags.specs.Marks.{Kind}
use Rattle.mark_tags.specs.Flat.{Flat, vanish, leave, enter, begun, Settled, settled_open, settle, settled, flat_of, code_at, bound_at, flat_at, flats, kind_numbered, SettledItem, Recodes}
use Rattle.mark_items.proofs.Tabling.{flats-same}

-- ---- an item by its code

pub flat-leave : (s : List Cell) → flat_of 2 s ≡ leave s
unfolding flat_of
flat-leave s = refl

pub flat-gone : (code : ℕ) (s : List Cell) → (code ≡ 0 → ⊥) → (code ≡ 2 → ⊥) → code < 4 → flat_of code s ≡ vanish s
unfolding flat_of
flat-gone code s a b h = rw (ne_eqb code 0 a, ne_eqb code 2 b, lt-ltb code 4 h)

pub flat-enter : (code : ℕ) (s : List Cell) → 4 ≤ code → code < 8 → flat_of code s ≡ enter (kind_numbered (code % 4)) s
unfolding flat_of
flat-enter code s h k = rw (ne_eqb code 0 (λ z. omega arith), ne_eqb code 2 (λ z. omega arith), le-ltb code 4 h, lt-ltb code 8 k)

pub flat-begun : (code : ℕ) (s : List Cell) → 8 ≤ code → flat_of code s ≡ begun (kind_numbered (code % 4)) s
unfolding flat_of
flat-begun code s h = rw (ne_eqb code 0 (λ z. omega arith), ne_eqb code 2 (λ z. omega arith), le-ltb code 4 (omega arith), le-ltb code 8 h)

-- the item with another code
pub recoded : (x : List Cell) (ns : List ℕ) (n j code : ℕ) → j ≤ n → 2 * n + 2 + j < length ns → flat_at x (set ns (2 * n + 2 + j) code) n j ≡ flat_of code (part (bound_at ns n j) (bound_at ns n (j + 1)) x)
unfolding flat_at code_at bound_at
recoded x ns n j code h k =
    rw (get_or-set_same ns (2 * n + 2 + j) code 0 k, get_or-set_other ns (2 * n + 2 + j) (n + j) code 0 (λ z. omega arith), get_or-set_other ns (2 * n + 2 + j) (n + (j + 1)) code 0 (λ z. omega arith))

pub flat-code : (x : List Cell) (ns : List ℕ) (n j : ℕ) → flat_at x ns n j ≡ flat_of (get_or ns (2 * n + 2 + j) 0) (part (bound_at ns n j) (bound_at ns n (j + 1)) x)
unfolding flat_at code_at
flat-code x ns n j = refl

zero-kept : (s : List Cell) (r : Settled) → settle (flat_of 0 s) r ≡ record { flat = flat_of 0 s ∷ r.flat; closes = r.closes }
unfolding flat_of
zero-kept s r = refl

open_none : (k : Kind) (s : List Cell) (f : List Flat) → settled_open k s 0 f ≡ record { flat = flat_of 0 s ∷ f; closes = 0 }
unfolding flat_of
open_none k s f = refl

open-some : (k : Kind) (s : List Cell) (closes : ℕ) (f : List Flat) → (closes ≡ 0 → ⊥) → settled_open k s closes f ≡ record { flat = enter k s ∷ f; closes = closes - 1 }
open-some k s zero f z = absurd (z refl)
open-some k s (suc n) f z = rw sub-one

pub take_same : (xs ys : List ℕ) (m : ℕ) → length xs ≡ length ys → ((i : ℕ) → i < m → get_or xs i 0 ≡ get_or ys i 0) → take m xs ≡ take m ys
take_same xs ys m l h =
    let a = length-take m xs in
    let b = length-take m ys in
    ext_get_or 0 (take m xs) (take m ys) (omega arith) (λ i lt. get_or-take m xs i 0 (omega arith) ∙ h i (omega arith) ∙ sym (get_or-take m ys i 0 (omega arith)))

settle-kept : (code : ℕ) (s : List Cell) (r : Settled) → (code ≡ 2 → ⊥) → code < 8 → settle (flat_of code s) r ≡ record { flat = flat_of code s ∷ r.flat; closes = r.closes }
settle-kept code s r b h = elim (dec_le 4 code) [
  | yes p ↦ rw (flat-enter code s p h)
  | no q ↦ elim (dec_le 1 code) [ yes u ↦ rw (flat-gone code s (λ z. omega arith) b (omega arith)) | no v ↦ let z : code ≡ 0 = omega arith in rw z (zero-kept s r) ]
]

module _ (ns : List ℕ) (n j closes : ℕ) (low : j ≤ n) (room : 2 * n + 2 + j < length ns) where
  pub settled-leave : get_or ns (2 * n + 2 + j) 0 ≡ 2 → SettledItem ns ns n j closes (closes + 1)
  settled-leave e = record {
    is = λ x f. rw (flat-code x ns n j, e, flat-leave) (ap (λ (c : ℕ). record { flat = leave (part (bound_at ns n j) (bound_at ns n (j + 1)) x) ∷ f; closes = c }) (sym (add-one closes)));
    others = λ i h. refl;
    few = omega arith;
  }

  pub settled-kept : (get_or ns (2 * n + 2 + j) 0 ≡ 2 → ⊥) → get_or ns (2 * n + 2 + j) 0 < 8 → SettledItem ns ns n j closes closes
  settled-kept a h = record {
    is = λ x f. rw (flat-code x ns n j) (settle-kept (get_or ns (2 * n + 2 + j) 0) _ (record { flat = f; closes = closes }) a h);
    others = λ i h. refl;
    few = omega arith;
  }

  pub settled-text : 8 ≤ get_or ns (2 * n + 2 + j) 0 → closes ≡ 0 → SettledItem ns (set ns (2 * n + 2 + j) 0) n j closes 0
  settled-text h z = record {
    is = λ x f. rw (recoded x ns n j 0 low room, flat-code x ns n j, flat-begun (get_or ns (2 * n + 2 + j) 0) (part (bound_at ns n j) (bound_at ns n (j + 1)) x) h, z) (open_none (kind_numbered (get_or ns (2 * n + 2 + j) 0 % 4)) (part (bound_at ns n j) (bound_at ns n (j + 1)) x) f);
    others = λ i q. get_or-set_other ns (2 * n + 2 + j) i 0 0 q;
    few = omega arith;
  }

  pub settled-mark : 8 ≤ get_or ns (2 * n + 2 + j) 0 → (closes ≡ 0 → ⊥) → SettledItem ns (set ns (2 * n + 2 + j) (get_or ns (2 * n + 2 + j) 0 % 4 + 4)) n j closes (closes - 1)
  settled-mark h z =
      let c = get_or ns (2 * n + 2 + j) 0 in
      let m : (c % 4 + 4) % 4 ≡ c % 4 = omega arith in
      record {
        is = λ x f. rw (
          recoded x ns n j (c % 4 + 4) low room,
          flat-code x ns n j,
          flat-begun c (part (bound_at ns n j) (bound_at ns n (j + 1)) x) h,
          flat-enter (c % 4 + 4) (part (bound_at ns n j) (bound_at ns n (j + 1)) x) (omega arith) (omega arith),
          m,
        ) (open-some _ _ closes f z);
        others = λ i q. get_or-set_other ns (2 * n + 2 + j) i (c % 4 + 4) 0 q;
        few = omega arith;
      }

-- ---- the loop: the items from j on are settled, those before it are as they were

pub record Settling (ns₀ ns : List ℕ) (n k j closes : ℕ) : Type 0 where
  pub up_to : j ≤ k
  pub few : closes + j ≤ k
  pub behind : (x : List Cell) → settled (flats (flat_at x ns₀ n) (k - j) j) ≡ record { flat = flats (flat_at x ns n) (k - j) j; closes = closes }
  pub before : (i : ℕ) → i < 2 * n + 2 + j → get_or ns i 0 ≡ get_or ns₀ i 0

pub settling-start : (ns : List ℕ) (n k : ℕ) → Settling ns ns n k k 0
unfolding flats settled
settling-start ns n k = let z : k - k ≡ 0 = omega arith in record { up_to = omega arith; few = omega arith; behind = λ x. rw z; before = λ i h. refl }

pub flat_at-by : (x : List Cell) (ns ns' : List ℕ) (n j : ℕ) → get_or ns' (2 * n + 2 + j) 0 ≡ get_or ns (2 * n + 2 + j) 0 → get_or ns' (n + j) 0 ≡ get_or ns (n + j) 0 → get_or ns' (n + (j + 1)) 0 ≡ get_or ns (n + (j + 1)) 0 → flat_at x ns' n j ≡ flat_at x ns n j
unfolding flat_at code_at bound_at
flat_at-by x ns ns' n j a b e = rw (a, b, e)

module _ (ns₀ ns ns' : List ℕ) (n k j closes closes' : ℕ) (h : 0 < j) (room : k ≤ n + 1) (m : Settling ns₀ ns n k j closes) (s : SettledItem ns ns' n (j - 1) closes closes') where
  kept : (x : List Cell) → flats (flat_at x ns n) (k - j) j ≡ flats (flat_at x ns' n) (k - j) j
  kept x = let u = m.up_to in flats-same (flat_at x ns n) (flat_at x ns' n) (k - j) j (λ i a b. sym (flat_at-by x ns ns' n i (s.others (2 * n + 2 + i) (λ z. omega arith)) (s.others (n + i) (λ z. omega arith)) (s.others (n + (i + 1)) (λ z. omega arith))))

  first : (x : List Cell) → flat_at x ns₀ n (j - 1) ≡ flat_at x ns n (j - 1)
  first x = sym (flat_at-by x ns₀ ns n (j - 1) (m.before (2 * n + 2 + (j - 1)) (omega arith)) (m.before (n + (j - 1)) (let u = m.up_to in omega arith)) (m.before (n + (j - 1 + 1)) (let u = m.up_to in omega arith)))

  pub settling-turn : Settling ns₀ ns' n k (j - 1) closes'
  unfolding flats settled
  settling-turn =
      let u = m.up_to in
      let f = m.few in
      let g = s.few in
      let z : k - (j - 1) ≡ suc (k - j) = omega arith in
      let y : j - 1 + 1 ≡ j = omega arith in
      record {
        up_to = omega arith;
        few = omega arith;
        behind = λ x. rw (z, y, first x, m.behind x, s.is x (flats (flat_at x ns n) (k - j) j), kept x);
        before = λ i q. s.others i (λ w. omega arith) ∙ m.before i (omega arith);
      }

pub settling-end : (ns₀ ns : List ℕ) (n k closes : ℕ) (j : ℕ) → j ≤ 0 → length ns ≡ length ns₀ → Settling ns₀ ns n k j closes → Recodes (λ f. (settled f).flat) n k ns₀ ns
settling-end ns₀ ns n k closes j h l m =
    let z : j ≡ 0 = omega arith in
    let y : k - j ≡ k = omega arith in
    record {
      items = λ x. (let b : settled (flats (flat_at x ns₀ n) k 0) ≡ record { flat = flats (flat_at x ns n) k 0; closes = closes } = rw (y, z) at (m.behind x) in sym (ap (λ (r : Settled). r.flat) b));
      source = take_same ns ns₀ (2 * n + 2) l (λ i lt. m.before i (omega arith));
    }
