-- What the functions that write slots and marks are asked follows from what they know. Assumes nothing.
use mathlib.Core.Path.{◌≡◌, ap, ◌∙◌, subst}
use mathlib.Core.List.{List, []}
use mathlib.Core.Bool.{Bool, true, false, cond}
use Prim.Native.Nat.{ℕ, suc, ◌+◌, ◌-◌, ◌*◌, ◌%◌, ◌≤◌, ◌<◌}
use native.Mathlib.Omega.{arith}
use lib.Bits.{bit_or}
use lib.Count.{ones}
use lib.ListN.{length, get_or}
use Rattle.mark_tags.specs.Marks.{mark}
use Rattle.mark_tags.specs.Flat.{within, beyond, slot_at, Fresh, kind_numbered, kinds_of, bit_of, Held, Ready}
use Rattle.mark_pieces.specs.Spans.{marks_in, Slot, MarkReady}
use Rattle.mark_tags.proofs.Depth.{count, count-le, count_add, fresh-depth}
use Rattle.mark_items.proofs.Masks.{Fits, fits, ones-count}
use Rattle.mark_writing.proofs.Slotting.{at_mark, around-within}

pub ones-few : (mask : ℕ) → mask < 16 → ones mask ≤ 4
ones-few mask h = let a = ones-count mask h in let b = count-le (kinds_of mask) in omega arith

pub fresh-ready : (src ns : List ℕ) (k j mask : ℕ) → Held src ns k → j ≤ k → mask < 16 → Fresh (kinds_of mask) (within (slot_at src ns k j)) → Ready src ns k j (4 - ones mask)
fresh-ready src ns k j mask t h s f =
    let a = ones-count mask s in
    let b = fresh-depth (kinds_of mask) (within (slot_at src ns k j)) f in
    record { table = t; up_to = h; deep = omega arith }

module _ {src ns : List ℕ} {k i mask before : ℕ} {out org : List ℕ} {c : ℕ} (m : MarkReady src ns k i mask before out org c) where
  marking : within (slot_at src ns k i) ≡ mark (kind_numbered (get_or ns (2 * length src + 2 + i) 0 % 4)) [] (within (slot_at src ns k (i + 1))) (within (beyond (slot_at src ns k (i + 1))))
  marking = ap within (at_mark src ns k i m.inside m.mark) ∙ around-within (kind_numbered (get_or ns (2 * length src + 2 + i) 0 % 4)) (slot_at src ns k (i + 1))

  fresh-mark : Fresh (kinds_of mask) (mark (kind_numbered (get_or ns (2 * length src + 2 + i) 0 % 4)) [] (within (slot_at src ns k (i + 1))) (within (beyond (slot_at src ns k (i + 1)))))
  fresh-mark = subst (Fresh (kinds_of mask)) marking m.slot.fresh

  marks-mark : marks_in (within (slot_at src ns k i)) ≡ suc (marks_in (within (slot_at src ns k (i + 1))) + marks_in (within (beyond (slot_at src ns k (i + 1)))))
  unfolding marks_in
  marks-mark = ap marks_in marking

  fit : Fits mask (get_or ns (2 * length src + 2 + i) 0 % 4)
  fit = fits mask (get_or ns (2 * length src + 2 + i) 0 % 4) m.slot.small (omega arith)

  pub mark-slot : (bit : ℕ) (out' org' : List ℕ) → bit ≡ bit_of (get_or ns (2 * length src + 2 + i) 0 % 4) → length out' ≡ length out → length org' ≡ length org → Slot src ns k (i + 1) (bit_or mask bit) out' org' (c + 2)
  mark-slot bit out' org' e lo lg =
      let y = marks-mark in
      let r = m.slot.few in
      let q = m.inside in
      let sh = m.slot.short in
      let wd = m.slot.wide in
      record {
        table = m.slot.table;
        up_to = omega arith;
        small = rw e fit.small;
        fresh = rw (e, fit.opens) fresh-mark.1;
        short = omega arith;
        wide = omega arith;
        few = omega arith;
      }

  pub mark-falls : (bit : ℕ) → bit ≡ bit_of (get_or ns (2 * length src + 2 + i) 0 % 4) → (ones (bit_or mask bit) ≡ suc (ones mask)) × (ones (bit_or mask bit) ≤ 4)
  mark-falls bit e =
      let a = ones-count mask m.slot.small in
      let b : ones (bit_or mask bit) ≡ count (kinds_of (bit_or mask bit)) = ones-count (bit_or mask bit) (rw e fit.small) in
      let o : count (kinds_of (bit_or mask bit)) ≡ suc (count (kinds_of mask)) = rw (e, fit.opens) (count_add (kind_numbered (get_or ns (2 * length src + 2 + i) 0 % 4)) (kinds_of mask) fresh-mark.0) in
      let l = count-le (kinds_of (bit_or mask bit)) in
      (omega arith, omega arith)

  pub behind-ready : (item : ℕ) → item ≤ k → slot_at src ns k item ≡ beyond (slot_at src ns k (i + 1)) → Ready src ns k item (4 - ones mask)
  behind-ready item h e = fresh-ready src ns k item mask m.slot.table h m.slot.small (rw e fresh-mark.2)

last-by : (b : Bool) (d : ℕ) → d < 256 → cond b 125 d ≤ 256
last-by true d h = omega arith
last-by false d h = omega arith

pub last-small : (b : Bool) (d s : ℕ) → d < 256 → s ≡ cond b 125 d → s ≤ 256
last-small b d s h e = let z = last-by b d h in omega arith
