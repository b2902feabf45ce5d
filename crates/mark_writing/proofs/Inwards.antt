-- Laws of writing into a writer's area, where the text and its items stand behind it. Assumes nothing.
use mathlib.Core.Path.{◌≡◌, refl, sym, ap, ◌∙◌, subst}
use mathlib.Core.List.{List}
use mathlib.Core.Bool.{Bool, false}
use Prim.Native.Nat.{ℕ, ◌+◌, ◌-◌, ◌*◌, ◌≤◌, ◌<◌}
use native.Mathlib.Omega.{arith}
use lib.ListN.{length, take, drop, get_or, length-drop}
use lib.Seq.{take_all, take-take, drop-drop, length-take-le}
use Rattle.text.specs.Cells.{Cell, cells, part}
use Rattle.text.specs.Writes.{Appends}
use Rattle.text.specs.Writers.{Wrote}
use Rattle.text.specs.declared.writer.Writer.{Writer}
use Rattle.text.proofs.Areas.{drop-take}
use Rattle.text.proofs.Sources.{cells-taken, cells-dropped}
use Rattle.mark_tags.specs.Marks.{Items, Next, text, next, piece_text, last_or, absent}
use Rattle.mark_tags.specs.Flat.{bound_at, within, depth_of, slot_at, Held, Ready}
use Rattle.mark_pieces.specs.Spans.{Slot, SlotWritten, MarkReady, MarkWritten}
use Rattle.mark_pieces.specs.Behind.{area, Kept}
use Rattle.mark_pieces.proofs.Areal.{area-size, area-wide, wrote-kept, wrote-area}
use Rattle.mark_writing.specs.Laid.{source, table, Lies, TableIn, HeldIn}
use Rattle.mark_writing.specs.Looked.{Skips, skips-gone, skips-nothing, skips-empty, Piece, Looked}
use Rattle.mark_writing.specs.OneText.{OneText}
use Rattle.mark_writing.specs.declared.look.Seen.{Seen}
use Rattle.mark_writing.specs.declared.slot.Layout.{Layout}
use Rattle.mark_writing.proofs.OneTextLaws.{in_source, text-written}
use Rattle.mark_writing.proofs.Slotting.{spelled, bounds, at-text, front-within}
use Rattle.mark_writing.proofs.SlotWriting.{Drawing, drawn-gone, drawn-nothing, drawn-text, drawn-empty}
use Rattle.mark_writing.proofs.MarkWriting.{last-piece, cells-kept}

-- ---- what stands behind the area

later : (end base : ℕ) (xs xs' : List ℕ) → end ≤ base → drop end xs' ≡ drop end xs → drop base xs' ≡ drop base xs
later end base xs xs' h e =
    let y : end + (base - end) ≡ base = omega arith in
    ap (λ (j : ℕ). drop j xs') (sym y) ∙ sym (drop-drop (base - end) end xs') ∙ ap (drop (base - end)) e ∙ drop-drop (base - end) end xs ∙ ap (λ (j : ℕ). drop j xs) y

module _ {w w' : Writer} (x : Layout) (h : w.end ≤ x.base.0) (p : Kept w w') where
  pub same_source : source x w'.bytes.now ≡ source x w.bytes.now
  same_source = ap (take (x.base.0 + x.size - x.base.0)) (later w.end x.base.0 w.bytes.now w'.bytes.now h p.behind.bytes)

  pub same-table : table x w'.numbers.now ≡ table x w.numbers.now
  same-table = later w.end x.base.0 w.numbers.now w'.numbers.now h p.behind.numbers

-- the area stays as long
module _ {w w' : Writer} (p : Kept w w') where
  pub bytes_same : length (take w'.end w'.bytes.now) ≡ length (take w.end w.bytes.now)
  bytes_same = area-size w' ∙ p.same.end ∙ sym (area-size w)

  pub numbers_same : length (take w'.end w'.numbers.now) ≡ length (take w.end w.numbers.now)
  numbers_same = length-take-le w'.end w'.numbers.now w'.numbers_reach ∙ p.same.end ∙ sym (length-take-le w.end w.numbers.now w.numbers_reach)

  pub area_same : length (area w') ≡ length (area w)
  area_same = cells-kept (take w.end w.bytes.now) (take w.end w.numbers.now) (take w'.end w'.bytes.now) (take w'.end w'.numbers.now) bytes_same numbers_same (area-wide w)

-- ---- the text and its items

pub source-size : (x : Layout) (w : Writer) → Lies x w → length (source x w.bytes.now) ≡ x.size
source-size x w l =
    let i = l.inside in
    let d = length-drop x.base.0 w.bytes.now in
    let z : x.base.0 + x.size - x.base.0 ≡ x.size = omega arith in
    length-take-le (x.base.0 + x.size - x.base.0) (drop x.base.0 w.bytes.now) (omega (arith, d, i)) ∙ z

-- where nothing behind the area has changed
pub lies-on : {x : Layout} {w w' : Writer} → Lies x w → Kept w w' → Lies x w'
lies-on {x} l p =
    let b = l.behind in
    let i = l.inside in
    let s = p.same.bytes-size in
    let e = p.same.end in
    record { behind = omega (arith, b, e); inside = omega (arith, i, s); near = l.near }

pub table-in : (x : Layout) (w : Writer) → HeldIn x w → TableIn x w.numbers.now
table-in x w t =
    let n = source-size x w t.1 in
    let d = length-drop x.base.0 w.numbers.now in
    let s = t.0.small in
    let r = t.0.room in
    let f = t.0.few in
    record { small = omega (arith, n, s); room = omega (arith, n, d, r); few = omega (arith, n, f) }

-- the cells of a part of the text
pub source-part : (x : Layout) (bs ns : List ℕ) (a e : ℕ) → e ≤ x.size → part (x.base.0 + a) (x.base.0 + e) (cells bs ns) ≡ part a e (cells (source x bs) (table x ns))
unfolding part
source-part x bs ns a e h =
    let base : ℕ = x.base.0 in
    let n : ℕ = base + x.size - base in
    let u : base + e - (base + a) ≡ e - a = omega arith in
    let v : List Cell = cells bs ns in
    let k : e ≤ n = omega arith in
    let y : take e (cells (source x bs) (table x ns)) ≡ take e (drop base v) =
    sym (cells-taken e (source x bs) (table x ns)) ∙ ap (λ (l : List ℕ). cells l (take e (table x ns))) (take-take e n (drop base bs) k)
    ∙ cells-taken e (drop base bs) (drop base ns) ∙ ap (take e) (cells-dropped base bs ns) in
    drop-take (base + a) (base + e) v ∙ ap (λ (j : ℕ). take j (drop (base + a) v)) u ∙ ap (take (e - a)) (sym (drop-drop a base v)) ∙ sym (drop-take a e (drop base v))
    ∙ ap (drop a) (sym y)

pub piece-area : {w w' : Writer} (x : Layout) (g m : Bool) (a e a' e' : ℕ) (src tbl : List ℕ) → source x w.bytes.now ≡ src → table x w.numbers.now ≡ tbl → a' ≡ x.base.0 + a → e' ≡ x.base.0 + e → e ≤ x.size
    → Wrote w w' (piece_text g m (part a' e' (cells w.bytes.now w.numbers.now))) → Appends (area w) w.at.0 (area w') w'.at.0 (piece_text g m (part a e (cells src tbl)))
piece-area {w} {w'} x g m a e a' e' src tbl zs zt ea ee h p =
    let bs : List ℕ = w.bytes.now in
    let ns : List ℕ = w.numbers.now in
    let z : part a' e' (cells bs ns) ≡ part a e (cells src tbl) =
    ap (λ (j : ℕ). part j e' (cells bs ns)) ea ∙ ap (λ (j : ℕ). part (x.base.0 + a) j (cells bs ns)) ee ∙ source-part x bs ns a e h
    ∙ ap (λ (l : List ℕ). part a e (cells l (table x ns))) zs ∙ ap (λ (l : List ℕ). part a e (cells src l)) zt in
    subst (λ (l : List Cell). Appends (area w) w.at.0 (area w') w'.at.0 (piece_text g m l)) z (wrote-area p)

-- ---- the same of equal texts and items

pub tail-is : (ns : List ℕ) (base : ℕ) → take (length ns - base) (drop base ns) ≡ drop base ns
tail-is ns base = let d = length-drop base ns in take_all (length ns - base) (drop base ns) (omega (arith, d))

both : {src src' ns ns' : List ℕ} (P : List ℕ → List ℕ → Type 0) → src ≡ src' → ns ≡ ns' → P src ns → P src' ns'
both {src} {src'} {ns} {ns'} P e f p = subst (λ (l : List ℕ). P l ns') e (subst (λ (l : List ℕ). P src l) f p)

pub code-as : {src src' ns ns' : List ℕ} (i : ℕ) → src ≡ src' → ns ≡ ns' → get_or ns (2 * length src + 2 + i) 0 ≡ get_or ns' (2 * length src' + 2 + i) 0
code-as {src} {src'} {ns} {ns'} i e f = both (λ s n. get_or ns (2 * length src + 2 + i) 0 ≡ get_or n (2 * length s + 2 + i) 0) e f refl

-- and of as many items
three : {src src' ns ns' : List ℕ} {k k' : ℕ} (P : List ℕ → List ℕ → ℕ → Type 0) → src ≡ src' → ns ≡ ns' → k ≡ k' → P src ns k → P src' ns' k'
three {src} {src'} {ns} {ns'} {k} {k'} P e f g p = subst (P src' ns') g (both (λ s n. P s n k) e f p)

pub next-as : {src src' ns ns' : List ℕ} {k k' : ℕ} {n : Next} (i : ℕ) → src ≡ src' → ns ≡ ns' → k ≡ k' → n ≡ next (within (slot_at src ns k i)) → n ≡ next (within (slot_at src' ns' k' i))
next-as {n = n} i e f g p = three (λ s t l. n ≡ next (within (slot_at s t l i))) e f g p

pub looked-as : {src src' ns ns' : List ℕ} {k k' : ℕ} (i : ℕ) (x : Seen) → src ≡ src' → ns ≡ ns' → k ≡ k' → Looked src ns k i x → Looked src' ns' k' i x
looked-as i x e f g p = three (λ s n l. Looked s n l i x) e f g p

pub ready-as : {src src' ns ns' : List ℕ} {k k' : ℕ} {i depth : ℕ} → src ≡ src' → ns ≡ ns' → k ≡ k' → Ready src ns k i depth → Ready src' ns' k' i depth
ready-as {i = i} {depth = depth} e f g p = three (λ s n l. Ready s n l i depth) e f g p

pub one-text-as : {src src' ns ns' : List ℕ} {k k' from : ℕ} → src ≡ src' → ns ≡ ns' → k ≡ k' → OneText src ns k from → OneText src' ns' k' from
one-text-as {from = from} e f g p = three (λ s n l. OneText s n l from) e f g p

module _ {src src' ns ns' : List ℕ} {k : ℕ} (e : src ≡ src') (f : ns ≡ ns') where
  pub held-as : Held src ns k → Held src' ns' k
  held-as p = both (λ s n. Held s n k) e f p

  pub slot-as : {from mask : ℕ} {out org : List ℕ} {c : ℕ} → Slot src ns k from mask out org c → Slot src' ns' k from mask out org c
  slot-as {from} {mask} {out} {org} {c} p = both (λ s n. Slot s n k from mask out org c) e f p

  pub mark-ready-as : {i mask before : ℕ} {out org : List ℕ} {c : ℕ} → MarkReady src ns k i mask before out org c → MarkReady src' ns' k i mask before out org c
  mark-ready-as {i} {mask} {before} {out} {org} {c} p = both (λ s n. MarkReady s n k i mask before out org c) e f p

  pub slot-written-as : {from : ℕ} {v : List Cell} {at : ℕ} {ss : List ℕ} {c : ℕ} {v' : List Cell} {at' : ℕ} {ss' : List ℕ} {c' item : ℕ} → SlotWritten src ns k from v at ss c v' at' ss' c' item → SlotWritten src' ns' k from v at ss c v' at' ss' c' item
  slot-written-as {from} {v} {at} {ss} {c} {v'} {at'} {ss'} {c'} {item} p = both (λ s n. SlotWritten s n k from v at ss c v' at' ss' c' item) e f p

  pub mark-written-as : {i before : ℕ} {v : List Cell} {at : ℕ} {ss : List ℕ} {c : ℕ} {v' : List Cell} {at' : ℕ} {ss' : List ℕ} {c' item before' : ℕ} {guarded' : Bool}
      → MarkWritten src ns k i before v at ss c v' at' ss' c' item before' guarded' → MarkWritten src' ns' k i before v at ss c v' at' ss' c' item before' guarded'
  mark-written-as {i} {before} {v} {at} {ss} {c} {v'} {at'} {ss'} {c'} {item} {before'} {guarded'} p = both (λ s n. MarkWritten s n k i before v at ss c v' at' ss' c' item before' guarded') e f p

-- ---- an item by what was seen of it

pub text-ready : {src ns : List ℕ} {k i depth : ℕ} → Ready src ns k i depth → i < k → get_or ns (2 * length src + 2 + i) 0 ≡ 0 → Ready src ns k (i + 1) depth
unfolding depth_of
text-ready {src} {ns} {k} {i} {depth} r h e =
    let z = ap within (at-text src ns k i h e) ∙ front-within (text (spelled src ns k i h)) (slot_at src ns k (i + 1)) in
    let d : depth_of (text (spelled src ns k i h) (within (slot_at src ns k (i + 1)))) ≤ depth = subst (λ (x : Items). depth_of x ≤ depth) z r.deep in
    record { table = r.table; up_to = omega arith; deep = d }

pub piece_inside : {src ns : List ℕ} {k i a e : ℕ} {touches : Bool} {last : ℕ} → Held src ns k → i < k → Piece src ns k i a e touches last → e ≤ length src
unfolding bound_at
piece_inside {src} {ns} {k} {i} t h p = let b = (bounds src ns k i t h).1 in let z = p.behind in omega arith

module _ (src ns : List ℕ) (k from mask : ℕ) (v₀ : List Cell) (at₀ : ℕ) (ss₀ : List ℕ) (c₀ : ℕ) (v : List Cell) (to : ℕ) (ss : List ℕ) (c i before : ℕ) (guarded : Bool)
    (m : Drawing src ns k from mask v₀ at₀ ss₀ c₀ v to ss c i before guarded) (q : i < k) (t : Held src ns k) where
  pub drawn-skip : (j : ℕ) → Skips src ns k i j → Drawing src ns k from mask v₀ at₀ ss₀ c₀ v to ss c j before guarded
  unfolding bound_at
  drawn-skip j (skips-gone a b l e) = subst (λ (x : ℕ). Drawing src ns k from mask v₀ at₀ ss₀ c₀ v to ss c x before guarded) (sym e) (drawn-gone src ns k from mask v₀ at₀ ss₀ c₀ v to ss c i before guarded m q a b l)
  drawn-skip j (skips-nothing z l e) = subst (λ (x : ℕ). Drawing src ns k from mask v₀ at₀ ss₀ c₀ v to ss c x before guarded) (sym e) (drawn-nothing src ns k from mask v₀ at₀ ss₀ c₀ v to ss c i before guarded m q t z l)
  drawn-skip j (skips-empty f e) = drawn-empty src ns k from mask v₀ at₀ ss₀ c₀ v to ss c i before guarded m q f j e

  pub drawn-piece : {v' : List Cell} {to' a e : ℕ} {touches : Bool} {last : ℕ} → Piece src ns k i a e touches last → length v' ≡ length v → length v ≡ length v₀
      → Appends v to v' to' (piece_text guarded touches (part a e (cells src ns))) → Drawing src ns k from mask v₀ at₀ ss₀ c₀ v' to' ss c (i + 1) last false
  unfolding bound_at
  drawn-piece {v'} {to'} {a} {e} {touches} {last} p lv lv₀ ap' =
      let rm = t.room in
      let h = piece_inside t q p in
      let w : part a e (cells src ns) ≡ spelled src ns k i q = ap (λ (x : ℕ). part x e (cells src ns)) p.first ∙ ap (λ (y : ℕ). part (get_or ns (length src + i) 0) y (cells src ns)) p.behind in
      drawn-text src ns k from mask v₀ at₀ ss₀ c₀ v to ss c i before guarded m q t p.code v' to' touches last lv lv₀ (omega (arith, p.first, p.behind, p.some)) p.touch
      (subst (λ (x : List Cell). Appends v to v' to' (piece_text guarded touches x)) w ap') (p.is ∙ last-piece src ns a e p.some h (omega arith) ∙ ap (last_or absent) w) p.small

-- ---- a slot that is one text

-- where it stands in the text
pub text-places : {a e : ℕ} (x : Layout) (w : Writer) (from : ℕ) → HeldIn x w → OneText (source x w.bytes.now) (table x w.numbers.now) x.items from
    → a ≡ get_or (table x w.numbers.now) (x.size + from) 0 → e ≡ get_or (table x w.numbers.now) (x.size + (from + 1)) 0 → (a ≤ e) × (e ≤ x.size)
text-places x w from t o f g =
    let n = source-size x w t.1 in
    let q = in_source (source x w.bytes.now) (table x w.numbers.now) x.items from t.0 o in
    let f' = f ∙ ap (λ (j : ℕ). get_or (table x w.numbers.now) (j + from) 0) (sym n) in
    let g' = g ∙ ap (λ (j : ℕ). get_or (table x w.numbers.now) (j + (from + 1)) 0) (sym n) in
    (omega (arith, q.0, f', g'), omega (arith, q.1.0, g', n))

pub text_in : {w w' : Writer} (x : Layout) (from a e a' e' c : ℕ) → HeldIn x w → OneText (source x w.bytes.now) (table x w.numbers.now) x.items from
    → a ≡ get_or (table x w.numbers.now) (x.size + from) 0 → e ≡ get_or (table x w.numbers.now) (x.size + (from + 1)) 0 → a' ≡ x.base.0 + a → e' ≡ x.base.0 + e → Wrote w w' (part a' e' (cells w.bytes.now w.numbers.now))
    → ((ss : List ℕ) → SlotWritten (source x w.bytes.now) (table x w.numbers.now) x.items from (area w) w.at.0 ss c (area w') w'.at.0 ss c (from + 2)) × Kept w w'
text_in {w} {w'} x from a e a' e' c t o f g ea ee p =
    let bs : List ℕ = w.bytes.now in
    let ns : List ℕ = w.numbers.now in
    let n = source-size x w t.1 in
    let src : List ℕ = source x bs in
    let tbl : List ℕ = table x ns in
    let f' : a ≡ get_or tbl (length src + from) 0 = f ∙ ap (λ (j : ℕ). get_or tbl (j + from) 0) (sym n) in
    let g' : e ≡ get_or tbl (length src + (from + 1)) 0 = g ∙ ap (λ (j : ℕ). get_or tbl (j + (from + 1)) 0) (sym n) in
    let q = (in_source src tbl x.items from t.0 o).1.0 in
    let z : part a' e' (cells bs ns) ≡ part (get_or tbl (length src + from) 0) (get_or tbl (length src + (from + 1)) 0) (cells src tbl) =
    ap (λ (j : ℕ). part j e' (cells bs ns)) ea ∙ ap (λ (j : ℕ). part (x.base.0 + a) j (cells bs ns)) ee ∙ source-part x bs ns a e (omega (arith, q, g', n))
    ∙ ap (λ (y : ℕ). part y e (cells src tbl)) f' ∙ ap (λ (y : ℕ). part (get_or tbl (length src + from) 0) y (cells src tbl)) g' in (
      λ ss. text-written src tbl x.items from t.0 o ss c (subst (λ (y : List Cell). Appends (area w) w.at.0 (area w') w'.at.0 y) z (wrote-area p)),
      wrote-kept p,
    )
