-- Laws of a list's block: line feeds held back, and the parts of a table. Assumes nothing.
use mathlib.Core.Path.{◌≡◌, refl, sym, ap, ◌∙◌}
use mathlib.Core.Bool.{Bool, false, cond, true≢false}
use mathlib.Core.List.{List, [], ◌∷◌, ◌++◌, map, append-nil, append_assoc}
use Prim.Native.Nat.{ℕ, zero, suc, ◌+◌, ◌≤◌, ◌<◌}
use native.Mathlib.Numerals.{add-one}
use native.Mathlib.Omega.{arith}
use lib.ListN.{length, take, get_or, replicate, drop_of_length-le, length-take}
use lib.Seq.{slice-cons}
use Rattle.text.specs.Ascii.{is_empty}
use Rattle.text.specs.Cells.{Cell, cells, part, feed}
use Rattle.text.specs.Lines.{trim_start, trim_onto, trim_end, trim, lines, followed, joined}
use Rattle.text.proofs.Writing.{part_end, part-cons}
use Rattle.list_blocks.specs.Blocks.{space, trim_item, later_line, indented, marked, item_text, item_texts, lead_onto, block, trimmed, between, head_or, parts_in, Rises, held_back}
use Rattle.list_blocks.proofs.ItemLaws as I
use Rattle.list_blocks.proofs.ItemLaws.{Solid, Good, Ended, nothing, something, ended, solid-some, solid-append, good, lines-item, trim_item-lines, solid-joined}

-- ---- ends

-- behind a text that ends in a cell that is not blank, only what follows is trimmed
solid-end : {x : List Cell} → Solid x → (y : List Cell) → trim_end (x ++ y) ≡ x ++ trim_end y
unfolding trim_end
solid-end (I.one c e) y = by (trim_end y)
  where
    by : (z : List Cell) → trim_onto c z ≡ c ∷ z
    by [] = ap (λ (t : Bool). cond t [] (c ∷ [])) e
    by (d ∷ z) = refl
solid-end (I.more c d x s) y = ap (trim_onto c) (solid-end s y)

-- what is trimmed behind a text may be trimmed first
end_by : (x y z : List Cell) → trim_end y ≡ trim_end z → trim_end (x ++ y) ≡ trim_end (x ++ z)
unfolding trim_end
end_by [] y z e = e
end_by (c ∷ x) y z e = ap (trim_onto c) (end_by x y z e)

-- ---- line feeds held back

followed-end : (ts : List (List Cell)) → trim_end (followed ts) ≡ trim_end (feed ∷ joined ts)
unfolding followed joined trim_end
followed-end [] = refl
followed-end (t ∷ ts) = refl

feeds-snoc : (n : ℕ) (x : List Cell) → replicate n feed ++ feed ∷ x ≡ replicate (n + 1) feed ++ x
feeds-snoc n x = rw (add-one n) (by n)
  where
    by : (n : ℕ) → replicate n feed ++ feed ∷ x ≡ replicate (suc n) feed ++ x
    by zero = refl
    by (suc n) = ap (λ (l : List Cell). feed ∷ l) (by n)

held-empty : (n : ℕ) (ts : List (List Cell)) → held_back n ([] ∷ ts) ≡ held_back (n + 1) ts
unfolding held_back joined
held-empty n ts = end_by (replicate n feed) (followed ts) (feed ∷ joined ts) (followed-end ts) ∙ ap trim_end (feeds-snoc n (joined ts))

held-item : (n : ℕ) (t : List Cell) (ts : List (List Cell)) → Solid t → held_back n (t ∷ ts) ≡ (replicate n feed ++ t) ++ held_back 1 ts
unfolding held_back joined
held-item n t ts s =
    ap trim_end (sym (append_assoc (replicate n feed) t (followed ts))) ∙ solid-end (solid-append (replicate n feed) s) (followed ts)
    ∙ ap (λ (l : List Cell). (replicate n feed ++ t) ++ l) (followed-end ts)

blanks-end : (n : ℕ) → trim_end (replicate n feed) ≡ []
unfolding trim_end
blanks-end zero = refl
blanks-end (suc n) = ap (trim_onto feed) (blanks-end n)

pub held-done : (n : ℕ) → held_back n [] ≡ []
unfolding held_back joined
held-done n = ap trim_end (append-nil (replicate n feed)) ∙ blanks-end n

-- ---- an item that is not empty ends in a cell that is not blank

later-solid : (width : ℕ) (l : List Cell) → Solid l → Solid (later_line width l)
later-solid width [] s = absurd (true≢false (solid-some s))
later-solid width (c ∷ l) s = solid-append (replicate width space) s

followed-solid : (width : ℕ) (ls : List (List Cell)) → Good ls → Solid (followed (map (later_line width) ls))
unfolding followed
followed-solid width _ (I.last l p s) = rw append-nil (solid-append (feed ∷ []) (later-solid width l s))
followed-solid width _ (I.next l ls p g) = solid-append (feed ∷ []) (solid-append (later_line width l) (followed-solid width ls g))

indented-solid : (width : ℕ) (ls : List (List Cell)) → Good ls → Solid (joined (indented width ls))
unfolding joined followed
indented-solid width _ (I.last l p s) = rw append-nil s
indented-solid width _ (I.next l ls p g) = solid-append l (followed-solid width ls g)

marked-solid : (mark : List Cell) (ls : List (List Cell)) → Good ls → Solid (marked mark ls)
marked-solid mark _ (I.last l p s) = solid-append mark (indented-solid (length mark) (l ∷ []) (I.last l p s))
marked-solid mark _ (I.next l ls p g) = solid-append mark (indented-solid (length mark) (l ∷ ls) (I.next l ls p g))

-- ---- the trimmed part of a text

trim-solid : (x : List Cell) → is_empty (trim x) ≡ false → Solid (trim x)
unfolding trim
trim-solid x e = by (ended (trim_start x))
  where
    by : Ended (trim_start x) → Solid (trim_end (trim_start x))
    by (nothing q) = absurd (true≢false (ap (λ (l : List Cell). is_empty l) (sym q) ∙ e))
    by (something s) = s

pub trim-part : (w : List Cell) (a e i j : ℕ) → part i e w ≡ trim_start (part a e w) → part i j w ≡ trim_end (part i e w) → part i j w ≡ trim (part a e w)
unfolding trim
trim-part w a e i j p q = q ∙ ap trim_end p

-- an item's text before others
pub blocked-empty : (mark x : List Cell) (held i j : ℕ) (w : List Cell) → part i j w ≡ trim x → j ≤ i → (ts : List (List Cell)) → held_back held (item_text mark x ∷ ts) ≡ held_back (held + 1) ts
unfolding item_text trimmed lines
blocked-empty mark x held i j w q e ts =
    let n : trim x ≡ [] = sym q ∙ part_end i j w e in
    let t : marked mark (lines (trim_item x)) ≡ [] = rw (lines-item x, n) in
    rw t (held-empty held ts)

pub blocked-item : (mark x : List Cell) (held i j : ℕ) (bs ns : List ℕ) → part i j (cells bs ns) ≡ trim x → i < j → j ≤ length bs → j ≤ length ns
    → (ts : List (List Cell)) → held_back held (item_text mark x ∷ ts) ≡ (replicate held feed ++ marked mark (trimmed (part i j (cells bs ns)))) ++ held_back 1 ts
unfolding item_text
blocked-item mark x held i j bs ns q lt hb hn ts =
    let some : is_empty (trim x) ≡ false = rw (← q, part-cons bs ns i j lt hb hn) in
    let t : marked mark (lines (trim_item x)) ≡ marked mark (trimmed (part i j (cells bs ns))) = rw (lines-item x, q) in
    rw (← t) (held-item held (marked mark (lines (trim_item x))) ts (rw (lines-item x) (marked-solid mark (trimmed (trim x)) (good (trim-solid x some)))))

-- ---- the parts of a table

pub between_cons : (k last : ℕ) (ns : List ℕ) → k < last → last ≤ length ns → between k last ns ≡ get_or ns k 0 ∷ between (k + 1) last ns
unfolding between
between_cons k last ns lt h = slice-cons k last ns 0 lt h ∙ rw (add-one k)

pub between-end : (k last : ℕ) (ns : List ℕ) → last ≤ k → between k last ns ≡ []
unfolding between
between-end k last ns h = drop_of_length-le (take last ns) {i = k} (let m = length-take last ns in omega arith)

pub head-here : (k last e : ℕ) (ns : List ℕ) → k < last → last ≤ length ns → get_or ns k 0 ≡ head_or e (between k last ns)
head-here k last e ns lt h = rw (between_cons k last ns lt h)

pub head-none : (k last e : ℕ) (ns : List ℕ) → last ≤ k → e ≡ head_or e (between k last ns)
head-none k last e ns h = rw (between-end k last ns h)

pub head-within : (ss : List ℕ) (e : ℕ) → Rises ss e → head_or e ss ≤ e
unfolding Rises
head-within [] e r = omega arith
head-within (a ∷ ss) e r = let h = head-within ss e r.1 in let g = r.0 in omega arith

-- the places of a part, the rest of the table, and what they are parts of
module _ (k last e : ℕ) (ns : List ℕ) (lt : k < last) (h : last ≤ length ns) (r : Rises (between k last ns) e) where
  opened : Rises (get_or ns k 0 ∷ between (k + 1) last ns) e
  opened = rw (between_cons k last ns lt h) at r

  pub rises-here : get_or ns k 0 ≤ head_or e (between (k + 1) last ns)
  unfolding Rises
  rises-here = opened.0

  pub rises_next : Rises (between (k + 1) last ns) e
  unfolding Rises
  rises_next = opened.1

  pub rises-within : head_or e (between (k + 1) last ns) ≤ e
  rises-within = head-within (between (k + 1) last ns) e rises_next

pub parts-cons : (k last e : ℕ) (ns : List ℕ) (w : List Cell) → k < last → last ≤ length ns
    → parts_in w (between k last ns) e ≡ part (get_or ns k 0) (head_or e (between (k + 1) last ns)) w ∷ parts_in w (between (k + 1) last ns) e
unfolding parts_in
parts-cons k last e ns w lt h = rw (between_cons k last ns lt h)

-- ---- the items of a block

-- what is still to be written
abbrev pub to_write : (o s : Bool) (held index k last e : ℕ) (ns : List ℕ) → List Cell → List Cell
to_write o s held index k last e ns w = held_back held (item_texts o s index (parts_in w (between k last ns) e))

-- ---- a block

later-none : (l : List Cell) → later_line 0 l ≡ l
later-none [] = refl
later-none (c ∷ l) = refl

indented-none : (ls : List (List Cell)) → indented 0 ls ≡ ls
indented-none [] = refl
indented-none (l ∷ ls) = ap (λ (y : List (List Cell)). l ∷ y) (by ls)
  where
    by : (ls : List (List Cell)) → map (later_line 0) ls ≡ ls
    by [] = refl
    by (l ∷ ls) = rw (later-none l, by ls)

-- the lead is empty
module _ (o s : Bool) (k last e a j x y : ℕ) (bs ns : List ℕ) (lt : k < last) (h : last ≤ length ns) (qa : a ≡ get_or ns k 0)
    (qj : j ≡ head_or e (between (k + 1) last ns)) (q : part x y (cells bs ns) ≡ trim (part a j (cells bs ns))) where
  texts : List (List Cell)
  texts = item_texts o s 1 (parts_in (cells bs ns) (between (k + 1) last ns) e)

  block-is : block o s (parts_in (cells bs ns) (between k last ns) e) ≡ trim_end (lead_onto (trim_item (part a j (cells bs ns))) (joined texts))
  unfolding block texts
  block-is = rw (parts-cons k last e ns (cells bs ns) lt h, ← qa, ← qj)

  pub block-items : y ≤ x → to_write o s 0 1 (k + 1) last e ns (cells bs ns) ≡ block o s (parts_in (cells bs ns) (between k last ns) e)
  unfolding held_back texts trimmed lines joined
  block-items z =
      let n : trim (part a j (cells bs ns)) ≡ [] = sym q ∙ part_end x y (cells bs ns) z in
      let t : trim_item (part a j (cells bs ns)) ≡ [] = trim_item-lines (part a j (cells bs ns)) ∙ rw n in
      rw (block-is, t)

  lead-onto : (l items : List Cell) → Solid l → trim_end (lead_onto l items) ≡ l ++ trim_end (feed ∷ items)
  lead-onto [] items s = absurd (true≢false (solid-some s))
  lead-onto (c ∷ l) items s = solid-end s (feed ∷ items)

  pub block-lead : x < y → y ≤ length bs → y ≤ length ns
      → joined (indented 0 (trimmed (part x y (cells bs ns)))) ++ to_write o s 1 1 (k + 1) last e ns (cells bs ns) ≡ block o s (parts_in (cells bs ns) (between k last ns) e)
  unfolding held_back texts
  block-lead lt' hb hn =
      let some : is_empty (trim (part a j (cells bs ns))) ≡ false = rw (← q, part-cons bs ns x y lt' hb hn) in
      let t : joined (indented 0 (trimmed (part x y (cells bs ns)))) ≡ trim_item (part a j (cells bs ns)) =
      ap joined (indented-none (trimmed (part x y (cells bs ns)))) ∙ rw (q, trim_item-lines (part a j (cells bs ns))) in
      let sol : Solid (trim_item (part a j (cells bs ns))) =
      rw (trim_item-lines (part a j (cells bs ns))) (solid-joined (trimmed (trim (part a j (cells bs ns)))) (good (trim-solid (part a j (cells bs ns)) some))) in
      rw (block-is, lead-onto (trim_item (part a j (cells bs ns))) (joined texts) sol, ← t)
