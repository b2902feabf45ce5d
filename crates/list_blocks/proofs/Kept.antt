-- Laws of writing a list's block into the slices that its parts and their table stand in. Assumes nothing.
use mathlib.Core.Path.{◌≡◌, refl, sym, ap, ◌∙◌}
use Prim.Native.Nat.{ℕ, suc, ◌+◌, ◌≤◌, ◌<◌}
use native.Mathlib.Numerals.{add-one}
use native.Mathlib.Omega.{arith}
use mathlib.Core.Bool.{Bool}
use mathlib.Core.List.{List, [], ◌∷◌, map}
use lib.ListN.{length, get_or, replicate}
use Rattle.text.specs.Cells.{Cell, cells, part, feed}
use Rattle.text.specs.Lines.{trim, trim_end, lines, followed, joined}
use Rattle.text.specs.Writes.{AppendsIn, Apart}
use Rattle.text.specs.Writers.{Wrote}
use Rattle.text.specs.declared.writer.Writer.{Writer}
use Rattle.text.proofs.Writing.{part_end}
use Rattle.text.proofs.Writers.{wrote-none, wrote-then, wrote-as, Writing, writing-more, writing-done}
use Rattle.text.proofs.Areas.{apart-before, apart-cells, apart-numbers, apart-number}
use Rattle.list_blocks.specs.Blocks.{space, marker, later_line, indented, marked, trimmed, item_text, item_texts, between, head_or, parts_in, Rises, held_back, LineAt, Blocked, items_at, block_at}
use Rattle.list_blocks.proofs.ItemWriting.{later-line, later_from, trimmed-next, lines-first, item_by}
use Rattle.list_blocks.proofs.BlockLaws.{to_write, head-within, rises-here, rises_next, rises-within, parts-cons, between-end, held-done, blocked-empty, blocked-item, block-items, block-lead}

-- ---- what stands outside of the area is the same when something has been appended

module _ {bs ns bs' ns' : List ℕ} {end at to : ℕ} {past : List Cell} (p : AppendsIn bs ns end at bs' ns' to past) where
  -- a part before the place
  pub kept-part : (a e : ℕ) → e ≤ at → part a e (cells bs' ns') ≡ part a e (cells bs ns)
  kept-part a e h = apart-cells a e (apart-before h) p

  -- the table from an index on
  pub kept_table : (k i last : ℕ) → Apart k last at end → k ≤ i → between i last ns' ≡ between i last ns
  unfolding between
  kept_table k i last f h = apart-numbers i last (λ q. let z = f q in omega arith) p

  pub kept-place : (k i last : ℕ) → Apart k last at end → k ≤ i → i < last → get_or ns' i 0 ≡ get_or ns i 0
  kept-place k i last f h lt = apart-number i (λ q. let z = f (omega arith) in omega arith) p

  -- parts that end by e
  pub kept-parts : (ss : List ℕ) (e : ℕ) → e ≤ at → Rises ss e → parts_in (cells bs' ns') ss e ≡ parts_in (cells bs ns) ss e
  unfolding parts_in Rises
  kept-parts [] e h r = refl
  kept-parts (a ∷ ss) e h r =
      ap (λ (l : List Cell). l ∷ parts_in (cells bs' ns') ss e) (kept-part a (head_or e ss) (let w = head-within ss e r.1 in omega arith))
      ∙ ap (λ (l : List (List Cell)). part a (head_or e ss) (cells bs ns) ∷ l) (kept-parts ss e h r.1)

-- ---- lines

-- what stands in a writer's slices
abbrev pub seen : Writer → List Cell
seen w = cells w.bytes.now w.numbers.now

-- a line after the first
pub wrote-later : (w : Writer) {w₁ w₂ w₃ : Writer} (width a r : ℕ) → r ≤ w.at.0 → a < r → r ≤ w.end
    → Wrote w w₁ (feed ∷ []) → Wrote w₁ w₂ (replicate width space) → Wrote w₂ w₃ (part a r (seen w₂)) → Wrote w w₃ (feed ∷ later_line width (part a r (seen w)))
wrote-later w width a r h lt f p q s =
    let pq = wrote-then p q in
    wrote-as (later-line width a r w.bytes.now w.numbers.now lt (let i = w.bytes_reach in omega arith) (let i = w.numbers_reach in omega arith)) (wrote-then pq (wrote-as (kept-part pq.text a r h) s))

-- all lines from i on, the first of them read in what stands there now
pub wrote-line : (w w₁ : Writer) {w₂ : Writer} {whole : List Cell} (width i j y e : ℕ) → e ≤ w.at.0 → LineAt w₁ i e j y
    → Writing w w₁ (later_from width i e (seen w)) whole → Wrote w₁ w₂ (feed ∷ later_line width (part i y (seen w₁)))
    → Writing w w₂ (later_from width (j + 1) e (seen w)) whole
unfolding followed
wrote-line w w₁ width i j y e h q p a =
    let x : part i j (seen w₁) ≡ part i j (seen w) = kept-part p.wrote.text i j (let o = q.order in omega arith) in
    let l : lines (part i e (seen w)) ≡ part i j (seen w) ∷ lines (part (j + 1) e (seen w)) =
    ap lines (sym (kept-part p.wrote.text i e h)) ∙ q.line ∙ ap (λ (l : List Cell). l ∷ lines (part (j + 1) e (seen w₁))) x
    ∙ ap (λ (y : List Cell). part i j (seen w) ∷ lines y) (kept-part p.wrote.text (j + 1) e h) in
    writing-more p (rw (trimmed-next (seen w) i j e l)) (wrote-as (ap (λ (y : List Cell). feed ∷ later_line width y) (q.text ∙ ap trim_end x)) a)

pub wrote-lines : {w w' : Writer} {whole : List Cell} (width i e : ℕ) (x : List Cell) → e ≤ i → Writing w w' (later_from width i e x) whole → Wrote w w' whole
unfolding followed trimmed lines
wrote-lines width i e x h p = writing-done p (rw (part_end i e x h))

module _ (w : Writer) {w₁ w₂ : Writer} (width a e : ℕ) (h : e ≤ w.at.0) where
  pub wrote-first : (j y : ℕ) → LineAt w a e j y → Wrote w w₁ (part a y (seen w)) → Wrote w₁ w₂ (later_from width (j + 1) e (seen w₁)) → Wrote w w₂ (joined (indented width (trimmed (part a e (seen w)))))
  wrote-first j y q p s =
      let u = wrote-as (ap (λ (l : List Cell). followed (map (later_line width) (trimmed l))) (kept-part p.text (j + 1) e h)) s in
      wrote-as (lines-first width a j e y (seen w) q.line q.text) (wrote-then p u)

  -- ---- an item

  pub wrote-item : (mark : List Cell) → width ≡ length mark → a < e → e ≤ w.end → Wrote w w₁ mark → Wrote w₁ w₂ (joined (indented width (trimmed (part a e (seen w₁)))))
      → Wrote w w₂ (marked mark (trimmed (part a e (seen w))))
  wrote-item mark q lt f p s =
      let u = wrote-as (ap (λ (l : List Cell). joined (indented width (trimmed l))) (kept-part p.text a e h)) s in
      wrote-as (item_by mark width a e w.bytes.now w.numbers.now q lt (let i = w.bytes_reach in omega arith) (let i = w.numbers_reach in omega arith)) (wrote-then p u)

-- ---- items of a block

pub blocked-none : (w : Writer) (mark x : List Cell) (held i j : ℕ) (y : List Cell) → part i j y ≡ trim x → j ≤ i → Blocked w w (item_text mark x) held (held + 1)
blocked-none w mark x held i j y q e = record { past = []; wrote = wrote-none w; rest = blocked-empty mark x held i j y q e; few = omega arith }

pub blocked-some : (w : Writer) {w₁ w₂ : Writer} (mark x : List Cell) (held i j : ℕ) → part i j (seen w) ≡ trim x → j ≤ w.at.0 → i < j → j ≤ w.end
    → Wrote w w₁ (replicate held feed) → Wrote w₁ w₂ (marked mark (trimmed (part i j (seen w₁)))) → Blocked w w₂ (item_text mark x) held 1
blocked-some w mark x held i j q h lt f p s =
    let u = wrote-as (ap (λ (l : List Cell). marked mark (trimmed l)) (kept-part p.text i j h)) s in
    record { past = _; wrote = wrote-then p u; rest = blocked-item mark x held i j w.bytes.now w.numbers.now q lt (let i = w.bytes_reach in omega arith) (let i = w.numbers_reach in omega arith); few = omega arith }

-- the places of a part, read in what stands there now
pub items-here : (w w₁ : Writer) {past : List Cell} → Wrote w w₁ past → (k i last e : ℕ)
    → k ≤ i → i < last → last ≤ length w.numbers.now → Apart k last w.at.0 w.end → Rises (between i last w.numbers.now) e
    → (last ≤ length w₁.numbers.now) × ((get_or w₁.numbers.now i 0 ≤ head_or e (between (i + 1) last w₁.numbers.now)) × (head_or e (between (i + 1) last w₁.numbers.now) ≤ e))
items-here w w₁ p k i last e h lt hl f r =
    let n = p.same.numbers-size in
    (omega arith, rw (kept-place p.text k i last f h lt, kept_table p.text k (i + 1) last f (omega arith)) (rises-here i last e w.numbers.now lt hl r, rises-within i last e w.numbers.now lt hl r))

-- a turn: the part from a up to j, whose places and cells are read in what stands there now
pub items-turn : (w w₁ : Writer) {w₂ : Writer} {whole : List Cell} (o s : Bool) (held held' index k i last e a j : ℕ)
    → k ≤ i → i < last → last ≤ length w.numbers.now → Apart k last w.at.0 w.end → e ≤ w.at.0 → Rises (between i last w.numbers.now) e
    → a ≡ get_or w₁.numbers.now i 0 → j ≡ head_or e (between (i + 1) last w₁.numbers.now)
    → Writing w w₁ (to_write o s held index i last e w.numbers.now (seen w)) whole
    → Blocked w₁ w₂ (item_text (marker o s index) (part a j (seen w₁))) held held'
    → Writing w w₂ (to_write o s held' (index + 1) (i + 1) last e w.numbers.now (seen w)) whole
unfolding item_texts
items-turn w w₁ o s held held' index k i last e a j h lt hl f he r qa qj p b =
    let ns = w.numbers.now in
    let ja : a ≡ get_or ns i 0 = qa ∙ kept-place p.wrote.text k i last f h lt in
    let jj : j ≡ head_or e (between (i + 1) last ns) = qj ∙ ap (head_or e) (kept_table p.wrote.text k (i + 1) last f (omega arith)) in
    let up = rises-within i last e ns lt hl r in
    let x : part a j (seen w₁) ≡ part a j (seen w) = kept-part p.wrote.text a j (omega (arith, jj, up, he)) in
    let y : part a j (seen w₁) ≡ part (get_or ns i 0) (head_or e (between (i + 1) last ns)) (seen w) = x ∙ rw (← ja, ← jj) in
    writing-more p
    (ap (λ (l : List (List Cell)). held_back held (item_texts o s index l)) (parts-cons i last e ns (seen w) lt hl)
    ∙ rw (← y, add-one index) (b.rest (item_texts o s (suc index) (parts_in (seen w) (between (i + 1) last ns) e)))) b.wrote

pub items-done : {w w' : Writer} {whole : List Cell} (o s : Bool) (held index k last e : ℕ) (ts : List ℕ) (x : List Cell) → last ≤ k
    → Writing w w' (to_write o s held index k last e ts x) whole → Wrote w w' whole
unfolding item_texts parts_in
items-done o s held index k last e ts x h p = writing-done p (rw (between-end k last ts h) (held-done held))

-- ---- a block

module _ (w : Writer) (o s : Bool) (k last e a j x y : ℕ) (lt : k < last) (h : last ≤ length w.numbers.now) (qa : a ≡ get_or w.numbers.now k 0)
    (qj : j ≡ head_or e (between (k + 1) last w.numbers.now)) (q : part x y (seen w) ≡ trim (part a j (seen w))) where
  pub block-without : {w' : Writer} → y ≤ x → Wrote w w' (items_at w (k + 1) last e o s 0) → Wrote w w' (block_at w k last e o s)
  block-without z p = wrote-as (block-items o s k last e a j x y w.bytes.now w.numbers.now lt h qa qj q z) p

  pub block-with : {w₁ w₂ : Writer} → Apart k last w.at.0 w.end → e ≤ w.at.0 → Rises (between k last w.numbers.now) e → x < y → y ≤ w.end
      → Wrote w w₁ (joined (indented 0 (trimmed (part x y (seen w))))) → Wrote w₁ w₂ (items_at w₁ (k + 1) last e o s 1) → Wrote w w₂ (block_at w k last e o s)
  block-with {w₁} f he rs lt' fit p r =
      let ns = w.numbers.now in
      let t : parts_in (seen w₁) (between (k + 1) last w₁.numbers.now) e ≡ parts_in (seen w) (between (k + 1) last ns) e =
      ap (λ (l : List ℕ). parts_in (seen w₁) l e) (kept_table p.text k (k + 1) last f (omega arith)) ∙ kept-parts p.text (between (k + 1) last ns) e he (rises_next k last e ns lt h rs) in
      let u = wrote-as (ap (λ (l : List (List Cell)). held_back 1 (item_texts o s 1 l)) t) r in
      wrote-as (block-lead o s k last e a j x y w.bytes.now ns lt h qa qj q lt' (let i = w.bytes_reach in omega arith) (let i = w.numbers_reach in omega arith)) (wrote-then p u)
