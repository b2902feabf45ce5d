-- Laws of the items held in numbers, and of the loop that reads a text's tags into them. Assumes nothing.
use mathlib.Core.Path.{◌≡◌, refl, sym, ap, ap₂, ◌∙◌}
use mathlib.Core.Bool.{true≢false}
use mathlib.Core.Option.{none, some}
use mathlib.Core.List.{List, [], ◌∷◌, ◌++◌, append-nil, append_assoc}
use Prim.Native.Nat.{ℕ, zero, suc, ◌+◌, ◌*◌, ◌%◌, ◌≤◌, ◌<◌}
use native.Mathlib.Numerals.{add-one}
use native.Mathlib.Nat.{add-zero, zero-add}
use native.Mathlib.Omega.{arith}
use native.Mathlib.Decide.{dec_le}
use lib.Dec.{eqb}
use lib.ListN.{length, take, drop, get_or, set, length-set, length-map, length-drop, drop_of_length-le}
use lib.Seq.{get_or-set_same, get_or-set_other, take-set-le, get_or-drop}
use borrow.Author.Tests.{eq-eqb}
use Rattle.text.specs.Ascii.{to_first}
use Rattle.text.specs.Cells.{Cell, bytes, part}
use Rattle.text.proofs.Bytes.{first-within}
use Rattle.text.proofs.Writing.{part_none}
use Rattle.mark_tags.specs.Marks.{Kind, Tag, opener, closer, tag_at, more, Tokens, scan, ends, after}
use Rattle.mark_tags.specs.Flat.{Flat, piece, raw_tag, raws, flat_of, code_at, bound_at, flat_at, flats, stack_of, with_item, Bounded, Tagged, kind_numbered}
use Rattle.mark_tags.proofs.TagNumbers.{no-tag}
use Rattle.mark_pieces.proofs.Pieces.{bytes_drop}
use Rattle.mark_items.proofs.Scanning.{first-passed, fronted, fronted-none, scan-plain, scan-tag, tag_fits}

-- ---- items by their numbers

pub flats-same : (f g : ℕ → Flat) (k j : ℕ) → ((i : ℕ) → j ≤ i → i < j + k → f i ≡ g i) → flats f k j ≡ flats g k j
unfolding flats
flats-same f g zero j h = refl
flats-same f g (suc k) j h = ap₂ (λ (a : Flat) (l : List Flat). a ∷ l) (h j (omega arith) (omega arith)) (flats-same f g k (j + 1) (λ i a b. h i (omega arith) (omega arith)))

pub flats-more : (f : ℕ → Flat) (k j : ℕ) → flats f (suc k) j ≡ flats f k j ++ (f (j + k) ∷ [])
unfolding flats
flats-more f zero j = rw (add-zero j)
flats-more f (suc k) j = let z : j + suc k ≡ j + 1 + k = omega arith in rw z (ap (λ (l : List Flat). f j ∷ l) (flats-more f k (j + 1)))

-- an item whose numbers are the same
pub flat_at-same : (x : List Cell) (ns ns' : List ℕ) (n j : ℕ) → code_at ns' n j ≡ code_at ns n j → bound_at ns' n j ≡ bound_at ns n j → bound_at ns' n (j + 1) ≡ bound_at ns n (j + 1) → flat_at x ns' n j ≡ flat_at x ns n j
unfolding flat_at
flat_at-same x ns ns' n j a b e = rw (a, b, e)

module _ (ns : List ℕ) (n j e code : ℕ) (low : j ≤ n) (room : 2 * n + 2 + j < length ns) where
  pub item-bound : (i : ℕ) → i ≤ j → bound_at (with_item ns n j e code) n i ≡ bound_at ns n i
  unfolding bound_at with_item
  item-bound i h = get_or-set_other (set ns (n + j + 1) e) (2 * n + 2 + j) (n + i) code 0 (λ z. omega arith) ∙ get_or-set_other ns (n + j + 1) (n + i) e 0 (λ z. omega arith)

  pub item-end : bound_at (with_item ns n j e code) n (j + 1) ≡ e
  unfolding bound_at with_item
  item-end =
      let z : n + (j + 1) ≡ n + j + 1 = omega arith in
      rw z (get_or-set_other (set ns (n + j + 1) e) (2 * n + 2 + j) (n + j + 1) code 0 (λ z. omega arith) ∙ get_or-set_same ns (n + j + 1) e 0 (omega arith))

  item-code : code_at (with_item ns n j e code) n j ≡ code
  unfolding code_at with_item
  item-code = let z = length-set ns (n + j + 1) e in get_or-set_same (set ns (n + j + 1) e) (2 * n + 2 + j) code 0 (omega arith)

  item-codes : (i : ℕ) → i < j → code_at (with_item ns n j e code) n i ≡ code_at ns n i
  unfolding code_at with_item
  item-codes i h = get_or-set_other (set ns (n + j + 1) e) (2 * n + 2 + j) (2 * n + 2 + i) code 0 (λ z. omega arith) ∙ get_or-set_other ns (n + j + 1) (2 * n + 2 + i) e 0 (λ z. omega arith)

  pub item-flats : (x : List Cell) → flats (flat_at x (with_item ns n j e code) n) (j + 1) 0 ≡ flats (flat_at x ns n) j 0 ++ (flat_of code (part (bound_at ns n j) e x) ∷ [])
  unfolding flat_at
  item-flats x =
      rw (add-one, flats-more (flat_at x (with_item ns n j e code) n) j 0)
      (ap₂ (λ (l : List Flat) (a : Flat). l ++ (a ∷ []))
      (flats-same (flat_at x (with_item ns n j e code) n) (flat_at x ns n) j 0 (λ i a b. flat_at-same x ns (with_item ns n j e code) n i (item-codes i (omega arith)) (item-bound i (omega arith)) (item-bound (i + 1) (omega arith))))
      (rw (zero-add j, item-code, item-bound j (omega arith), item-end)))

  pub item-stack : (depth : ℕ) → stack_of (with_item ns n j e code) n depth ≡ stack_of ns n depth
  unfolding stack_of with_item
  item-stack zero = refl
  item-stack (suc depth) =
      ap₂ (λ (a : ℕ) (l : List Kind). kind_numbered (a % 4) ∷ l)
      (get_or-set_other (set ns (n + j + 1) e) (2 * n + 2 + j) (3 * n + 3 + depth) code 0 (λ z. omega arith) ∙ get_or-set_other ns (n + j + 1) (3 * n + 3 + depth) e 0 (λ z. omega arith))
      (item-stack depth)

  item-source : take n (with_item ns n j e code) ≡ take n ns
  unfolding with_item
  item-source = take-set-le n (set ns (n + j + 1) e) (2 * n + 2 + j) code (omega arith) ∙ take-set-le n ns (n + j + 1) e (omega arith)

  pub item-length : length (with_item ns n j e code) ≡ length ns
  unfolding with_item
  item-length = length-set (set ns (n + j + 1) e) (2 * n + 2 + j) code ∙ length-set ns (n + j + 1) e

  pub item-bounded : bound_at ns n j ≤ e → e ≤ n → Bounded ns n j → Bounded (with_item ns n j e code) n (j + 1)
  unfolding Bounded
  item-bounded h k b i l = elim (dec_le (i + 1) j) [
    | yes p ↦ rw (item-bound i (omega arith), item-bound (i + 1) p) (b i (omega arith))
    | no q ↦ let z : i ≡ j = omega arith in rw (z, item-bound j (omega arith), item-end) (h, k)
  ]

pub flat-text : (s : List Cell) → flat_of 0 s ≡ piece s
unfolding flat_of
flat-text s = refl

tag-wide : (t : Tag) → 3 ≤ suc (more (some t))
tag-wide (opener k) = omega arith
tag-wide (closer k) = omega arith

-- ---- reading a text's tags: at place i, j items and `depth` open kinds are held, and the piece from the last bound on is being read

pub record Reading (text ns₀ ns : List ℕ) (i j depth : ℕ) : Type 0 where
  pub up_to : i ≤ length text
  pub from : bound_at ns (length text) j ≤ i
  pub few : j ≤ bound_at ns (length text) j
  pub deep : depth ≤ j
  pub items : (x : List Cell) → bytes x ≡ text
      → flats (flat_at x ns (length text)) j 0 ++ raws (fronted (part (bound_at ns (length text) j) i x) (scan 0 (drop i x))) (stack_of ns (length text) depth) ≡ raws (scan 0 x) []
  pub bounded : Bounded ns (length text) j
  pub source : take (length text) ns ≡ take (length text) ns₀

first-bound : (ns : List ℕ) (n : ℕ) → n < length ns → bound_at (set ns n 0) n 0 ≡ 0
unfolding bound_at
first-bound ns n h = rw (add-zero n) (get_or-set_same ns n 0 0 h)

pub reading-start : (text ns : List ℕ) → length text < length ns → Reading text (set ns (length text) 0) (set ns (length text) 0) 0 0 0
unfolding Bounded flats stack_of
reading-start text ns h =
    let b = first-bound ns (length text) h in
    record {
      up_to = omega arith;
      from = omega arith;
      few = omega arith;
      deep = omega arith;
      items = λ x e. rw b (ap (λ (ts : Tokens). raws ts []) (ap (λ (p : List Cell). fronted p (scan 0 x)) (part_none 0 x) ∙ fronted-none (scan 0 x)));
      bounded = λ j l. absurd (omega arith);
      source = refl;
    }

module _ (text ns₀ ns : List ℕ) (i j depth : ℕ) (h : i < length text) (m : Reading text ns₀ ns i j depth) where
  long : (x : List Cell) → bytes x ≡ text → i < length x
  long x e = let a = ap length e in let b = length-map x (λ (c : Cell). c.byte) in omega arith

  there : (x : List Cell) → bytes x ≡ text → bytes (drop i x) ≡ drop i text
  there x e = bytes_drop i x ∙ ap (drop i) e

  pub reading-on : tag_at (drop i text) ≡ none → Reading text ns₀ ns (i + 1) j depth
  reading-on t = record {
    up_to = omega arith;
    from = let f = m.from in omega arith;
    few = m.few;
    deep = m.deep;
    items = λ x e.
        ap (λ (ts : Tokens). flats (flat_at x ns (length text)) j 0 ++ raws ts (stack_of ns (length text) depth))
        (sym (scan-plain x i (long x e) (bound_at ns (length text) j) m.from (rw (there x e) t)))
        ∙ m.items x e;
    bounded = m.bounded;
    source = m.source;
  }

  -- a tag: the piece before it and the tag itself are held
  module _ (t : Tag) (w code depth' : ℕ) (ns₁ ns₂ ns₃ : List ℕ) (tag : tag_at (drop i text) ≡ some t) (wide : w ≡ suc (more (some t)))
      (r₁ : ns₁ ≡ with_item ns (length text) j i 0) (r₂ : ns₂ ≡ with_item ns₁ (length text) (j + 1) (i + w) code)
      (room : 4 * length text + 4 ≤ length ns)
      (keeps : (x : List Cell) → flats (flat_at x ns₃ (length text)) (j + 2) 0 ≡ flats (flat_at x ns₂ (length text)) (j + 2) 0)
      (kept : (l : ℕ) → l ≤ j + 2 → bound_at ns₃ (length text) l ≡ bound_at ns₂ (length text) l)
      (source : take (length text) ns₃ ≡ take (length text) ns₂)
      (stack : stack_of ns₃ (length text) depth' ≡ after t (stack_of ns (length text) depth))
      (flat : (s : List Cell) → flat_of code s ≡ raw_tag t (ends t (stack_of ns (length text) depth)) s)
      (deep : depth' ≤ j + 2) where
    within : i + w ≤ length text
    within = let f = tag_fits (drop i text) t tag in let l = length-drop i text in omega arith

    bound₁ : bound_at ns₁ (length text) (j + 1) ≡ i
    bound₁ = let f = m.from in let g = m.few in rw r₁ (item-end ns (length text) j i 0 (omega arith) (omega arith))

    bound₂ : bound_at ns₃ (length text) (j + 2) ≡ i + w
    bound₂ =
        let f = m.from in
        let g = m.few in
        let q : length ns₁ ≡ length ns = rw r₁ (item-length ns (length text) j i 0 (omega arith) (omega arith)) in
        let z : j + 2 ≡ j + 1 + 1 = omega arith in
        kept (j + 2) (omega arith) ∙ rw (r₂, z) (item-end ns₁ (length text) (j + 1) (i + w) code (let v = within in omega arith) (omega arith))

    long₁ : length ns₁ ≡ length ns
    long₁ = let f = m.from in let g = m.few in rw r₁ (item-length ns (length text) j i 0 (omega arith) (omega arith))

    held : (x : List Cell) → flats (flat_at x ns₃ (length text)) (j + 2) 0
        ≡ (flats (flat_at x ns (length text)) j 0 ++ (piece (part (bound_at ns (length text) j) i x) ∷ [])) ++ (raw_tag t (ends t (stack_of ns (length text) depth)) (part i (i + w) x) ∷ [])
    held x =
        let f = m.from in
        let g = m.few in
        let v = within in
        let q = long₁ in
        let z : j + 2 ≡ j + 1 + 1 = omega arith in
        let b₁ : flats (flat_at x ns₁ (length text)) (j + 1) 0 ≡ flats (flat_at x ns (length text)) j 0 ++ (piece (part (bound_at ns (length text) j) i x) ∷ []) =
        rw r₁ (item-flats ns (length text) j i 0 (omega arith) (omega arith) x ∙ ap (λ (a : Flat). flats (flat_at x ns (length text)) j 0 ++ (a ∷ [])) (flat-text (part (bound_at ns (length text) j) i x))) in
        let b₂ : flats (flat_at x ns₂ (length text)) (j + 1 + 1) 0 ≡ flats (flat_at x ns₁ (length text)) (j + 1) 0 ++ (flat_of code (part (bound_at ns₁ (length text) (j + 1)) (i + w) x) ∷ []) =
        rw r₂ (item-flats ns₁ (length text) (j + 1) (i + w) code (omega arith) (omega arith) x) in
        keeps x ∙ ap (λ (k : ℕ). flats (flat_at x ns₂ (length text)) k 0) z ∙ b₂ ∙ rw (b₁, bound₁, flat (part i (i + w) x))

    coming : (x : List Cell) → raws (fronted (part (bound_at ns₃ (length text) (j + 2)) (i + w) x) (scan 0 (drop (i + w) x))) (stack_of ns₃ (length text) depth')
        ≡ raws (scan 0 (drop (i + w) x)) (after t (stack_of ns (length text) depth))
    coming x = rw (bound₂, stack) (ap (λ (ts : Tokens). raws ts (after t (stack_of ns (length text) depth))) (ap (λ (p : List Cell). fronted p (scan 0 (drop (i + w) x))) (part_none (i + w) x) ∙ fronted-none (scan 0 (drop (i + w) x))))

    was : (x : List Cell) → bytes x ≡ text → raws (fronted (part (bound_at ns (length text) j) i x) (scan 0 (drop i x))) (stack_of ns (length text) depth)
        ≡ piece (part (bound_at ns (length text) j) i x) ∷ raw_tag t (ends t (stack_of ns (length text) depth)) (part i (i + w) x) ∷ raws (scan 0 (drop (i + w) x)) (after t (stack_of ns (length text) depth))
    unfolding raws
    was x e =
        let v = within in
        let a = ap length e in
        let b = length-map x (λ (c : Cell). c.byte) in
        rw wide (ap (λ (ts : Tokens). raws ts (stack_of ns (length text) depth)) (scan-tag x i (long x e) (bound_at ns (length text) j) t m.from (omega arith) (rw (there x e) tag)))

    bounded₃ : Bounded ns₃ (length text) (j + 2)
    unfolding Bounded
    bounded₃ l lt =
        let f = m.from in
        let g = m.few in
        let v = within in
        let q = long₁ in
        let z : j + 2 ≡ j + 1 + 1 = omega arith in
        let b₁ : Bounded ns₁ (length text) (j + 1) = rw r₁ (item-bounded ns (length text) j i 0 (omega arith) (omega arith) m.from (omega arith) m.bounded) in
        let b₂ : Bounded ns₂ (length text) (j + 1 + 1) = rw r₂ (item-bounded ns₁ (length text) (j + 1) (i + w) code (omega arith) (omega arith) (let y = bound₁ in omega arith) within b₁) in
        rw (kept l (omega arith), kept (l + 1) (omega arith)) (b₂ l (omega arith))

    pub reading-tag : Reading text ns₀ ns₃ (i + w) (j + 2) depth'
    reading-tag =
        let f = m.from in
        let g = m.few in
        let v = within in
        let u = bound₂ in
        let q = long₁ in
        let y = tag-wide t in
        record {
          up_to = within;
          from = omega arith;
          few = omega arith;
          deep = deep;
          items = λ x e. rw (held x, coming x) (append_assoc (flats (flat_at x ns (length text)) j 0 ++ (piece (part (bound_at ns (length text) j) i x) ∷ [])) (raw_tag t (ends t (stack_of ns (length text) depth)) (part i (i + w) x) ∷ []) (raws (scan 0 (drop (i + w) x)) (after t (stack_of ns (length text) depth)))
              ∙ append_assoc (flats (flat_at x ns (length text)) j 0) (piece (part (bound_at ns (length text) j) i x) ∷ []) (raw_tag t (ends t (stack_of ns (length text) depth)) (part i (i + w) x) ∷ raws (scan 0 (drop (i + w) x)) (after t (stack_of ns (length text) depth)))
              ∙ ap (λ (l : List Flat). flats (flat_at x ns (length text)) j 0 ++ l) (sym (was x e)) ∙ m.items x e);
          bounded = bounded₃;
          source =
              (let a : take (length text) ns₂ ≡ take (length text) ns₁ = rw r₂ (item-source ns₁ (length text) (j + 1) (i + w) code (omega arith) (omega arith)) in
              let b : take (length text) ns₁ ≡ take (length text) ns = rw r₁ (item-source ns (length text) j i 0 (omega arith) (omega arith)) in
              source ∙ a ∙ b ∙ m.source);
        }

-- ---- the arms of that loop

-- bytes before the next `[`
reading-run : (text ns₀ ns : List ℕ) (i j depth k : ℕ) → k ≤ to_first (λ x. eqb x 91) (drop i text) → i + k ≤ length text → Reading text ns₀ ns i j depth → Reading text ns₀ ns (i + k) j depth
reading-run text ns₀ ns i j depth zero h l m = rw (add-zero i) m
reading-run text ns₀ ns i j depth (suc k) h l m =
    let z : i + suc k ≡ i + k + 1 = omega arith in
    let n : get_or text (i + k) 0 ≡ 91 → ⊥ = λ e. true≢false (sym (eq-eqb (get_or text (i + k) 0) 91 e) ∙ ap (λ (b : ℕ). eqb b 91) (sym (get_or-drop i text k 0)) ∙ first-passed (λ x. eqb x 91) (drop i text) k h) in
    rw z (reading-on text ns₀ ns (i + k) j depth (omega arith) (reading-run text ns₀ ns i j depth k (omega arith) (omega arith) m) (no-tag text (i + k) n))

-- a byte that begins no tag, and those before the next `[`
pub reading-past : (text ns₀ ns : List ℕ) (i j depth r : ℕ) → i < length text → tag_at (drop i text) ≡ none → r ≡ i + 1 + to_first (λ x. eqb x 91) (drop (i + 1) text) → Reading text ns₀ ns i j depth → Reading text ns₀ ns r j depth
reading-past text ns₀ ns i j depth r h t e m =
    let k = to_first (λ x. eqb x 91) (drop (i + 1) text) in
    let w = first-within (λ x. eqb x 91) (drop (i + 1) text) in
    let l = length-drop (i + 1) text in
    rw e (reading-run text ns₀ ns (i + 1) j depth k (omega arith) (omega arith) (reading-on text ns₀ ns i j depth h m t))

-- the end of the text: the last piece
pub reading-end : (text ns₀ ns : List ℕ) (i j depth : ℕ) → length text ≤ i → 4 * length text + 4 ≤ length ns → Reading text ns₀ ns i j depth → Tagged text ns₀ (with_item ns (length text) j (length text) 0) (j + 1)
unfolding raws scan
reading-end text ns₀ ns i j depth h room m =
    let u = m.up_to in
    let f = m.from in
    let g = m.few in
    let z : i ≡ length text = omega arith in
    record {
      items = λ x e.
          let a = ap length e in
          let b = length-map x (λ (c : Cell). c.byte) in
          let nothing : drop i x ≡ [] = drop_of_length-le x {i = i} (omega arith) in
          item-flats ns (length text) j (length text) 0 (omega arith) (omega arith) x
          ∙ ap (λ (a : Flat). flats (flat_at x ns (length text)) j 0 ++ (a ∷ [])) (flat-text (part (bound_at ns (length text) j) (length text) x))
          ∙ (rw (nothing, append-nil (part (bound_at ns (length text) j) i x), z) at (m.items x e));
      bounded = item-bounded ns (length text) j (length text) 0 (omega arith) (omega arith) (omega arith) (omega arith) m.bounded;
      few = omega arith;
      source = item-source ns (length text) j (length text) 0 (omega arith) (omega arith) ∙ m.source;
    }

pub tagged-from : (text ns ns' : List ℕ) (k : ℕ) → Tagged text (set ns (length text) 0) ns' k → Tagged text ns ns' k
tagged-from text ns ns' k t = record {
  items = t.items;
  bounded = t.bounded;
  few = t.few;
  source = t.source ∙ take-set-le (length text) ns (length text) 0 (omega arith);
}
