-- Laws of reading a list tag: the value behind `[list=`, and the first two bytes. Assumes nothing.
use mathlib.Core.Path.{◌≡◌, refl, sym, ap, ◌∙◌}
use mathlib.Core.Bool.{Bool, true, false, cond, ◌&&◌, true≢false}
use mathlib.Core.List.{List, [], ◌∷◌}
use Prim.Native.Nat.{ℕ, suc, ◌+◌, ◌%◌, ◌≤◌, ◌<◌}
use native.Mathlib.Nat.{le_of_suc-le-suc, not-suc-le-zero}
use native.Mathlib.Numerals.{add-one}
use native.Mathlib.Omega.{arith}
use lib.ListN.{length, drop, get_or, drop_of_length-le, length-drop}
use lib.Seq.{drop-cons}
use lib.Dec.{eqb, leb, ltb}
use borrow.Author.Tests.{eq-eqb, ne_eqb, lt-ltb, le-ltb, eqb-true, eqb-false, leb-true}
use Rattle.text.specs.Ascii.{ascii, inside, small, begins, to_first, to_bracket, is_empty}
use Rattle.text.specs.Cells.{Cell, cell, cells, bytes}
use Rattle.text.specs.Lines.{trim_start, trim_onto, trim_end, trim}
use Rattle.text.proofs.Writing.{cells_at, cells-le, cells-short}
use Rattle.list_blocks.specs.declared.tag.Tag.TheVariants.{Opener, Item, Closer, Plain}
use Rattle.list_blocks.specs.Tags.{value_of, is_one, valued, tag_at, Skips}

-- ---- a value and its first cell

bracket-here : (c : Cell) (x : List Cell) → c.byte ≡ 93 → to_bracket (bytes (c ∷ x)) ≡ 0
unfolding to_bracket to_first
bracket-here c x e = rw (eq-eqb c.byte 93 e)

bracket-later : (c : Cell) (x : List Cell) → (c.byte ≡ 93 → ⊥) → to_bracket (bytes (c ∷ x)) ≡ suc (to_bracket (bytes x))
unfolding to_bracket to_first
bracket-later c x n = rw (ne_eqb c.byte 93 n)

bracket-none : to_bracket (bytes []) ≡ 0
unfolding to_bracket to_first
bracket-none = refl

value_none : value_of [] ≡ []
unfolding value_of to_bracket to_first
value_none = refl

value-bracket : (c : Cell) (x : List Cell) → c.byte ≡ 93 → value_of (c ∷ x) ≡ []
unfolding value_of
value-bracket c x e = rw (bracket-here c x e)

value-more : (c : Cell) (x : List Cell) → (c.byte ≡ 93 → ⊥) → value_of (c ∷ x) ≡ c ∷ value_of x
unfolding value_of
value-more c x n = rw (bracket-later c x n)

-- ---- passing over blanks

trim_start-none : trim_start [] ≡ []
unfolding trim_start
trim_start-none = refl

trim_start-blank : (c : Cell) (x : List Cell) → c.blank ≡ true → trim_start (c ∷ x) ≡ trim_start x
unfolding trim_start
trim_start-blank c x t = rw t

trim_start-other : (c : Cell) (x : List Cell) → c.blank ≡ false → trim_start (c ∷ x) ≡ c ∷ x
unfolding trim_start
trim_start-other c x t = rw t

-- the search for the end of the blanks, at r
pub record Passes (x : List Cell) (i r : ℕ) : Type 0 where
  pub within : (i ≤ r) × (r ≤ length x)
  pub bracket : i + to_bracket (bytes (drop i x)) ≡ r + to_bracket (bytes (drop r x))
  pub value : trim_start (value_of (drop i x)) ≡ trim_start (value_of (drop r x))

pub passes-start : (x : List Cell) (i : ℕ) → i ≤ length x → Passes x i i
passes-start x i h = record { within = (omega arith, h); bracket = refl; value = refl }

module _ (bs ns : List ℕ) (h : length bs ≤ length ns) where
  pub cells-length : length (cells bs ns) ≡ length bs
  cells-length = let a = cells-short bs ns in let b = cells-le bs ns (length bs) (omega arith) h in omega arith

  pub cells-drop : (i : ℕ) → i < length bs → drop i (cells bs ns) ≡ cell (get_or bs i 0) (get_or ns i 0) ∷ drop (i + 1) (cells bs ns)
  cells-drop i lt =
      let l = cells-length in
      drop-cons (cells bs ns) i (cell 0 0) (omega arith) ∙ rw (add-one, cells_at bs ns i (cell 0 0) lt (omega arith))

  module _ (i r : ℕ) (p : Passes (cells bs ns) i r) where
    pub passes-end : length bs ≤ r → Skips (cells bs ns) i r
    passes-end le =
        let l = cells-length in
        let n : drop r (cells bs ns) ≡ [] = drop_of_length-le (cells bs ns) {i = r} (omega arith) in
        record { within = p.within; bracket = p.bracket; value = p.value ∙ rw (n, value_none, trim_start-none) }

    module _ (lt : r < length bs) where
      pub passes-bracket : get_or bs r 0 ≡ 93 → Skips (cells bs ns) i r
      passes-bracket e = record {
        within = p.within;
        bracket = p.bracket;
        value = p.value ∙ rw (cells-drop r lt, value-bracket (cell (get_or bs r 0) (get_or ns r 0)) (drop (r + 1) (cells bs ns)) e, trim_start-none);
      }

      module _ (n : get_or bs r 0 ≡ 93 → ⊥) where
        first : Cell
        first = cell (get_or bs r 0) (get_or ns r 0)

        later : List Cell
        later = drop (r + 1) (cells bs ns)

        pub passes-other : (get_or ns r 0 % 2 ≡ 1 → ⊥) → Skips (cells bs ns) i r
        unfolding first later
        passes-other t = record {
          within = p.within;
          bracket = p.bracket;
          value = p.value ∙ rw (cells-drop r lt, value-more first later n, trim_start-other first (value_of later) (ne_eqb (get_or ns r 0 % 2) 1 t));
        }

        pub passes-blank : get_or ns r 0 % 2 ≡ 1 → Passes (cells bs ns) i (r + 1)
        unfolding first later
        passes-blank t =
            let l = cells-length in
            let b : to_bracket (bytes (drop r (cells bs ns))) ≡ suc (to_bracket (bytes later)) = rw (cells-drop r lt, bracket-later first later n) in
            record {
              within = (let w = p.within.0 in omega arith, omega arith);
              bracket = omega (arith, p.bracket, b);
              value = p.value ∙ rw (cells-drop r lt, value-more first later n, trim_start-blank first (value_of later) (eq-eqb (get_or ns r 0 % 2) 1 t));
            }

-- ---- a value that is `1`

-- what is left at the start of a trimmed text is not blank
head-other : (y : List Cell) {c : Cell} {z : List Cell} → trim_start y ≡ c ∷ z → c.blank ≡ false
unfolding trim_start
head-other [] e = absurd (no e)
  where
    no : {c : Cell} {z : List Cell} → [] ≡ c ∷ z → ⊥
    no {c} {z} e = (let l : 0 ≡ length (c ∷ z) = ap length e in omega arith)
head-other (d ∷ y) {c} {z} e = by d.blank refl (head-other y) e
  where
    by : (t : Bool) → d.blank ≡ t → (trim_start y ≡ c ∷ z → c.blank ≡ false) → cond t (trim_start y) (d ∷ y) ≡ c ∷ z → c.blank ≡ false
    by true q r e = r e
    by false q r e = ap (λ (l : List Cell). (get_or l 0 c).blank) (sym e) ∙ q

-- one end trimmed leaves something where the other does
same-empty : (w : List Cell) → is_empty (trim_end w) ≡ is_empty (trim_start w)
unfolding trim_start trim_end
same-empty [] = refl
same-empty (e ∷ w) = by e.blank (trim_end w) refl (same-empty w)
  where
    by : (t : Bool) (y : List Cell) → e.blank ≡ t → is_empty y ≡ is_empty (trim_start w) → is_empty (trim_onto e y) ≡ is_empty (cond t (trim_start w) (e ∷ w))
    by true [] q r = rw q r
    by true (d ∷ y) q r = r
    by false [] q r = rw q
    by false (d ∷ y) q r = refl

one-alone : (c : Cell) (y : List Cell) → c.blank ≡ false → c.byte ≡ 49 → is_one (trim_onto c y) ≡ is_empty y
one-alone c [] q e = rw (q, eq-eqb c.byte 49 e)
one-alone c (d ∷ y) q e = refl

one-other : (c : Cell) (y : List Cell) → (c.byte ≡ 49 → ⊥) → is_one (trim_onto c y) ≡ false
one-other c [] n = by c.blank
  where
    by : (t : Bool) → is_one (cond t [] (c ∷ [])) ≡ false
    by true = refl
    by false = ne_eqb c.byte 49 n
one-other c (d ∷ y) n = refl

value-other : (c : Cell) (x : List Cell) → (c.byte ≡ 49 → ⊥) → is_one (trim_end (value_of (c ∷ x))) ≡ false
unfolding trim_end
value-other c x n = by (eqb c.byte 93) refl
  where
    by : (t : Bool) → eqb c.byte 93 ≡ t → is_one (trim_end (value_of (c ∷ x))) ≡ false
    by true q = rw (value-bracket c x (eqb-true c.byte 93 q))
    by false q = rw (value-more c x (eqb-false c.byte 93 q)) (one-other c (trim_end (value_of x)) n)

valued_not : (x : List Cell) → is_one (trim (value_of x)) ≡ false → Plain ≡ valued x
unfolding valued
valued_not x e = by (ltb (to_bracket (bytes x)) (length x))
  where
    by : (t : Bool) → Plain ≡ cond (t && is_one (trim (value_of x))) (Opener (6 + to_bracket (bytes x)) true) Plain
    by true = rw e
    by false = refl

valued-open : (x : List Cell) → length x ≤ to_bracket (bytes x) → Plain ≡ valued x
unfolding valued
valued-open x le = rw (le-ltb (to_bracket (bytes x)) (length x) le)

module _ (bs ns : List ℕ) (h : length bs ≤ length ns) (one : ℕ) (p : Skips (cells bs ns) 6 one) where
  -- no `]` behind
  pub valued-short : length bs ≤ one → Plain ≡ valued (drop 6 (cells bs ns))
  valued-short le =
      let l = cells-length bs ns h in
      let d = length-drop 6 (cells bs ns) in
      let b = p.bracket in
      valued-open (drop 6 (cells bs ns)) (omega arith)

  module _ (lt : one < length bs) where
    -- another byte stands where the `1` should
    pub valued-other : (get_or bs one 0 ≡ 49 → ⊥) → Plain ≡ valued (drop 6 (cells bs ns))
    unfolding trim
    valued-other n =
        valued_not (drop 6 (cells bs ns))
        (rw (p.value, cells-drop bs ns h one lt) (value-other (cell (get_or bs one 0) (get_or ns one 0)) (drop (one + 1) (cells bs ns)) n))

    module _ (is_digit_1 : get_or bs one 0 ≡ 49) (end : ℕ) (q : Skips (cells bs ns) (one + 1) end) where
      c : Cell
      c = cell (get_or bs one 0) (get_or ns one 0)

      w : List Cell
      w = value_of (drop (one + 1) (cells bs ns))

      -- where the `]` stands
      bracket-at : 6 + to_bracket (bytes (drop 6 (cells bs ns))) ≡ end + to_bracket (bytes (drop end (cells bs ns)))
      bracket-at =
          let b : to_bracket (bytes (drop one (cells bs ns))) ≡ suc (to_bracket (bytes (drop (one + 1) (cells bs ns)))) =
          rw (cells-drop bs ns h one lt) (bracket-later (cell (get_or bs one 0) (get_or ns one 0)) (drop (one + 1) (cells bs ns)) (λ e. omega arith)) in
          omega (arith, b, p.bracket, q.bracket)

      left : trim_start (value_of (drop 6 (cells bs ns))) ≡ c ∷ w
      unfolding c w
      left = p.value ∙ rw (cells-drop bs ns h one lt) (value-more (cell (get_or bs one 0) (get_or ns one 0)) (drop (one + 1) (cells bs ns)) (λ e. omega arith))

      is-value : is_one (trim (value_of (drop 6 (cells bs ns)))) ≡ is_empty (value_of (drop end (cells bs ns)))
      unfolding trim trim_end c w
      is-value =
          rw (left) (one-alone c (trim_end w) (head-other (value_of (drop 6 (cells bs ns))) left) is_digit_1 ∙ same-empty w ∙ ap (λ (y : List Cell). is_empty y) q.value)

      pub valued-end : length bs ≤ end → Plain ≡ valued (drop 6 (cells bs ns))
      valued-end le =
          let l = cells-length bs ns h in
          let d = length-drop 6 (cells bs ns) in
          let b = bracket-at in
          valued-open (drop 6 (cells bs ns)) (omega arith)

      module _ (in_end : end < length bs) where
        pub valued-longer : (get_or bs end 0 ≡ 93 → ⊥) → Plain ≡ valued (drop 6 (cells bs ns))
        valued-longer n =
            valued_not (drop 6 (cells bs ns))
            (is-value ∙ rw (cells-drop bs ns h end in_end, value-more (cell (get_or bs end 0) (get_or ns end 0)) (drop (end + 1) (cells bs ns)) n))

        pub valued_one : get_or bs end 0 ≡ 93 → Opener end true ≡ valued (drop 6 (cells bs ns))
        unfolding valued
        valued_one e =
            let l = cells-length bs ns h in
            let d = length-drop 6 (cells bs ns) in
            let z : to_bracket (bytes (drop end (cells bs ns))) ≡ 0 =
            rw (cells-drop bs ns h end in_end) (bracket-here (cell (get_or bs end 0) (get_or ns end 0)) (drop (end + 1) (cells bs ns)) e) in
            let k = bracket-at in
            let m : 6 + to_bracket (bytes (drop 6 (cells bs ns))) ≡ end = omega arith in
            let v : is_one (trim (value_of (drop 6 (cells bs ns)))) ≡ true =
            is-value ∙ rw (cells-drop bs ns h end in_end, value-bracket (cell (get_or bs end 0) (get_or ns end 0)) (drop (end + 1) (cells bs ns)) e) in
            rw (lt-ltb (to_bracket (bytes (drop 6 (cells bs ns)))) (length (drop 6 (cells bs ns))) (omega arith), v, m)

-- ---- the tags

-- the bytes of a pair of slices
pub cells-bytes : (bs ns : List ℕ) → length bs ≤ length ns → bytes (cells bs ns) ≡ bs
unfolding cells
cells-bytes [] ns h = refl
cells-bytes (b ∷ bs) [] h = absurd (not-suc-le-zero h)
cells-bytes (b ∷ bs) (n ∷ ns) h = ap (λ (l : List ℕ). b ∷ l) (cells-bytes bs ns (le_of_suc-le-suc h))

pub begins-long : (w s : List ℕ) → begins w s ≡ true → length w ≤ length s
unfolding begins
begins-long [] s e = omega arith
begins-long (a ∷ w) [] e = absurd (true≢false (sym e))
begins-long (a ∷ w) (b ∷ s) e = by (eqb (small b) a) (begins-long w s) e
  where
    by : (t : Bool) → (begins w s ≡ true → length w ≤ length s) → (t && begins w s) ≡ true → suc (length w) ≤ suc (length s)
    by true r e = let h = r e in omega arith
    by false r e = absurd (true≢false (sym e))

pub begins-six : (s : List ℕ) {b : Bool} → b ≡ begins (ascii "[list=") s → b ≡ true → 6 ≤ length s
begins-six s q e = begins-long (ascii "[list=") s (sym q ∙ e)

-- ---- the first two bytes of a tag

small_open : (b : ℕ) → (b ≡ 91 → ⊥) → small b ≡ 91 → ⊥
unfolding small inside
small_open b n = by (leb 65 b) refl (leb b 90)
  where
    by : (s : Bool) → leb 65 b ≡ s → (t : Bool) → cond (s && t) (b + 32) b ≡ 91 → ⊥
    by true e true h = let l = leb-true 65 b e in omega arith
    by true e false h = n h
    by false e t h = n h

begins-first : (a : ℕ) (w s : List ℕ) → (small (get_or s 0 0) ≡ a → ⊥) → begins (a ∷ w) s ≡ false
unfolding begins
begins-first a w [] n = refl
begins-first a w (b ∷ s) n = rw (ne_eqb (small b) a n)

begins-second : (a b : ℕ) (w s : List ℕ) → (small (get_or s 1 0) ≡ b → ⊥) → begins (a ∷ b ∷ w) s ≡ false
unfolding begins
begins-second a b w [] n = refl
begins-second a b w (c ∷ s) n = by (eqb (small c) a)
  where
    by : (t : Bool) → (t && begins (b ∷ w) s) ≡ false
    by true = begins-first b w s n
    by false = refl

module _ (s : List ℕ) where
  no-list : (small (get_or s 1 0) ≡ 108 → ⊥) → begins (ascii "[list]") s ≡ false
  no-list n = begins-second 91 108 (ascii "ist]") s n

  no-valued : (small (get_or s 1 0) ≡ 108 → ⊥) → begins (ascii "[list=") s ≡ false
  no-valued n = begins-second 91 108 (ascii "ist=") s n

  no_item : (small (get_or s 1 0) ≡ 42 → ⊥) → begins (ascii "[*]") s ≡ false
  no_item n = begins-second 91 42 (ascii "]") s n

  no-closer : (small (get_or s 1 0) ≡ 47 → ⊥) → begins (ascii "[/list]") s ≡ false
  no-closer n = begins-second 91 47 (ascii "list]") s n

-- a text that begins with another byte
pub tag-none : (x : List Cell) → (get_or (bytes x) 0 0 ≡ 91 → ⊥) → tag_at x ≡ Plain
unfolding tag_at
tag-none x n =
    let k = small_open (get_or (bytes x) 0 0) n in
    rw (
      begins-first 91 (ascii "list]") (bytes x) k,
      begins-first 91 (ascii "list=") (bytes x) k,
      begins-first 91 (ascii "*]") (bytes x) k,
      begins-first 91 (ascii "/list]") (bytes x) k,
    )

module _ (bs ns : List ℕ) (h : length bs ≤ length ns) where
  pub other-first : {b : ℕ} → b ≡ get_or bs 0 0 → (b ≡ 91 → ⊥) → Plain ≡ tag_at (cells bs ns)
  other-first q n = sym (tag-none (cells bs ns) (rw (cells-bytes bs ns h) (λ e. n (q ∙ e))))

  -- behind `[` and the second letter of `[list`
  pub second-letter : small (get_or bs 1 0) ≡ 108 → {a b : Bool} → a ≡ begins (ascii "[list]") bs → a ≡ false → b ≡ begins (ascii "[list=") bs → b ≡ false → Plain ≡ tag_at (cells bs ns)
  unfolding tag_at
  second-letter e qa na qb nb =
      rw (cells-bytes bs ns h, ← qa, na, ← qb, nb, no_item bs (λ k. omega (arith, e, k)), no-closer bs (λ k. omega (arith, e, k)))

  module _ {second b : ℕ} (qs : second ≡ small b) (qb : b ≡ get_or bs 1 0) where
    second_is : small (get_or bs 1 0) ≡ second
    second_is = ap small (sym qb) ∙ sym qs

    pub letter-is : second ≡ 108 → small (get_or bs 1 0) ≡ 108
    letter-is e = second_is ∙ e

    module _ (e : second ≡ 42) {a : Bool} (q : a ≡ begins (ascii "[*]") bs) where
      pub second-star : a ≡ true → Item ≡ tag_at (cells bs ns)
      unfolding tag_at
      second-star y =
          let z = second_is in
          rw (cells-bytes bs ns h, no-list bs (λ k. omega (arith, e, z, k)), no-valued bs (λ k. omega (arith, e, z, k)), ← q, y)

      pub star-alone : a ≡ false → Plain ≡ tag_at (cells bs ns)
      unfolding tag_at
      star-alone n =
          let z = second_is in
          rw (cells-bytes bs ns h, no-list bs (λ k. omega (arith, e, z, k)), no-valued bs (λ k. omega (arith, e, z, k)), ← q, n, no-closer bs (λ k. omega (arith, e, z, k)))

    module _ (e : second ≡ 47) {a : Bool} (q : a ≡ begins (ascii "[/list]") bs) where
      pub second-slash : a ≡ true → Closer ≡ tag_at (cells bs ns)
      unfolding tag_at
      second-slash y =
          let z = second_is in
          rw (cells-bytes bs ns h, no-list bs (λ k. omega (arith, e, z, k)), no-valued bs (λ k. omega (arith, e, z, k)), no_item bs (λ k. omega (arith, e, z, k)), ← q, y)

      pub slash-alone : a ≡ false → Plain ≡ tag_at (cells bs ns)
      unfolding tag_at
      slash-alone n =
          let z = second_is in
          rw (cells-bytes bs ns h, no-list bs (λ k. omega (arith, e, z, k)), no-valued bs (λ k. omega (arith, e, z, k)), no_item bs (λ k. omega (arith, e, z, k)), ← q, n)

    pub other-second : (second ≡ 108 → ⊥) → (second ≡ 42 → ⊥) → (second ≡ 47 → ⊥) → Plain ≡ tag_at (cells bs ns)
    unfolding tag_at
    other-second l i c =
        let z = second_is in
        rw (cells-bytes bs ns h, no-list bs (λ k. l (sym z ∙ k)), no-valued bs (λ k. l (sym z ∙ k)), no_item bs (λ k. i (sym z ∙ k)), no-closer bs (λ k. c (sym z ∙ k)))
