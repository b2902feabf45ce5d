-- The items of the marks pass as a flat sequence, which is how code holds them in the lent numbers.
--   Flat               a text piece; a tag that vanishes; the end of a mark's slot; the start of a mark (`begun`: not yet known to be closed)
--   view f             the slots that a flat sequence stands for
--   within o, beyond o the items of the innermost of these slots, and the slots around it
--   raws ts ks         the flat sequence of the tokens ts, where the kinds ks are open: found from the left
--   settled f          the same where an opener that is never closed is text: found from the right
--   merged f m st      the same where a mark whose kind is open vanishes, from the left: m the kinds open, st those around each open mark
--   flat_marks x        all three together
--   flat_of code s      the item that the number `code` and the cells s stand for
--   flat_at x ns n j    the item number j in the lent numbers ns, for a text of n cells: the bounds of its cells from place n on, its code
--                      from place 2n + 2 on
--   flats f k j        k items from number j on
--   Tagged ..          the tokens of a text are held as k items
--   Itemed ..          its merged items are
--   Recodes g ..       k items have become others by g
--   slots_at f k j      the slots from item j on, where there are k items
--   even_run e s        an even number of backslashes stands at the end of s (e: of what stands before s)
--   Inserts ..         a cell has been put before the cells from place p on
--   Becomes g ..       the cells from place p on have become others by g
-- Assumes nothing.
use Rattle.std.specs.Prelude.{List, [], ◌∷◌, ◌++◌, Bool, true, false, not, ◌&&◌, cond, ◌≡◌, ℕ, zero, suc, ◌+◌, ◌-◌, ◌*◌, ◌/◌, ◌%◌, ◌≤◌, ◌<◌, max, eqb, leb, ltb, length, take, get_or, set}
use Rattle.text.specs.Bounds.{text_most}
use Rattle.text.specs.Writes.{Holds}
use Rattle.std.proofs.Math.Option.{Option, none, some}
use Rattle.text.specs.Cells.{Cell, bytes, cells, part, sign}
use Rattle.mark_tags.specs.Marks.{Kind, bold, italic, underline, strike, Tag, opener, closer, Tokens, last, cut, scan, Items, end, text, gone, mark, Slots, open-end, closed, front, after, ends, Kinds, kinds, no-kinds, has, add, closing, content}

pub data Flat : Type 0 where
  piece vanish leave : List Cell → Flat
  enter begun : Kind → List Cell → Flat

-- A mark around what comes up to the end of its slot, or of all items.
abbrev pub around : Kind → List Cell → Slots → Slots
around k s (open-end t) = open-end (mark k s t end)
around k s (closed t o) = front (mark k s t) o

-- Writing needs neither the tags that vanish nor how an opener was spelled.
unfoldable pub view : List Flat → Slots
view [] = open-end end
view (piece p ∷ f) = front (text p) (view f)
view (vanish s ∷ f) = view f
view (leave s ∷ f) = closed end (view f)
view (enter k s ∷ f) = around k [] (view f)
view (begun k s ∷ f) = around k [] (view f)

abbrev pub within : Slots → Items
within (open-end t) = t
within (closed t o) = t

abbrev pub beyond : Slots → Slots
beyond (open-end t) = open-end end
beyond (closed t o) = o

-- No mark inside one of its own kind, where the kinds m are open; and how deep the marks are nested.
abbrev pub Fresh : Kinds → Items → Type 0
Fresh m end = Unit {0}
Fresh m (text p t) = Fresh m t
Fresh m (gone s t) = Fresh m t
Fresh m (mark k s a t) = (has k m ≡ false) × Fresh (add k m) a × Fresh m t

unfoldable pub depth_of : Items → ℕ
depth_of end = 0
depth_of (text p t) = depth_of t
depth_of (gone s t) = depth_of t
depth_of (mark k s a t) = max (suc (depth_of a)) (depth_of t)

-- ---- The tags' fates

abbrev pub raw_tag : Tag → (ends : Bool) → List Cell → Flat
raw_tag (opener k) e s = begun k s
raw_tag (closer k) true s = leave s
raw_tag (closer k) false s = vanish s

unfoldable pub raws : Tokens → List Kind → List Flat
raws (last p) ks = piece p ∷ []
raws (cut p t s ts) ks = piece p ∷ raw_tag t (ends t ks) s ∷ raws ts (after t ks)

-- A flat sequence, and how many slots are closed in it that begin before it.
pub record Settled : Type 0 where
  pub flat : List Flat
  pub closes : ℕ

abbrev pub settled_open : Kind → List Cell → ℕ → List Flat → Settled
settled_open k s zero f = record { flat = piece s ∷ f; closes = 0 }
settled_open k s (suc n) f = record { flat = enter k s ∷ f; closes = n }

abbrev pub settle : Flat → Settled → Settled
settle (piece p) r = record { flat = piece p ∷ r.flat; closes = r.closes }
settle (vanish s) r = record { flat = vanish s ∷ r.flat; closes = r.closes }
settle (leave s) r = record { flat = leave s ∷ r.flat; closes = suc r.closes }
settle (enter k s) r = record { flat = enter k s ∷ r.flat; closes = r.closes }
settle (begun k s) r = settled_open k s r.closes r.flat

unfoldable pub settled : List Flat → Settled
settled [] = record { flat = []; closes = 0 }
settled (a ∷ f) = settle a (settled f)

-- ---- Merging: of each mark entered, the kinds outside it and whether it merges

pub record Outer : Type 0 where
  pub kinds-outside : Kinds
  pub merges : Bool

abbrev pub entered : (merges : Bool) → Kind → List Cell → Flat
entered true k s = vanish s
entered false k s = enter k s

abbrev pub leaving : List Outer → List Cell → Flat
leaving [] s = vanish s
leaving (o ∷ st) s = cond o.merges (vanish s) (leave s)

abbrev pub outside : List Outer → Kinds → Kinds
outside [] m = m
outside (o ∷ st) m = o.kinds-outside

abbrev pub rest : List Outer → List Outer
rest [] = []
rest (o ∷ st) = st

unfoldable pub merged : List Flat → Kinds → List Outer → List Flat
merged [] m st = []
merged (piece p ∷ f) m st = piece p ∷ merged f m st
merged (vanish s ∷ f) m st = vanish s ∷ merged f m st
merged (leave s ∷ f) m st = leaving st s ∷ merged f (outside st m) (rest st)
merged (enter k s ∷ f) m st = entered (has k m) k s ∷ merged f (add k m) (record { kinds-outside = m; merges = has k m } ∷ st)
merged (begun k s ∷ f) m st = begun k s ∷ merged f m st

unfoldable pub flat_marks : List Cell → List Flat
flat_marks x = merged (settled (raws (scan 0 x) [])).flat no-kinds []

-- ---- In numbers

abbrev pub kind_number : Kind → ℕ
kind_number bold = 0
kind_number italic = 1
kind_number underline = 2
kind_number strike = 3

unfoldable pub kind_numbered : ℕ → Kind
kind_numbered k = cond (eqb k 0) bold (cond (eqb k 1) italic (cond (eqb k 2) underline strike))

-- 4 where there is none
abbrev pub letter_number : Option Kind → ℕ
letter_number none = 4
letter_number (some k) = kind_number k

-- 0 where there is none
abbrev pub tag_number : Option Tag → ℕ
tag_number none = 0
tag_number (some (opener k)) = 8 + kind_number k
tag_number (some (closer k)) = 12 + kind_number k

-- the tag of a number other than 0
unfoldable pub numbered_tag : ℕ → Tag
numbered_tag r = cond (ltb r 12) (opener (kind_numbered (r % 4))) (closer (kind_numbered (r % 4)))

-- the code of a tag's item, and how many bytes the tag has
unfoldable pub code_of : (r : ℕ) → (ends : Bool) → ℕ
code_of r e = cond (ltb r 12) r (cond e 2 1)

unfoldable pub width_of : ℕ → ℕ
width_of r = cond (ltb r 12) 3 4

unfoldable pub flat_of : (code : ℕ) → List Cell → Flat
flat_of code s =
    cond (eqb code 0) (piece s)
    (cond (eqb code 2) (leave s)
    (cond (ltb code 4) (vanish s)
    (cond (ltb code 8) (enter (kind_numbered (code % 4)) s)
    (begun (kind_numbered (code % 4)) s))))

-- kinds as a mask, one bit for each
unfoldable pub bit_of : ℕ → ℕ
bit_of k = cond (eqb k 0) 1 (cond (eqb k 1) 2 (cond (eqb k 2) 4 8))

unfoldable pub kinds_of : ℕ → Kinds
kinds_of m = kinds (eqb (m % 2) 1) (eqb (m / 2 % 2) 1) (eqb (m / 4 % 2) 1) (eqb (m / 8 % 2) 1)

unfoldable pub code_at : (ns : List ℕ) → (n j : ℕ) → ℕ
code_at ns n j = get_or ns (2 * n + 2 + j) 0

unfoldable pub bound_at : (ns : List ℕ) → (n j : ℕ) → ℕ
bound_at ns n j = get_or ns (n + j) 0

unfoldable pub flat_at : List Cell → (ns : List ℕ) → (n j : ℕ) → Flat
flat_at x ns n j = flat_of (code_at ns n j) (part (bound_at ns n j) (bound_at ns n (j + 1)) x)

unfoldable pub flats : (ℕ → Flat) → (k j : ℕ) → List Flat
flats f zero j = []
flats f (suc k) j = f j ∷ flats f k (j + 1)

unfoldable pub slots_at : (ℕ → Flat) → (k j : ℕ) → Slots
slots_at f k j = view (flats f (k - j) j)

-- the kinds open, innermost first, of which code holds the numbers from place 3n + 3 on
unfoldable pub stack_of : (ns : List ℕ) → (n depth : ℕ) → List Kind
stack_of ns n zero = []
stack_of ns n (suc depth) = kind_numbered (get_or ns (3 * n + 3 + depth) 0 % 4) ∷ stack_of ns n depth

-- the stack after the tag r, and nothing else changed
pub record Stacked (ns ns' : List ℕ) (n depth r depth' : ℕ) : Type 0 where
  pub is : stack_of ns' n depth' ≡ after (numbered_tag r) (stack_of ns n depth)
  pub items : take (3 * n + 3) ns' ≡ take (3 * n + 3) ns
  pub deep : depth' ≤ depth + 1

-- the numbers with item j, which ends at e
unfoldable pub with_item : (ns : List ℕ) → (n j e code : ℕ) → List ℕ
with_item ns n j e code = set (set ns (n + j + 1) e) (2 * n + 2 + j) code

-- the bounds of k items rise and lie within the text
unfoldable pub Bounded : (ns : List ℕ) → (n k : ℕ) → Type 0
Bounded ns n k = (j : ℕ) → j < k → (bound_at ns n j ≤ bound_at ns n (j + 1)) × (bound_at ns n (j + 1) ≤ n)

-- the tokens of a text of n bytes are held as k items
pub record Tagged (text ns ns' : List ℕ) (k : ℕ) : Type 0 where
  pub items : (x : List Cell) → bytes x ≡ text → flats (flat_at x ns' (length text)) k 0 ≡ raws (scan 0 x) []
  pub bounded : Bounded ns' (length text) k
  pub few : k ≤ length text + 1
  pub source : take (length text) ns' ≡ take (length text) ns

-- k items have become others by g, of the same cells
pub record Recodes (g : List Flat → List Flat) (n k : ℕ) (ns ns' : List ℕ) : Type 0 where
  pub items : (x : List Cell) → flats (flat_at x ns' n) k 0 ≡ g (flats (flat_at x ns n) k 0)
  pub source : take (2 * n + 2) ns' ≡ take (2 * n + 2) ns

-- the kinds outside the open marks, innermost first: a mask, and 16 more where the mark merges
unfoldable pub outers_of : (ns : List ℕ) → (n depth : ℕ) → List Outer
outers_of ns n zero = []
outers_of ns n (suc depth) =
    record { kinds-outside = kinds_of (get_or ns (3 * n + 3 + depth) 0 % 16); merges = leb 16 (get_or ns (3 * n + 3 + depth) 0) } ∷ outers_of ns n depth

-- item j merged, where the kinds of a mask are open; no other item changed
pub record MergedItem (ns ns' : List ℕ) (n j mask depth mask' depth' : ℕ) : Type 0 where
  pub is : (x : List Cell) (f : List Flat)
      → merged (flat_at x ns n j ∷ f) (kinds_of mask) (outers_of ns n depth) ≡ flat_at x ns' n j ∷ merged f (kinds_of mask') (outers_of ns' n depth')
  pub others : (i : ℕ) → (i ≡ 2 * n + 2 + j → ⊥) → i < 3 * n + 3 → get_or ns' i 0 ≡ get_or ns i 0
  pub small : mask' < 16
  pub deep : depth' ≤ depth + 1

-- item j settled, before items of which `closes` end slots that begin before them; nothing else changed
pub record SettledItem (ns ns' : List ℕ) (n j closes closes' : ℕ) : Type 0 where
  pub is : (x : List Cell) (f : List Flat) → settle (flat_at x ns n j) (record { flat = f; closes = closes }) ≡ record { flat = flat_at x ns' n j ∷ f; closes = closes' }
  pub others : (i : ℕ) → (i ≡ 2 * n + 2 + j → ⊥) → get_or ns' i 0 ≡ get_or ns i 0
  pub few : closes' ≤ closes + 1

-- the merged items of a text are held as k items
pub record Itemed (src ns ns' : List ℕ) (k : ℕ) : Type 0 where
  pub items : (x : List Cell) → bytes x ≡ src → flats (flat_at x ns' (length src)) k 0 ≡ flat_marks x
  pub bounded : Bounded ns' (length src) k
  pub few : k ≤ length src + 1
  pub source : take (length src) ns' ≡ take (length src) ns

-- the items that a text and the lent numbers hold
unfoldable pub held : (src ns : List ℕ) → ℕ → Flat
held src ns j = flat_at (cells src ns) ns (length src) j

abbrev pub slot_at : (src ns : List ℕ) → (k j : ℕ) → Slots
slot_at src ns k j = slots_at (held src ns) k j

pub record Held (src ns : List ℕ) (k : ℕ) : Type 0 where
  pub small : length src ≤ text_most
  pub room : 4 * length src + 4 ≤ length ns
  pub few : k ≤ length src + 1
  pub bounded : Bounded ns (length src) k

-- what the content test is asked of the slot that starts at item `at`, and what it finds of one that has no content: j is the item behind it
pub record Ready (src ns : List ℕ) (k at depth : ℕ) : Type 0 where
  pub table : Held src ns k
  pub up_to : at ≤ k
  pub deep : depth_of (within (slot_at src ns k at)) ≤ depth

pub record Empty (src ns : List ℕ) (k at j : ℕ) : Type 0 where
  pub none : content (within (slot_at src ns k at)) ≡ false
  pub forward : at ≤ j
  pub up_to : j ≤ k
  pub behind : slot_at src ns k j ≡ beyond (slot_at src ns k at)

-- ---- What code tests and moves

unfoldable pub even_run : (even : Bool) → List ℕ → Bool
even_run even [] = even
even_run even (b ∷ s) = even_run (not (eqb b 92 && even)) s

-- from v at `at` to v' at `at'`
pub record Inserts (v : List Cell) (p at : ℕ) (v' : List Cell) (at' : ℕ) (c : Cell) : Type 0 where
  pub step : (s t : List Cell) → length s ≡ p → Holds v at (s ++ t) → Holds v' at' (s ++ (c ∷ t))
  pub keeps : take p v' ≡ take p v
  pub grows : at ≤ at'

-- the cells from place p on have become others by g
pub record Becomes (g : List Cell → List Cell) (v : List Cell) (p at : ℕ) (v' : List Cell) (at' : ℕ) : Type 0 where
  pub step : (s t : List Cell) → length s ≡ p → Holds v at (s ++ t) → Holds v' at' (s ++ g t)
  pub keeps : take p v' ≡ take p v
  pub grows : at ≤ at'

-- a mark's cells from its opening delimiter on, with a brace before and its closing delimiter behind them
abbrev pub behind_brace : (braces : Bool) → (d : ℕ) → List Cell → List Cell
behind_brace true d t = (sign 123 ∷ t) ++ closing true d
behind_brace false d t = t ++ closing false d
