-- Slices that hold a state with an open list: what its frame in the table says, and what it gives when it is closed. Assumes nothing.
use mathlib.Core.Path.{◌≡◌, refl, sym, ap, ◌∙◌}
use mathlib.Core.Bool.{Bool, true, false, cond, not, ◌&&◌, ◌||◌}
use mathlib.Core.List.{List, [], ◌∷◌, ◌++◌, append_assoc}
use Prim.Native.Nat.{ℕ, suc, ◌+◌, ◌-◌, ◌%◌, ◌≤◌, ◌<◌}
use native.Mathlib.Omega.{arith}
use lib.ListN.{length, take, drop, get_or, replicate, length-append, get_or-append}
use lib.Seq.{drop_at, take-take, get_or-append-add}
use lib.Dec.{eqb, leb}
use borrow.Author.Tests.{lt-ltb, le-ltb, eq-eqb, ne_eqb}
use Rattle.text.specs.Ascii.{is_empty}
use Rattle.text.specs.Bounds.{number_most}
use Rattle.text.specs.Cells.{Cell, cells, part, feed}
use Rattle.text.proofs.Writing.{holds_fits, cells-le}
use Rattle.text.proofs.Areas.{area-length}
use Rattle.list_blocks.specs.Blocks.{kind_of, block, between, parts_in, Rises}
use Rattle.list_blocks.specs.Lists.{Open, State, ends_in_feed, feed_before, closing}
use Rattle.list_steps.specs.Standing.{strung, outers, contents, starts_from, Frames, frames, Stands, outer_at, feed_at, feeds_before, closing_at, Framed}
use Rattle.list_steps.proofs.Tables.{part_left, starts-length, starts-last, starts-rise, starts-parts, kind-ordered, kind-second, table-behind, table-size, table-read, table_at}

-- ---- the contents

module _ (before : List Cell) (bs ns : List ℕ) (end table at top first : ℕ) (second : Bool) (s : State)
    (h : Stands before bs ns end table at top first second s) (fit : at ≤ end) (hb : end ≤ length bs) (hn : end ≤ length ns) where
  v : List Cell
  v = cells bs ns

  room : length (before ++ contents s) ≤ length (take end (cells bs ns))
  room = holds_fits (take end (cells bs ns)) at (before ++ contents s) h.text (let l = area-length bs ns end hb hn in omega arith)

  pub stands-end : at ≡ length (before ++ contents s)
  stands-end = h.text.end room

  pub stands-text : take at (cells bs ns) ≡ before ++ contents s
  stands-text = sym (take-take at end (cells bs ns) fit) ∙ h.text.text room

-- ---- the innermost list

module _ (before : List Cell) (bs ns : List ℕ) (end table at top first : ℕ) (second : Bool) (now : List Cell) (sec : Bool) (l : Open) (ls : List Open)
    (h : Stands before bs ns end table at top first second (record { now = now; second = sec; lists = l ∷ ls }))
    (fit : at ≤ end) (hb : end ≤ length bs) (hn : end ≤ length ns) where
  abbrev f : Frames
  f = frames (length before) table ls

  -- where the lead begins
  abbrev p : ℕ
  p = length before + length (outers ls ++ l.outer)

  row : List ℕ
  row = f.first ∷ kind_of l.ordered l.second ∷ starts_from p l.parts

  tab : between table top ns ≡ f.table ++ row
  unfolding frames row
  tab = h.rows

  here : first ≡ table + length f.table
  unfolding frames
  here = h.frame

  row-size : length row ≡ 3 + length l.parts
  unfolding row
  row-size = let n = starts-length p l.parts in omega arith

  size : top ≡ table + (length f.table + length row)
  size = table-size ns table top f.table row tab h.reaches

  read : (i : ℕ) → i < length row → get_or ns (first + i) 0 ≡ get_or row i 0
  read i lt = ap (λ (k : ℕ). get_or ns (k + i) 0) here ∙ table_at ns table top f.table row tab h.reaches i lt

  pub frame-parent : get_or ns first 0 ≡ f.first
  unfolding row
  frame-parent =
      let n = row-size in
      let e : first + 0 ≡ first = omega arith in
      ap (λ (k : ℕ). get_or ns k 0) (sym e) ∙ read 0 (omega arith)

  pub frame-kind : get_or ns (first + 1) 0 ≡ kind_of l.ordered l.second
  unfolding row
  frame-kind = let n = row-size in read 1 (omega arith)

  row-start : get_or row 2 0 ≡ p
  unfolding row starts_from
  row-start = by l.parts
    where
      by : (xs : List (List Cell)) → get_or (starts_from p xs) 0 0 ≡ p
      by [] = refl
      by (x ∷ xs) = refl

  pub frame-start : get_or ns (first + 2) 0 ≡ p
  frame-start = (let n = row-size in read 2 (omega arith)) ∙ row-start

  pub frame-starts : between (first + 2) top ns ≡ starts_from p l.parts
  unfolding row
  frame-starts =
      let t : between table top ns ≡ (f.table ++ f.first ∷ kind_of l.ordered l.second ∷ []) ++ starts_from p l.parts =
      tab ∙ sym (append_assoc f.table (f.first ∷ kind_of l.ordered l.second ∷ []) (starts_from p l.parts)) in
      let n = length-append f.table (f.first ∷ kind_of l.ordered l.second ∷ []) in
      let q = here in
      let e : first + 2 ≡ table + length (f.table ++ f.first ∷ kind_of l.ordered l.second ∷ []) = omega arith in
      ap (λ (k : ℕ). between k top ns) e ∙ table-behind ns table top (f.table ++ f.first ∷ kind_of l.ordered l.second ∷ []) (starts_from p l.parts) t h.reaches

  -- the contents up to the list, and its own
  abbrev up : List Cell
  up = before ++ (outers ls ++ l.outer)

  up-length : length up ≡ p
  up-length = length-append before (outers ls ++ l.outer)

  all-is : before ++ contents (record { now = now; second = sec; lists = l ∷ ls }) ≡ up ++ (strung l.parts ++ now)
  unfolding outers
  all-is =
      ap (λ (y : List Cell). before ++ y) (append_assoc (outers ls ++ l.outer) (strung l.parts) now)
      ∙ sym (append_assoc before (outers ls ++ l.outer) (strung l.parts ++ now))

  whole : take at (cells bs ns) ≡ up ++ (strung l.parts ++ now)
  whole = stands-text before bs ns end table at top first second _ h fit hb hn ∙ all-is

  pub at-is : at ≡ p + length (strung l.parts ++ now)
  at-is = stands-end before bs ns end table at top first second _ h fit hb hn ∙ ap length all-is ∙ length-append up (strung l.parts ++ now) ∙ ap (λ (k : ℕ). k + length (strung l.parts ++ now)) up-length

  own : part p at (cells bs ns) ≡ strung l.parts ++ now
  unfolding part
  own = ap (drop p) whole ∙ drop_at up (strung l.parts ++ now) p up-length

  in_cells : at ≤ length (cells bs ns)
  in_cells = cells-le bs ns at (omega arith) (omega arith)

  pub frame-parts : parts_in (cells bs ns) (between (first + 2) top ns) at ≡ l.parts ++ now ∷ []
  frame-parts = rw frame-starts (starts-parts (cells bs ns) p at l.parts now own at-is in_cells)

  pub frame-rises : Rises (between (first + 2) top ns) at
  frame-rises = rw frame-starts (starts-rise p at l.parts (let a = at-is in let n = length-append (strung l.parts) now in omega arith))

  pub framed-here : length ns ≤ number_most → Framed bs ns table at top first
  framed-here short =
      let q = here in
      let z = size in
      let n = row-size in
      let a = at-is in
      let r = h.reaches in
      record {
        inner = (omega arith, omega arith);
        rises = frame-rises;
        fits = (omega arith, (omega arith, r.1));
        start = rw frame-start (omega arith);
        short = short;
      }

  -- ---- what stands around the block

  b : List Cell
  b = block l.ordered l.second (l.parts ++ now ∷ [])

  block-is : block (leb 2 (get_or ns (first + 1) 0)) (eqb (get_or ns (first + 1) 0 % 2) 1) (parts_in (cells bs ns) (between (first + 2) top ns) at) ≡ b
  unfolding b
  block-is = rw (frame-kind, kind-ordered l.ordered l.second, kind-second l.ordered l.second, frame-parts)

  parted : up ++ (strung l.parts ++ now) ≡ (before ++ outers ls) ++ (l.outer ++ (strung l.parts ++ now))
  parted =
      ap (λ (y : List Cell). y ++ (strung l.parts ++ now)) (sym (append_assoc before (outers ls) l.outer))
      ∙ append_assoc (before ++ outers ls) l.outer (strung l.parts ++ now)

  behind : part (length before + length (outers ls)) at (cells bs ns) ≡ l.outer ++ (strung l.parts ++ now)
  unfolding part
  behind =
      ap (drop (length before + length (outers ls))) (whole ∙ parted)
      ∙ drop_at (before ++ outers ls) (l.outer ++ (strung l.parts ++ now)) (length before + length (outers ls)) (length-append before (outers ls))

  -- the content that the list stands in
  pub outer-is : part (length before + length (outers ls)) p (cells bs ns) ≡ l.outer
  outer-is =
      let n = length-append (outers ls) l.outer in
      let a = at-is in
      part_left (cells bs ns) (length before + length (outers ls)) p at (omega arith) (omega arith) in_cells l.outer (strung l.parts ++ now) behind (omega arith)

  -- the number before the frame
  pub last-read : (i : ℕ) → length f.table ≡ i + 1 → get_or ns (first - 1) 0 ≡ get_or f.table i 0
  last-read i e =
      let q = here in
      let n = row-size in
      let k : first - 1 ≡ table + i = omega arith in
      ap (λ (j : ℕ). get_or ns j 0) k ∙ table-read ns table top f.table row tab h.reaches i (omega arith) ∙ get_or-append f.table row 0 i (omega arith)

  pub frame_here : first ≡ table + length f.table
  frame_here = here

  -- ---- what is written

  pub closing-by-feeds : (n k : ℕ) → feeds_before bs ns first table ≡ n → cond (eqb first table) 2 1 ≡ k
      → closing_at bs ns table at top first ≡ replicate n feed ++ (block l.ordered l.second (l.parts ++ now ∷ []) ++ replicate k feed)
  unfolding closing_at b
  closing-by-feeds n k e g = rw (block-is, e, g)

-- a list at the root
closing-root : (before : List Cell) (bs ns : List ℕ) (end table at top first : ℕ) (second : Bool) (now : List Cell) (sec : Bool) (l : Open)
    → Stands before bs ns end table at top first second (record { now = now; second = sec; lists = l ∷ [] }) → at ≤ end → end ≤ length bs → end ≤ length ns
    → closing_at bs ns table at top first ≡ closing l [] now
unfolding closing feeds_before frames
closing-root before bs ns end table at top first second now sec l h fit hb hn =
    closing-by-feeds before bs ns end table at top first second now sec l [] h fit hb hn 2 2 (rw is-end) (rw is-end)
  where
    is-end : eqb first table ≡ true
    is-end = let q : first ≡ table + 0 = frame_here before bs ns end table at top first second now sec l [] h fit hb hn in eq-eqb first table (omega arith)

feeds-inner : (t : Bool) → replicate (cond (true && not t) 1 0) feed ≡ cond t [] (feed ∷ [])
feeds-inner true = refl
feeds-inner false = refl

-- a list in a lead or an item of another
module _ (before : List Cell) (bs ns : List ℕ) (end table at top first : ℕ) (second : Bool) (now : List Cell) (sec : Bool) (l q : Open) (qs : List Open)
    (h : Stands before bs ns end table at top first second (record { now = now; second = sec; lists = l ∷ q ∷ qs }))
    (fit : at ≤ end) (hb : end ≤ length bs) (hn : end ≤ length ns) where
  g : Frames
  g = frames (length before) table qs

  p' : ℕ
  p' = length before + length (outers qs ++ q.outer)

  table-size' : length (frames (length before) table (q ∷ qs)).table ≡ length g.table + (3 + length q.parts)
  unfolding frames g p'
  table-size' =
      let n = starts-length p' q.parts in
      let m = length-append g.table (g.first ∷ kind_of q.ordered q.second ∷ starts_from p' q.parts) in
      omega arith

  first-is : first ≡ table + (length g.table + (3 + length q.parts))
  first-is = frame_here before bs ns end table at top first second now sec l (q ∷ qs) h fit hb hn ∙ ap (λ (k : ℕ). table + k) table-size'

  parent_is : get_or ns first 0 ≡ table + length g.table
  unfolding frames g
  parent_is = frame-parent before bs ns end table at top first second now sec l (q ∷ qs) h fit hb hn

  last-start : get_or ns (first - 1) 0 ≡ length before + length (outers (q ∷ qs))
  unfolding frames g p' outers
  last-start =
      let n = length-append (outers qs ++ q.outer) (strung q.parts) in
      last-read before bs ns end table at top first second now sec l (q ∷ qs) h fit hb hn (length g.table + suc (suc (length q.parts))) (table-size' ∙ omega arith)
      ∙ get_or-append-add g.table (g.first ∷ kind_of q.ordered q.second ∷ starts_from p' q.parts) (suc (suc (length q.parts))) 0
      ∙ starts-last p' q.parts ∙ omega arith

  outer-at : outer_at bs ns first ≡ l.outer
  outer-at =
      rw (last-start, frame-start before bs ns end table at top first second now sec l (q ∷ qs) h fit hb hn)
      (outer-is before bs ns end table at top first second now sec l (q ∷ qs) h fit hb hn)

  not_end : eqb first table ≡ false
  not_end = let e = first-is in ne_eqb first table (λ z. omega arith)

  feeds-are : (xs : List (List Cell)) → q.parts ≡ xs → replicate (cond (feed_at bs ns first) 1 0) feed ≡ feed_before xs l.outer
  unfolding feed_at
  feeds-are [] e =
      let n : length q.parts ≡ 0 = ap length e in
      let z = first-is in
      let y = parent_is in
      rw (le-ltb (get_or ns first 0 + 3) first (omega arith))
  feeds-are (x ∷ xs) e =
      let n : length q.parts ≡ suc (length xs) = ap length e in
      let z = first-is in
      let y = parent_is in
      rw (lt-ltb (get_or ns first 0 + 3) first (omega arith), outer-at) (feeds-inner (is_empty l.outer || ends_in_feed l.outer))

  closing-inner : closing_at bs ns table at top first ≡ closing l (q ∷ qs) now
  unfolding closing feeds_before
  closing-inner =
      closing-by-feeds before bs ns end table at top first second now sec l (q ∷ qs) h fit hb hn (cond (feed_at bs ns first) 1 0) 1 (rw not_end) (rw not_end)
      ∙ ap (λ (y : List Cell). y ++ (block l.ordered l.second (l.parts ++ now ∷ []) ++ feed ∷ [])) (feeds-are q.parts refl)

pub closing-is : (before : List Cell) (bs ns : List ℕ) (end table at top first : ℕ) (second : Bool) (now : List Cell) (sec : Bool) (l : Open) (ls : List Open)
    → Stands before bs ns end table at top first second (record { now = now; second = sec; lists = l ∷ ls }) → at ≤ end → end ≤ length bs → end ≤ length ns
    → closing_at bs ns table at top first ≡ closing l ls now
closing-is before bs ns end table at top first second now sec l [] h fit hb hn = closing-root before bs ns end table at top first second now sec l h fit hb hn
closing-is before bs ns end table at top first second now sec l (q ∷ qs) h fit hb hn = closing-inner before bs ns end table at top first second now sec l q qs h fit hb hn
