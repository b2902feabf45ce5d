-- The steps of the list machine, from slices that hold a state to slices that hold the next. Assumes nothing.
use mathlib.Core.Path.{◌≡◌, refl, sym, ap, ◌∙◌}
use mathlib.Core.Bool.{Bool, false}
use mathlib.Core.List.{List, [], ◌∷◌, ◌++◌, append-nil, append_assoc}
use Prim.Native.Nat.{ℕ, zero, suc, ◌+◌, ◌≤◌, ◌<◌}
use native.Mathlib.Nat.{le_refl, le_of_suc-le-suc, not-suc-le-zero}
use native.Mathlib.Omega.{arith}
use lib.ListN.{length, take, drop, set, length-append, length-set}
use lib.Seq.{length-slice}
use Rattle.text.proofs.Sources.{part-take}
use Rattle.text.specs.Cells.{Cell, cell, cells, part}
use Rattle.text.specs.Writes.{AppendsIn}
use Rattle.list_blocks.specs.declared.tag.Tag.{Tag}
use Rattle.list_blocks.specs.declared.tag.Tag.TheVariants.{Opener, Item, Closer}
use Rattle.list_blocks.specs.Tags.{rest_of}
use Rattle.list_blocks.specs.Blocks.{kind_of, between}
use Rattle.list_blocks.specs.Lists.{Open, State, started, closed}
use Rattle.list_blocks.proofs.Kept.{kept_table}
use Rattle.list_steps.specs.Standing.{strung, outers, contents, starts_from, frames, Stands, Steps, Ready, close_inner, kept, step_by, pushed}
use Rattle.list_steps.proofs.ListsSplit.{strung-snoc}
use Rattle.list_steps.proofs.Tables.{starts-snoc, table-push, table-size}
use Rattle.list_steps.proofs.Standings.{stands-end, at-is}
use Rattle.list_steps.proofs.Closes.{no_table, ready-framed}

-- ---- the source

pub ready-base : (bs ns : List ℕ) (base end table at top first : ℕ) (second : Bool) → Ready bs ns base end table at top first second → base ≤ at
ready-base bs ns base end table at top first second r =
    let e = stands-end r.before bs ns end table at top first second r.state r.holds r.fits r.within.0 r.within.1.0 in
    let n = length-append r.before (contents r.state) in
    let b = r.begins in
    omega arith

-- ---- text

pub keeps-step : (bs ns bs' ns' : List ℕ) (base end table at to top first : ℕ) (second : Bool) (i n : ℕ) → i ≤ length (cells bs ns)
    → length ns' ≡ length ns → AppendsIn bs ns end at bs' ns' to (part i (i + n) (cells bs ns))
    → Steps (kept (take n (drop i (cells bs ns)))) base bs ns end table at top first second bs' ns' to top first second
keeps-step bs ns bs' ns' base end table at to top first second i n hi same p = record {
  step = λ before s lb h.
      let x : List Cell = take n (drop i (cells bs ns)) in
      let e : (before ++ contents s) ++ x ≡ before ++ (outers s.lists ++ (s.now ++ x)) =
      append_assoc before (contents s) x ∙ ap (λ (y : List Cell). before ++ y) (append_assoc (outers s.lists) s.now x) in
      let r = h.reaches in
      record {
        text = rw (← e, ← part-take (cells bs ns) i n hi) (p.appends.step (before ++ contents s) h.text);
        rows = kept_table p table table top (λ _. h.apart) (le_refl table) ∙ h.rows;
        reaches = (r.0, omega arith);
        apart = h.apart;
        frame = h.frame;
        turn = h.turn;
      };
}

-- ---- the table grows, the contents stay

cells-behind : (bs ns : List ℕ) (i x end : ℕ) → end ≤ i → take end (cells bs (set ns i x)) ≡ take end (cells bs ns)
unfolding cells
cells-behind bs ns i x zero h = refl
cells-behind bs ns zero x (suc end) h = absurd (not-suc-le-zero h)
cells-behind [] ns (suc i) x (suc end) h = refl
cells-behind (b ∷ bs) [] (suc i) x (suc end) h = refl
cells-behind (b ∷ bs) (n ∷ ns) (suc i) x (suc end) h = ap (λ (l : List Cell). cell b n ∷ l) (cells-behind bs ns i x end (le_of_suc-le-suc h))

table-end : (before : List Cell) (bs ns : List ℕ) (end table at top first : ℕ) (second : Bool) (s : State) → Stands before bs ns end table at top first second s
    → top ≡ table + length (frames (length before) table s.lists).table
unfolding between
table-end before bs ns end table at top first second s h =
    let n = length-slice table top ns h.reaches.1 in
    let m : length (drop table (take top ns)) ≡ length (frames (length before) table s.lists).table = ap length h.rows in
    let r = h.reaches in
    omega arith

pub opens-step : (o : Bool) (ns : List ℕ) (at top first kind : ℕ) (second : Bool) → top + 3 ≤ length ns → kind ≡ kind_of o second
    → (n base end table : ℕ) (bs : List ℕ) (y : List Cell) → at ≤ end → end ≤ length bs
    → Steps (step_by (Opener n o) y) base bs ns end table at top first second bs (set (set (set ns top first) (top + 1) kind) (top + 2) at) at (top + 3) top false
unfolding outers strung frames starts_from
opens-step o ns at top first kind second room q n base end table bs y fit hb = record {
  step = λ before s lb h.
      let r = h.reaches in
      let z = h.apart in
      let ns₁ : List ℕ = set ns top first in
      let ns₂ : List ℕ = set (set ns top first) (top + 1) kind in
      let l₁ : length (set ns top first) ≡ length ns = length-set ns top first in
      let l₂ : length (set (set ns top first) (top + 1) kind) ≡ length ns = length-set (set ns top first) (top + 1) kind ∙ l₁ in
      let l₃ = length-set (set (set ns top first) (top + 1) kind) (top + 2) at in
      let e₂ : top + 1 + 1 ≡ top + 2 = omega arith in
      let e₃ : top + 2 + 1 ≡ top + 3 = omega arith in
      let t₁ : between table (top + 1) (set ns top first) ≡ between table top ns ++ first ∷ [] = table-push ns table top first r.0 (omega arith) in
      let t₂ : between table (top + 2) (set (set ns top first) (top + 1) kind) ≡ between table (top + 1) (set ns top first) ++ kind ∷ [] =
      ap (λ (k : ℕ). between table k (set (set ns top first) (top + 1) kind)) (sym e₂) ∙ table-push (set ns top first) table (top + 1) kind (omega arith) (omega arith) in
      let t₃ : between table (top + 3) (set (set (set ns top first) (top + 1) kind) (top + 2) at) ≡ between table (top + 2) (set (set ns top first) (top + 1) kind) ++ at ∷ [] =
      ap (λ (k : ℕ). between table k (set (set (set ns top first) (top + 1) kind) (top + 2) at)) (sym e₃) ∙ table-push (set (set ns top first) (top + 1) kind) table (top + 2) at (omega arith) (omega arith) in
      let w : take end (cells bs (set (set (set ns top first) (top + 1) kind) (top + 2) at)) ≡ take end (cells bs ns) =
      cells-behind bs (set (set ns top first) (top + 1) kind) (top + 2) at end (omega arith) ∙ cells-behind bs (set ns top first) (top + 1) kind end (omega arith) ∙ cells-behind bs ns top first end (omega arith) in
      let a : at ≡ length before + length (outers s.lists ++ s.now) =
      stands-end before bs ns end table at top first second s h fit hb (omega arith) ∙ length-append before (contents s) in
      let k : kind ≡ kind_of o s.second = q ∙ ap (kind_of o) h.turn in
      let rows : ((between table top ns ++ first ∷ []) ++ kind ∷ []) ++ at ∷ [] ≡ between table top ns ++ first ∷ kind ∷ at ∷ [] =
      append_assoc (between table top ns ++ first ∷ []) (kind ∷ []) (at ∷ []) ∙ append_assoc (between table top ns) (first ∷ []) (kind ∷ at ∷ []) in
      record {
        text = rw (w, append-nil (outers s.lists ++ s.now), append-nil (outers s.lists ++ s.now)) h.text;
        rows = t₃ ∙ ap (λ (l : List ℕ). l ++ at ∷ []) (t₂ ∙ ap (λ (l : List ℕ). l ++ kind ∷ []) t₁) ∙ rows ∙ rw (← h.rows, ← h.frame, ← k, ← a);
        reaches = (omega arith, omega arith);
        apart = h.apart;
        frame = table-end before bs ns end table at top first second s h;
        turn = refl;
      };
}

pub some-table : (before : List Cell) (bs ns : List ℕ) (end table at top first : ℕ) (second : Bool) (now : List Cell) (sec : Bool) (l : Open) (ls : List Open)
    → Stands before bs ns end table at top first second (record { now = now; second = sec; lists = l ∷ ls }) → table < top
unfolding frames
some-table before bs ns end table at top first second now sec l ls h =
    let t = table-size ns table top (frames (length before) table ls).table _ h.rows h.reaches in
    omega arith

-- ---- tags that stay text, and tags that count

pub stray-item : (y : List Cell) (bs ns bs' ns' : List ℕ) (base end table at to top first top' first' : ℕ) (second second' : Bool) → top ≡ table
    → Steps (kept (take 3 y)) base bs ns end table at top first second bs' ns' to top' first' second'
    → Steps (step_by Item y) base bs ns end table at top first second bs' ns' to top' first' second'
stray-item y bs ns bs' ns' base end table at to top first top' first' second second' e p = record { step = λ before s lb h. by before s.now s.second s.lists h (p.step before s lb h) }
  where
    by : (before now : List Cell) (sec : Bool) (ls : List Open) → Stands before bs ns end table at top first second (record { now = now; second = sec; lists = ls })
        → Stands before bs' ns' end table to top' first' second' (kept (take 3 y) (record { now = now; second = sec; lists = ls }))
        → Stands before bs' ns' end table to top' first' second' (started (take 3 y) (record { now = now; second = sec; lists = ls }) ls)
    by before now sec [] h k = k
    by before now sec (l ∷ ls) h k = absurd (let g = some-table before bs ns end table at top first second now sec l ls h in omega arith)

pub stray-closer : (y : List Cell) (bs ns bs' ns' : List ℕ) (base end table at to top first top' first' : ℕ) (second second' : Bool) → top ≡ table
    → Steps (kept (take 7 y)) base bs ns end table at top first second bs' ns' to top' first' second'
    → Steps (step_by Closer y) base bs ns end table at top first second bs' ns' to top' first' second'
stray-closer y bs ns bs' ns' base end table at to top first top' first' second second' e p = record { step = λ before s lb h. by before s.now s.second s.lists h (p.step before s lb h) }
  where
    by : (before now : List Cell) (sec : Bool) (ls : List Open) → Stands before bs ns end table at top first second (record { now = now; second = sec; lists = ls })
        → Stands before bs' ns' end table to top' first' second' (kept (take 7 y) (record { now = now; second = sec; lists = ls }))
        → Stands before bs' ns' end table to top' first' second' (closed (take 7 y) (record { now = now; second = sec; lists = ls }) ls)
    by before now sec [] h k = k
    by before now sec (l ∷ ls) h k = absurd (let g = some-table before bs ns end table at top first second now sec l ls h in omega arith)

pub counting-closer : (y : List Cell) (bs ns bs' ns' : List ℕ) (base end table at to top first top' first' : ℕ) (second second' : Bool) → table < top
    → Steps close_inner base bs ns end table at top first second bs' ns' to top' first' second'
    → Steps (step_by Closer y) base bs ns end table at top first second bs' ns' to top' first' second'
counting-closer y bs ns bs' ns' base end table at to top first top' first' second second' e p = record { step = λ before s lb h. by before s.now s.second s.lists h (p.step before s lb h) }
  where
    by : (before now : List Cell) (sec : Bool) (ls : List Open) → Stands before bs ns end table at top first second (record { now = now; second = sec; lists = ls })
        → Stands before bs' ns' end table to top' first' second' (close_inner (record { now = now; second = sec; lists = ls }))
        → Stands before bs' ns' end table to top' first' second' (closed (take 7 y) (record { now = now; second = sec; lists = ls }) ls)
    by before now sec [] h k = absurd (let g = no_table before bs ns end table at top first second _ refl h in omega arith)
    by before now sec (l ∷ ls) h k = k

pub counting-item : (y : List Cell) (bs ns : List ℕ) (base end table at top first : ℕ) (second : Bool) → table < top → top < length ns → at ≤ end → end ≤ length bs
    → Steps (step_by Item y) base bs ns end table at top first second bs (set ns top at) at (top + 1) first false
unfolding outers frames
counting-item y bs ns base end table at top first second e room fit hb = record { step = λ before s lb h. by before s.now s.second s.lists h }
  where
    by : (before now : List Cell) (sec : Bool) (ls : List Open) → Stands before bs ns end table at top first second (record { now = now; second = sec; lists = ls })
        → Stands before bs (set ns top at) end table at (top + 1) first false (started (take 3 y) (record { now = now; second = sec; lists = ls }) ls)
    by before now sec [] h = absurd (let g = no_table before bs ns end table at top first second _ refl h in omega arith)
    by before now sec (l ∷ ls) h =
        let p : ℕ = length before + length (outers ls ++ l.outer) in
        let r = h.reaches in
        let z = h.apart in
        let n = length-set ns top at in
        let a : at ≡ length before + length (outers ls ++ l.outer) + length (strung l.parts ++ now) = at-is before bs ns end table at top first second now sec l ls h fit hb (omega arith) in
        let text' : ((outers ls ++ l.outer) ++ strung (l.parts ++ now ∷ [])) ++ [] ≡ ((outers ls ++ l.outer) ++ strung l.parts) ++ now =
        append-nil ((outers ls ++ l.outer) ++ strung (l.parts ++ now ∷ [])) ∙ ap (λ (z : List Cell). (outers ls ++ l.outer) ++ z) (strung-snoc l.parts now)
        ∙ sym (append_assoc (outers ls ++ l.outer) (strung l.parts) now) in
        let starts' : starts_from p (l.parts ++ now ∷ []) ≡ starts_from p l.parts ++ at ∷ [] =
        starts-snoc p l.parts now ∙ ap (λ (k : ℕ). starts_from p l.parts ++ k ∷ []) (sym a) in
        record {
          text = rw (cells-behind bs ns top at end (omega (arith, r.0, z)), text') h.text;
          rows = table-push ns table top at r.0 room ∙ rw (starts') (ap (λ (z : List ℕ). z ++ at ∷ []) h.rows ∙ append_assoc (frames (length before) table ls).table _ (at ∷ []));
          reaches = (omega arith, omega arith);
          apart = h.apart;
          frame = h.frame;
          turn = refl;
        }

-- ---- what a step asks for

pub ready-first : (bs ns : List ℕ) (base end table at top first : ℕ) (second : Bool) → Ready bs ns base end table at top first second → first ≤ length ns
unfolding frames
ready-first bs ns base end table at top first second r = by r.state.lists refl
  where
    by : (ls : List Open) → r.state.lists ≡ ls → first ≤ length ns
    by [] e =
        let f : first ≡ table = r.holds.frame ∙ ap (λ (l : List Open). (frames (length r.before) table l).first) e in
        let w = r.holds.reaches in
        omega arith
    by (l ∷ ls) e =
        let g = some-table r.before bs ns end table at top first second r.state.now r.state.second l ls (rw (← e) r.holds) in
        let i = (ready-framed bs ns base end table at top first second r g).inner.1 in
        let w = r.holds.reaches.1 in
        omega arith

module _ (t u : Tag) (e : t ≡ u) (i base top k : ℕ) where
  pub room_of_lem : top + pushed t ≤ k → top + pushed u ≤ k
  room_of_lem h = rw e at h

  pub size_of : i + (1 + rest_of t) ≤ base → i + (1 + rest_of u) ≤ base
  size_of h = rw e at h
