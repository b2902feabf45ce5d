-- Closing the innermost list, from slices that hold a state to slices that hold the next. Assumes nothing.
use mathlib.Core.Path.{◌≡◌, refl, sym, ap, ◌∙◌}
use mathlib.Core.Bool.{Bool, not}
use mathlib.Core.List.{List, [], ◌∷◌, ◌++◌, append_assoc}
use Prim.Native.Nat.{ℕ, ◌+◌, ◌%◌, ◌≤◌, ◌<◌}
use native.Mathlib.Nat.{le_refl}
use native.Mathlib.Omega.{arith}
use native.Mathlib.Decide.{dec_le}
use lib.ListN.{length, take, drop, get_or, length-append}
use lib.Seq.{take_at, take-take, length-slice}
use lib.Dec.{eqb}
use Rattle.text.specs.Cells.{Cell, cells, part}
use Rattle.text.specs.Writes.{Holds, Appends, AppendsIn}
use Rattle.text.proofs.Writing.{holds_fits}
use Rattle.text.proofs.Areas.{area-length}
use Rattle.list_blocks.specs.Blocks.{between}
use Rattle.list_blocks.specs.Lists.{Open, State, closing, close}
use Rattle.list_blocks.proofs.Kept.{kept_table}
use Rattle.list_steps.specs.Standing.{strung, outers, contents, frames, Stands, Steps, Ready, closing_at, Framed, close_inner}
use Rattle.list_steps.proofs.Tables.{kind-second, table-front, table-size}
use Rattle.list_steps.proofs.Standings.{stands-end, stands-text, frame-parent, frame-kind, frame-start, frame_here, framed-here, closing-is}

-- ---- no list, no table

pub no_table : (before : List Cell) (bs ns : List ℕ) (end table at top first : ℕ) (second : Bool) (s : State) → s.lists ≡ [] → Stands before bs ns end table at top first second s → top ≡ table
unfolding frames between
no_table before bs ns end table at top first second s e h =
    let t : drop table (take top ns) ≡ [] = h.rows ∙ ap (λ (l : List Open). (frames (length before) table l).table) e in
    let n = length-slice table top ns h.reaches.1 in
    let m : length (drop table (take top ns)) ≡ 0 = ap length t in
    let r = h.reaches in
    omega arith

pub ready-framed : (bs ns : List ℕ) (base end table at top first : ℕ) (second : Bool) → Ready bs ns base end table at top first second → table < top → Framed bs ns table at top first
ready-framed bs ns base end table at top first second r lt = by r.state.lists refl
  where
    by : (ls : List Open) → r.state.lists ≡ ls → Framed bs ns table at top first
    by [] e = absurd (let n = no_table r.before bs ns end table at top first second r.state e r.holds in omega arith)
    by (l ∷ ls) e =
        framed-here r.before bs ns end table at top first second r.state.now r.state.second l ls
        (rw (← e) r.holds) r.fits r.within.0 r.within.1.0 r.within.1.1

-- the contents before a list stand behind the base
pub ready-start : (bs ns : List ℕ) (base end table at top first : ℕ) (second : Bool) → Ready bs ns base end table at top first second → table < top → base ≤ get_or ns (first + 2) 0
ready-start bs ns base end table at top first second r lt = by r.state.lists refl
  where
    by : (ls : List Open) → r.state.lists ≡ ls → base ≤ get_or ns (first + 2) 0
    by [] e = absurd (let n = no_table r.before bs ns end table at top first second r.state e r.holds in omega arith)
    by (l ∷ ls) e =
        let s = frame-start r.before bs ns end table at top first second r.state.now r.state.second l ls (rw (← e) r.holds) r.fits r.within.0 r.within.1.0 in
        let b = r.begins in
        omega (arith, s, b)

-- ---- the block over what the list held

-- a text appended to nothing
holds-all : {v v' t : List Cell} {n : ℕ} → Appends v 0 v' n t → Holds v' n t
holds-all {v} a = a.step [] (record { end = λ h. refl; text = λ h. refl; full = λ h. omega arith })

module _ (bs ns : List ℕ) (base end table at top first : ℕ) (second : Bool) (hb : end ≤ length bs) (hn : end ≤ length ns) (fit : at ≤ end) (lt : table < top)
    {o o' : List Cell} {size : ℕ} (a : Appends o 0 o' size (closing_at bs ns table at top first)) (turn : Bool) (q : turn ≡ not (eqb (get_or ns (first + 1) 0 % 2) 1)) where
  module _ (before : List Cell) (now : List Cell) (sec : Bool) (l : Open) (ls : List Open)
      (h : Stands before bs ns end table at top first second (record { now = now; second = sec; lists = l ∷ ls })) where
    up : List Cell
    up = before ++ (outers ls ++ l.outer)

    start : get_or ns (first + 2) 0 ≡ length up
    unfolding up
    start = frame-start before bs ns end table at top first second now sec l ls h fit hb hn ∙ sym (length-append before (outers ls ++ l.outer))

    old : before ++ contents (record { now = now; second = sec; lists = l ∷ ls }) ≡ up ++ (strung l.parts ++ now)
    unfolding outers up
    old =
        ap (λ (y : List Cell). before ++ y) (append_assoc (outers ls ++ l.outer) (strung l.parts) now)
        ∙ sym (append_assoc before (outers ls ++ l.outer) (strung l.parts ++ now))

    new : up ++ closing l ls now ≡ before ++ (outers ls ++ close l ls now)
    unfolding up
    new = append_assoc before (outers ls ++ l.outer) (closing l ls now) ∙ ap (λ (y : List Cell). before ++ y) (append_assoc (outers ls) l.outer (closing l ls now))

    fits-up : length up ≤ end
    fits-up =
        let e = stands-end before bs ns end table at top first second _ h fit hb hn in
        let n : length (before ++ contents (record { now = now; second = sec; lists = l ∷ ls })) ≡ length up + length (strung l.parts ++ now) = ap length old ∙ length-append up (strung l.parts ++ now) in
        omega arith

    text-up : take (length up) (take end (cells bs ns)) ≡ up
    text-up =
        let e = stands-end before bs ns end table at top first second _ h fit hb hn in
        let n : length (before ++ contents (record { now = now; second = sec; lists = l ∷ ls })) ≡ length up + length (strung l.parts ++ now) = ap length old ∙ length-append up (strung l.parts ++ now) in
        let le : length up ≤ at = omega arith in
        take-take (length up) end (cells bs ns) fits-up ∙ sym (take-take (length up) at (cells bs ns) le)
        ∙ ap (take (length up)) (stands-text before bs ns end table at top first second _ h fit hb hn ∙ old) ∙ take_at up (strung l.parts ++ now) (length up) refl

    -- the contents up to the list
    cut : Holds (take end (cells bs ns)) (get_or ns (first + 2) 0) up
    cut =
        let n = area-length bs ns end hb hn in
        let f = fits-up in
        record { end = λ _. start; text = λ _. ap (λ (k : ℕ). take k (take end (cells bs ns))) start ∙ text-up; full = λ g. absurd (omega arith) }

    is : closing_at bs ns table at top first ≡ closing l ls now
    is = closing-is before bs ns end table at top first second now sec l ls h fit hb hn

    turned : turn ≡ not l.second
    turned = q ∙ rw (frame-kind before bs ns end table at top first second now sec l ls h fit hb hn, kind-second l.ordered l.second)

    here : first ≡ table + length (frames (length before) table ls).table
    here = frame_here before bs ns end table at top first second now sec l ls h fit hb hn

    front : between table first ns ≡ (frames (length before) table ls).table
    unfolding frames
    front = ap (λ (k : ℕ). between table k ns) here ∙ table-front ns table top (frames (length before) table ls).table _ h.rows h.reaches

    first-in : (table ≤ first) × (first ≤ length ns)
    unfolding frames
    first-in =
        let e = here in
        let s = table-size ns table top (frames (length before) table ls).table _ h.rows h.reaches in
        let r = h.reaches in
        (omega arith, omega arith)

    -- it fits
    done-case : (bs' ns' : List ℕ) (to : ℕ) → length ns' ≡ length ns → size ≤ length o' → AppendsIn bs ns end (get_or ns (first + 2) 0) bs' ns' to (part 0 size o')
        → Stands before bs' ns' end table to first (get_or ns first 0) turn (record { now = close l ls now; second = not l.second; lists = ls })
    unfolding part
    done-case bs' ns' to n le p =
        let t : take size o' ≡ closing l ls now = (holds-all a).text (holds_fits o' size _ (holds-all a) le) ∙ is in
        let f = first-in in
        record {
          text = rw (← new, ← t) (p.appends.step up cut);
          rows = kept_table p table table first (λ _. h.apart) (le_refl table) ∙ front;
          reaches = (f.0, omega arith);
          apart = h.apart;
          frame = frame-parent before bs ns end table at top first second now sec l ls h fit hb hn;
          turn = turned;
        }

    -- it does not
    full-case : (r : ℕ) → length before ≡ base → base + length o' ≡ end → length o' < size → end < r
        → Stands before bs ns end table r first (get_or ns first 0) turn (record { now = close l ls now; second = not l.second; lists = ls })
    unfolding up
    full-case r lb m far out =
        let n = area-length bs ns end hb hn in
        let f = first-in in
        let k : length (before ++ (outers ls ++ close l ls now)) ≡ length before + (length (outers ls ++ l.outer) + length (closing_at bs ns table at top first)) =
        ap length (sym new) ∙ length-append up (closing l ls now) ∙ (let u = length-append before (outers ls ++ l.outer) in let w : length (closing_at bs ns table at top first) ≡ length (closing l ls now) = ap length is in omega arith) in
        let no_room : length (closing_at bs ns table at top first) ≤ length o' → ⊥ = λ g. (let e = (holds-all a).end g in omega arith) in
        let over : length o' < length (closing_at bs ns table at top first) = elim (dec_le (length (closing_at bs ns table at top first)) (length o')) [ yes y ↦ absurd (no_room y) | no z ↦ omega arith ] in
        record {
          text = record { end = λ g. absurd (omega arith); text = λ g. absurd (omega arith); full = λ g. omega arith };
          rows = front;
          reaches = f;
          apart = h.apart;
          frame = frame-parent before bs ns end table at top first second now sec l ls h fit hb hn;
          turn = turned;
        }

  pub closes-done : (bs' ns' : List ℕ) (to : ℕ) → length ns' ≡ length ns → size ≤ length o' → AppendsIn bs ns end (get_or ns (first + 2) 0) bs' ns' to (part 0 size o')
      → Steps close_inner base bs ns end table at top first second bs' ns' to first (get_or ns first 0) turn
  closes-done bs' ns' to n le p = record { step = λ before s lb h. by before s.now s.second s.lists h }
    where
      by : (before now : List Cell) (sec : Bool) (ls : List Open) → Stands before bs ns end table at top first second (record { now = now; second = sec; lists = ls })
          → Stands before bs' ns' end table to first (get_or ns first 0) turn (close_inner (record { now = now; second = sec; lists = ls }))
      by before now sec [] h = absurd (let e = no_table before bs ns end table at top first second _ refl h in omega arith)
      by before now sec (l ∷ ls) h = done-case before now sec l ls h bs' ns' to n le p

  pub closes-full : (r : ℕ) → base + length o' ≡ end → length o' < size → end < r → Steps close_inner base bs ns end table at top first second bs ns r first (get_or ns first 0) turn
  closes-full r m far out = record { step = λ before s lb h. by before s.now s.second s.lists lb h }
    where
      by : (before now : List Cell) (sec : Bool) (ls : List Open) → length before ≡ base → Stands before bs ns end table at top first second (record { now = now; second = sec; lists = ls })
          → Stands before bs ns end table r first (get_or ns first 0) turn (close_inner (record { now = now; second = sec; lists = ls }))
      by before now sec [] lb h = absurd (let e = no_table before bs ns end table at top first second _ refl h in omega arith)
      by before now sec (l ∷ ls) lb h = full-case before now sec l ls h r lb m far out
