-- Laws of closing a list: the block is built behind the contents and before the table, and copied back. Assumes nothing.
use mathlib.Core.Path.{◌≡◌, refl, sym, ap, ◌∙◌}
use mathlib.Core.Bool.{Bool, true, false, cond, not}
use mathlib.Core.List.{List, [], ◌∷◌, ◌++◌}
use Prim.Native.Nat.{ℕ, ◌+◌, ◌-◌, ◌%◌, ◌≤◌, ◌<◌}
use native.Mathlib.Nat.{le_refl}
use native.Mathlib.Omega.{arith}
use lib.ListN.{length, take, drop, get_or, replicate, length-append, length-drop}
use lib.Seq.{length-take-le, take-take, drop_at}
use lib.Dec.{eqb, leb}
use borrow.Author.Tests.{eqb-false}
use Rattle.text.specs.Cells.{Cell, cells, part, feed}
use Rattle.text.specs.Writes.{Holds, Appends, AppendsIn}
use Rattle.text.specs.Writers.{Wrote}
use Rattle.text.specs.declared.writer.Writer.{Writer}
use Rattle.text.proofs.Areas.{appends_in-then, appends_in-as, apart-number, area-length, drop-take}
use Rattle.list_blocks.specs.Blocks.{block, between, parts_in}
use Rattle.list_blocks.specs.Lists.{State}
use Rattle.list_blocks.proofs.Kept.{kept-part, kept_table, kept-parts}
use Rattle.list_steps.specs.Standing.{feed_at, feeds_before, closing_at, Framed, Stands, Ready, Steps, close_inner}
use Rattle.list_steps.proofs.Closes.{ready-framed, ready-start, closes-done, closes-full}

-- the frames stand behind the area
behind-table : {bs ns : List ℕ} {limit table at top first : ℕ} → Framed bs ns table at top first → limit ≤ table → limit ≤ first + 2
behind-table fr h = let i = fr.inner.0 in omega arith

-- what a writer has appended stands in the slices that it held
pub left : {w w' : Writer} {t : List Cell} {bs' ns' : List ℕ} → Wrote w w' t → bs' ≡ w'.bytes.now → ns' ≡ w'.numbers.now → AppendsIn w.bytes.now w.numbers.now w.end w.at.0 bs' ns' w'.at.0 t
left p e f = rw (e, f) p.text

-- ---- building

-- line feeds, the block, whose parts and table are read in what stands there then, and line feeds
pub closing-in : {bs ns bs₁ ns₁ bs₂ ns₂ bs₃ ns₃ : List ℕ} {limit end to₁ to₂ to₃ before behind : ℕ} {o s : Bool} (table at top first : ℕ)
    → Framed bs ns table at top first → at ≤ end → limit ≤ table
    → before ≡ feeds_before bs ns first table → behind ≡ cond (eqb first table) 2 1 → o ≡ leb 2 (get_or ns (first + 1) 0) → s ≡ eqb (get_or ns (first + 1) 0 % 2) 1
    → AppendsIn bs ns limit end bs₁ ns₁ to₁ (replicate before feed) → AppendsIn bs₁ ns₁ limit to₁ bs₂ ns₂ to₂ (block o s (parts_in (cells bs₁ ns₁) (between (first + 2) top ns₁) at))
    → AppendsIn bs₂ ns₂ limit to₂ bs₃ ns₃ to₃ (replicate behind feed) → AppendsIn bs ns limit end bs₃ ns₃ to₃ (closing_at bs ns table at top first)
unfolding closing_at
closing-in {bs} {ns} {bs₁} {ns₁} {o} {s} table at top first fr ha ht qb qh qo qs p q r =
    let t : parts_in (cells bs₁ ns₁) (between (first + 2) top ns₁) at ≡ parts_in (cells bs ns) (between (first + 2) top ns) at =
    ap (λ (l : List ℕ). parts_in (cells bs₁ ns₁) l at) (kept_table p (first + 2) (first + 2) top (λ _. behind-table fr ht) (le_refl (first + 2))) ∙ kept-parts p (between (first + 2) top ns) at ha fr.rises in
    let u = appends_in-as (ap (block o s) t) q in
    rw (← qb, ← qh, ← qo, ← qs) (appends_in-then p (appends_in-then u r))

-- ---- a text that stands from a place on

-- it is held in the cells from there on
holds-from : (v : List Cell) (n area : ℕ) (front t : List Cell) → length front ≡ area → area ≤ length v → Holds v n (front ++ t) → Holds (drop area v) (n - area) t
holds-from v n area front t e le h =
    let d = length-drop area v in
    let l = length-append front t in
    record {
      end = λ f. (let g = h.end (omega arith) in omega arith);
      text = λ f. sym (drop-take area n v) ∙ ap (drop area) (h.text (omega arith)) ∙ drop_at front t area e;
      full = λ f. (let g = h.full (omega arith) in omega arith);
    }

-- and has been appended to nothing
appends-nothing : {v t : List Cell} {n : ℕ} → Holds v n t → Appends [] 0 v n t
appends-nothing {v} {t} {n} h = record { step = by; keeps = refl; grows = omega arith }
  where
    by : (s : List Cell) → Holds [] 0 s → Holds v n (s ++ t)
    by [] g = h
    by (c ∷ s) g = absurd (let z = g.full (omega arith) in omega arith)

-- ---- what stands before and behind the area stays

module _ {bs ns bs₁ ns₁ : List ℕ} {limit end size : ℕ} {t : List Cell} (p : AppendsIn bs ns limit end bs₁ ns₁ size t) where
  kept-number : (i : ℕ) → limit ≤ i → get_or ns₁ i 0 ≡ get_or ns i 0
  kept-number i h = apart-number i (λ _. h) p

  cells-kept : (e : ℕ) → e ≤ end → take e (cells bs₁ ns₁) ≡ take e (cells bs ns)
  unfolding part
  cells-kept e h = kept-part p 0 e h

  stands_on : (before : List Cell) (table at top first : ℕ) (second : Bool) (s : State) → limit ≤ table → length ns₁ ≡ length ns
      → Stands before bs ns end table at top first second s → Stands before bs₁ ns₁ end table at top first second s
  stands_on before table at top first second s ht sn h =
      let r = h.reaches in
      record {
        text = rw (cells-kept end (le_refl end)) h.text;
        rows = kept_table p table table top (λ _. ht) (le_refl table) ∙ h.rows;
        reaches = (r.0, omega (arith, r.1, sn));
        apart = h.apart;
        frame = h.frame;
        turn = h.turn;
      }

  -- what a list gives is the same by the table that stands there then; the number before its frame is looked at where another frame stands there
  module _ (table at top first : ℕ) (fr : Framed bs ns table at top first) (ha : at ≤ end) (ht : limit ≤ table) where
    feed-kept : (first ≡ table → ⊥) → feed_at bs₁ ns₁ first ≡ feed_at bs ns first
    unfolding feed_at
    feed-kept ne =
        let i = fr.inner in
        let s = fr.start in
        rw (
          kept-number first (omega arith),
          kept-number (first - 1) (omega arith),
          kept-number (first + 2) (omega arith),
          kept-part p (get_or ns (first - 1) 0) (get_or ns (first + 2) 0) (omega arith),
        )

    feeds-kept : feeds_before bs₁ ns₁ first table ≡ feeds_before bs ns first table
    unfolding feeds_before
    feeds-kept = by (eqb first table) refl
      where
        by : (t : Bool) → eqb first table ≡ t → ◌≡◌ {A = ℕ} (cond t 2 (cond (feed_at bs₁ ns₁ first) 1 0)) (cond t 2 (cond (feed_at bs ns first) 1 0))
        by true e = refl
        by false e = ap (λ (b : Bool). cond b 1 0) (feed-kept (eqb-false first table e))

    closing-kept : closing_at bs₁ ns₁ table at top first ≡ closing_at bs ns table at top first
    unfolding closing_at
    closing-kept =
        let i = fr.inner in
        rw (
          feeds-kept,
          kept-number (first + 1) (omega arith),
          kept_table p (first + 2) (first + 2) top (λ _. behind-table fr ht) (le_refl (first + 2)),
          kept-parts p (between (first + 2) top ns) at ha fr.rises,
        )

-- ---- closing

module _ {bs ns bs₁ ns₁ : List ℕ} {base end table at top first limit size : ℕ} {second : Bool} (r : Ready bs ns base end table at top first second) (lt : table < top) (ha : limit ≤ table)
    (hr : base + limit ≡ end + end) (lb : limit ≤ length bs) (ln : limit ≤ length ns) (sb : length bs₁ ≡ length bs) (sn : length ns₁ ≡ length ns)
    (p : AppendsIn bs ns limit end bs₁ ns₁ size (closing_at bs ns table at top first)) (turn : Bool) (q : turn ≡ not (eqb (get_or ns (first + 1) 0 % 2) 1)) where
  fr : Framed bs ns table at top first
  fr = ready-framed bs ns base end table at top first second r lt

  order : (at ≤ end) × (end ≤ limit)
  order =
      let f = r.fits in
      let b = ready-start bs ns base end table at top first second r lt in
      let s = fr.start in
      (omega arith, omega arith)

  o : List Cell
  o = drop end (take limit (cells bs₁ ns₁))

  area-size : length (take limit (cells bs₁ ns₁)) ≡ limit
  area-size = area-length bs₁ ns₁ limit (omega (arith, sb, lb)) (omega (arith, sn, ln))

  o-length : length o ≡ limit - end
  unfolding o
  o-length = let d = length-drop end (take limit (cells bs₁ ns₁)) in let l = area-size in omega arith

  built : Appends [] 0 o (size - end) (closing_at bs₁ ns₁ table at top first)
  unfolding o
  built =
      let m = area-length bs ns limit lb ln in
      let w = order in
      let front : List Cell = take end (take limit (cells bs ns)) in
      let l : length front ≡ end = length-take-le end (take limit (cells bs ns)) (omega (arith, m, w.1)) in
      let k = area-size in
      let h : Holds (take limit (cells bs₁ ns₁)) size (front ++ closing_at bs ns table at top first) =
      p.appends.step front (record { end = λ _. sym l; text = λ _. refl; full = λ f. absurd (omega (arith, f, l, m, w.1)) }) in
      rw (closing-kept p table at top first fr w.0 ha)
      (appends-nothing (holds-from (take limit (cells bs₁ ns₁)) size end front (closing_at bs ns table at top first) l (omega (arith, k, w.1)) h))

  bs₁-size : end ≤ length bs₁
  bs₁-size = let w = r.within.0 in omega (arith, w, sb)

  ns₁-size : end ≤ length ns₁
  ns₁-size = let w = r.within.1.0 in omega (arith, w, sn)

  number : (i : ℕ) → first ≤ i → get_or ns₁ i 0 ≡ get_or ns i 0
  number i h = let f = fr.inner.0 in kept-number p i (omega arith)

  turned : turn ≡ not (eqb (get_or ns₁ (first + 1) 0 % 2) 1)
  turned = q ∙ ap (λ (n : ℕ). not (eqb (n % 2) 1)) (sym (number (first + 1) (omega arith)))

  from-entry : {bs' ns' : List ℕ} {to : ℕ} → Steps close_inner base bs₁ ns₁ end table at top first second bs' ns' to first (get_or ns₁ first 0) turn
      → Steps close_inner base bs ns end table at top first second bs' ns' to first (get_or ns first 0) turn
  from-entry {bs'} {ns'} {to} g =
      record { step = λ before s e h. rw (← number first (omega arith)) (g.step before s e (stands_on p before table at top first second s ha sn h)) }

  pub closes-full-in : (to : ℕ) → limit < size → end < to → Steps close_inner base bs ns end table at top first second bs₁ ns₁ to first (get_or ns first 0) turn
  closes-full-in to far out =
      let l = o-length in
      let w = order in
      from-entry (closes-full bs₁ ns₁ base end table at top first second bs₁-size ns₁-size r.fits lt built turn turned to (omega (arith, l, w.1, hr)) (omega (arith, l, w.1, far)) out)

  copied : size ≤ limit → part end size (cells bs₁ ns₁) ≡ part 0 (size - end) o
  unfolding part o
  copied fit =
      drop-take end size (cells bs₁ ns₁) ∙ sym (take-take (size - end) (limit - end) (drop end (cells bs₁ ns₁)) (omega arith))
      ∙ ap (take (size - end)) (sym (drop-take end limit (cells bs₁ ns₁)))

  pub closes-done-in : (bs' ns' : List ℕ) (to : ℕ) → length ns' ≡ length ns₁ → size ≤ limit → AppendsIn bs₁ ns₁ end (get_or ns (first + 2) 0) bs' ns' to (part end size (cells bs₁ ns₁))
      → Steps close_inner base bs ns end table at top first second bs' ns' to first (get_or ns first 0) turn
  closes-done-in bs' ns' to n fit a =
      let l = o-length in
      let b : AppendsIn bs₁ ns₁ end (get_or ns₁ (first + 2) 0) bs' ns' to (part 0 (size - end) o) = rw (number (first + 2) (omega arith), sym (copied fit)) a in
      from-entry (closes-done bs₁ ns₁ base end table at top first second bs₁-size ns₁-size r.fits lt built turn turned bs' ns' to n (omega (arith, l, fit)) b)
