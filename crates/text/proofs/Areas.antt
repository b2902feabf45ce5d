-- Laws of appending in an area of a longer pair of slices. Assumes nothing.
use mathlib.Core.Path.{◌≡◌, refl, sym, ap, ◌∙◌}
use Prim.Native.Nat.{ℕ, zero, suc, ◌+◌, ◌-◌, ◌≤◌, ◌<◌, min}
use native.Mathlib.Nat.{le_refl}
use native.Mathlib.Numerals.{unary_clauses}
use native.Mathlib.Omega.{arith}
use native.Mathlib.Decide.{dec_le}
use mathlib.Core.List.{List, [], ◌∷◌, ◌++◌, append-nil, append_assoc}
use lib.ListN.{length, take, drop, get_or, set, length-append, length-drop, length-take}
use lib.Seq.{paste, take-paste, drop-paste, take-set-lt, take-set-le, drop-set-lt, take-append-le, get_or-take, get_or-drop, length-take-le, take_all, take-take, take-nil, drop_at, drop-drop}
use Rattle.text.specs.Cells.{Cell, cell, cells, part, written}
use Rattle.text.specs.Writes.{Holds, Appends, AppendsIn, Apart, cut, Pasted}
use Rattle.text.proofs.Writing.{cells-set, cells-le, appends-none, appends-then, appends-set, appends-over, appends-run, cells-short, cells-short₂}
use Rattle.text.proofs.Numbering.{Placed, rest, written_start, written-turn, from_end}
use Rattle.text.proofs.Sources.{cells-taken, cells-dropped, cells-part}

pub appends_in-none : (bs ns : List ℕ) (end at : ℕ) → AppendsIn bs ns end at bs ns at []
appends_in-none bs ns end at = record { appends = appends-none (take end (cells bs ns)) at; bytes-before = refl; numbers-before = refl; bytes-behind = refl; numbers-behind = refl }

before-then : (xs xs₁ xs₂ : List ℕ) (at at₁ : ℕ) → at ≤ at₁ → take at xs₁ ≡ take at xs → take at₁ xs₂ ≡ take at₁ xs₁ → take at xs₂ ≡ take at xs
before-then xs xs₁ xs₂ at at₁ h p q = sym (take-take at at₁ xs₂ h) ∙ ap (take at) q ∙ take-take at at₁ xs₁ h ∙ p

pub appends_in-then : {bs ns bs₁ ns₁ bs₂ ns₂ : List ℕ} {end at at₁ at₂ : ℕ} {t₁ t₂ : List Cell}
    → AppendsIn bs ns end at bs₁ ns₁ at₁ t₁ → AppendsIn bs₁ ns₁ end at₁ bs₂ ns₂ at₂ t₂ → AppendsIn bs ns end at bs₂ ns₂ at₂ (t₁ ++ t₂)
appends_in-then {bs} {ns} {bs₁} {ns₁} {bs₂} {ns₂} {end} {at} {at₁} p q = record {
  appends = appends-then p.appends q.appends;
  bytes-before = before-then bs bs₁ bs₂ at at₁ p.appends.grows p.bytes-before q.bytes-before;
  numbers-before = before-then ns ns₁ ns₂ at at₁ p.appends.grows p.numbers-before q.numbers-before;
  bytes-behind = q.bytes-behind ∙ p.bytes-behind;
  numbers-behind = q.numbers-behind ∙ p.numbers-behind;
}

-- ---- room

whole : (bs ns : List ℕ) (end : ℕ) → end ≡ min (length bs) (length ns) → take end (cells bs ns) ≡ cells bs ns
whole bs ns end e =
    let a = cells-short bs ns in
    let b = cells-short₂ bs ns in
    take_all end (cells bs ns) (omega arith)

module _ (bs ns : List ℕ) (end : ℕ) (hb : end ≤ length bs) (hn : end ≤ length ns) where
  pub area-length : length (take end (cells bs ns)) ≡ end
  area-length = length-take-le end (cells bs ns) (cells-le bs ns end hb hn)

  -- a cell at a place within
  pub appends_in-set : (i b x : ℕ) → i < end → AppendsIn bs ns end i (set bs i b) (set ns i x) (i + 1) (cell b x ∷ [])
  appends_in-set i b x h =
      let l = area-length in
      record {
        appends = rw (cells-set, take-set-lt end (cells bs ns) i (cell b x) h) (appends-set (take end (cells bs ns)) i (cell b x) (omega arith));
        bytes-before = take-set-le i bs i b (le_refl i);
        numbers-before = take-set-le i ns i x (le_refl i);
        bytes-behind = drop-set-lt end bs i b h;
        numbers-behind = drop-set-lt end ns i x h;
      }

  -- more cells than fit
  pub appends_in-over : (i r : ℕ) (t : List Cell) → end < i + length t → end < r → i ≤ r → AppendsIn bs ns end i bs ns r t
  appends_in-over i r t h far up =
      let l = area-length in
      record { appends = appends-over (take end (cells bs ns)) i t r (omega arith) (omega arith) up; bytes-before = refl; numbers-before = refl; bytes-behind = refl; numbers-behind = refl }

  -- the whole of a pair of slices is an area
  pub area-whole : {bs' ns' : List ℕ} {at r : ℕ} {t : List Cell} → end ≡ min (length bs) (length ns) → length bs' ≡ length bs → length ns' ≡ length ns
      → AppendsIn bs ns end at bs' ns' r t → Appends (cells bs ns) at (cells bs' ns') r t
  area-whole {bs'} {ns'} e b n p = rw (← whole bs ns end e, ← whole bs' ns' end (omega arith)) p.appends

-- ---- a turn of a loop that copies

-- ---- a part that does not fit

pub part-size : (bs ns : List ℕ) (a e : ℕ) → a ≤ e → e ≤ length bs → e ≤ length ns → length (part a e (cells bs ns)) ≡ e - a
unfolding part
part-size bs ns a e h b n = rw (length-drop a (take e (cells bs ns)), length-take-le e (cells bs ns) (cells-le bs ns e b n))

pub part-over : {bs ns : List ℕ} {end : ℕ} (src from : List ℕ) (a e at : ℕ) → end ≤ length bs → end ≤ length ns → a ≤ e → e ≤ length src → e ≤ length from
    → end - at < e - a → end < 18446744073709551615 → at ≤ 18446744073709551615 → AppendsIn bs ns end at bs ns 18446744073709551615 (part a e (cells src from))
part-over {bs} {ns} {end} src from a e at b n h s f over far up =
    let z = part-size src from a e h s f in
    appends_in-over bs ns end b n at 18446744073709551615 (part a e (cells src from)) (omega (arith, over, z)) far up

-- ---- runs that are copied in blocks

cells-append : (xs ys xs' ys' : List ℕ) → length xs ≡ length ys → cells (xs ++ xs') (ys ++ ys') ≡ cells xs ys ++ cells xs' ys'
unfolding cells
cells-append [] [] xs' ys' e = refl
cells-append [] (y ∷ ys) xs' ys' e = absurd (omega (arith, e))
cells-append (x ∷ xs) [] xs' ys' e = absurd (omega (arith, e))
cells-append (x ∷ xs) (y ∷ ys) xs' ys' e = ap (λ (l : List Cell). cell x y ∷ l) (cells-append xs ys xs' ys' (omega (arith, e)))

before-run : (xs xs' t : List ℕ) (at n : ℕ) → length (take at xs) ≡ at → take (at + n) xs' ≡ take at xs ++ t → take at xs' ≡ take at xs
before-run xs xs' t at n k e =
    sym (take-take at (at + n) xs' (omega arith)) ∙ ap (take at) e ∙ take-append-le at (take at xs) t (omega (arith, k)) ∙ take-take at at xs (omega arith)

behind_more : (xs xs' : List ℕ) (k end : ℕ) → k ≤ end → drop k xs' ≡ drop k xs → drop end xs' ≡ drop end xs
behind_more xs xs' k end h e =
    let y : k + (end - k) ≡ end = omega arith in
    ap (λ (j : ℕ). drop j xs') (sym y) ∙ sym (drop-drop (end - k) k xs') ∙ ap (drop (end - k)) e ∙ drop-drop (end - k) k xs ∙ ap (λ (j : ℕ). drop j xs) y

module _ {bs ns bs' ns' : List ℕ} {end at : ℕ} (src from : List ℕ) (a e : ℕ) (h : a ≤ e) (hs : e ≤ length src) (hf : e ≤ length from) (room : at + (e - a) ≤ end)
    (hb : end ≤ length bs) (hn : end ≤ length ns) (sb : length bs' ≡ length bs) (sn : length ns' ≡ length ns) where
  -- a run whose bytes and numbers have been copied
  pub appends_in-run : take (at + (e - a)) bs' ≡ take at bs ++ take (e - a) (drop a src) → take (at + (e - a)) ns' ≡ take at ns ++ take (e - a) (drop a from)
      → drop end bs' ≡ drop end bs → drop end ns' ≡ drop end ns → AppendsIn bs ns end at bs' ns' (at + (e - a)) (part a e (cells src from))
  appends_in-run xb xn db dn =
      let n : ℕ = e - a in
      let tb : List ℕ = take n (drop a src) in
      let tn : List ℕ = take n (drop a from) in
      let t : List Cell = part a e (cells src from) in
      let z : length t ≡ n = part-size src from a e h hs hf in
      let ab : length (take at bs) ≡ at = length-take-le at bs (omega arith) in
      let an : length (take at ns) ≡ at = length-take-le at ns (omega arith) in
      let l = area-length bs ns end hb hn in
      let l' = area-length bs' ns' end (omega (arith, sb)) (omega (arith, sn)) in
      let x : take (at + n) (take end (cells bs' ns')) ≡ take at (take end (cells bs ns)) ++ t =
      take-take (at + n) end (cells bs' ns') (omega arith) ∙ sym (cells-taken (at + n) bs' ns') ∙ ap (λ (y : List ℕ). cells y (take (at + n) ns')) xb
      ∙ ap (λ (y : List ℕ). cells (take at bs ++ tb) y) xn ∙ cells-append (take at bs) (take at ns) tb tn (ab ∙ sym an)
      ∙ ap (λ (y : List Cell). y ++ cells tb tn) (cells-taken at bs ns ∙ sym (take-take at end (cells bs ns) (omega arith)))
      ∙ ap (λ (y : List Cell). take at (take end (cells bs ns)) ++ y) (cells-part src from a e h hs hf) in
      let r : Appends (take end (cells bs ns)) at (take end (cells bs' ns')) (at + length t) t =
      appends-run t (l' ∙ sym l) (omega (arith, z, l)) (ap (λ (j : ℕ). take (at + j) (take end (cells bs' ns'))) z ∙ x) in
      record { appends = rw z at r; bytes-before = before-run bs bs' tb at n ab xb; numbers-before = before-run ns ns' tn at n an xn; bytes-behind = db; numbers-behind = dn }

  -- in blocks
  pub appends_in-pasted : at + (e - a) + 15 ≤ end → Pasted bs at bs' (take (e - a) (drop a src)) → Pasted ns at ns' (take (e - a) (drop a from))
      → AppendsIn bs ns end at bs' ns' (at + (e - a)) (part a e (cells src from))
  appends_in-pasted more pb pn =
      let ds = length-drop a src in
      let df = length-drop a from in
      let lb : length (take (e - a) (drop a src)) ≡ e - a = length-take-le (e - a) (drop a src) (omega (arith, ds)) in
      let ln : length (take (e - a) (drop a from)) ≡ e - a = length-take-le (e - a) (drop a from) (omega (arith, df)) in
      appends_in-run (ap (λ (j : ℕ). take (at + j) bs') (sym lb) ∙ pb.text) (ap (λ (j : ℕ). take (at + j) ns') (sym ln) ∙ pn.text)
      (behind_more bs bs' (at + length (take (e - a) (drop a src)) + 15) end (omega (arith, lb)) pb.behind)
      (behind_more ns ns' (at + length (take (e - a) (drop a from)) + 15) end (omega (arith, ln)) pn.behind)

  -- by `copy_within`
  pub appends_in-copied : bs' ≡ paste bs at (drop a src) (e - a) → ns' ≡ paste ns at (drop a from) (e - a) → AppendsIn bs ns end at bs' ns' (at + (e - a)) (part a e (cells src from))
  appends_in-copied qb qn =
      let ds = length-drop a src in
      let df = length-drop a from in
      appends_in-run (rw qb (take-paste bs at (drop a src) (e - a) (omega arith) (omega (arith, ds)))) (rw qn (take-paste ns at (drop a from) (e - a) (omega arith) (omega (arith, df))))
      (behind_more bs bs' (at + (e - a)) end room (rw qb (drop-paste bs at (drop a src) (e - a) (omega arith) (omega (arith, ds)))))
      (behind_more ns ns' (at + (e - a)) end room (rw qn (drop-paste ns at (drop a from) (e - a) (omega arith) (omega (arith, df)))))

-- ---- what stands outside of the area

-- an area was written, and what that makes is known otherwise
pub lifts : {bs ns bs' ns' : List ℕ} {end at r r' : ℕ} {t t' : List Cell}
    → AppendsIn bs ns end at bs' ns' r t → Appends (take end (cells bs ns)) at (take end (cells bs' ns')) r' t' → AppendsIn bs ns end at bs' ns' r' t'
lifts p a = record { appends = a; bytes-before = p.bytes-before; numbers-before = p.numbers-before; bytes-behind = p.bytes-behind; numbers-behind = p.numbers-behind }

pub appends_in-as : {bs ns bs' ns' : List ℕ} {end at r : ℕ} {t u : List Cell} → t ≡ u → AppendsIn bs ns end at bs' ns' r t → AppendsIn bs ns end at bs' ns' r u
appends_in-as e p = rw (← e) p

pub apart-on : {a e at at' end : ℕ} → Apart a e at end → at ≤ at' → Apart a e at' end
apart-on f h lt = f (omega arith)

-- a part that ends before the place
pub apart-before : {a e at end : ℕ} → e ≤ at → Apart a e at end
apart-before h lt = absurd (omega arith)

pub drop-take : {A : Type 0} (a e : ℕ) (s : List A) → drop a (take e s) ≡ take (e - a) (drop a s)
drop-take zero e s = simp unary_clauses refl
drop-take (suc a) zero s = let z : 0 - suc a ≡ 0 = omega arith in rw z
drop-take (suc a) (suc e) [] = simp unary_clauses (sym (take-nil (e - a)))
drop-take (suc a) (suc e) (x ∷ s) = simp unary_clauses (drop-take a e s)

module _ {bs ns bs' ns' : List ℕ} {end at r : ℕ} {t : List Cell} (a e : ℕ) (f : Apart a e at end) (p : AppendsIn bs ns end at bs' ns' r t) where
  apart-list : (xs xs' : List ℕ) → take at xs' ≡ take at xs → drop end xs' ≡ drop end xs → drop a (take e xs') ≡ drop a (take e xs)
  apart-list xs xs' before behind =
      elim (dec_le e at) [
        | yes h ↦ ap (drop a) (sym (take-take e at xs' h) ∙ ap (take e) before ∙ take-take e at xs h)
        | no n ↦ drop-take a e xs' ∙ ap (take (e - a)) (behind_more xs xs' end a (f (omega arith)) behind) ∙ sym (drop-take a e xs)
      ]

  pub apart-bytes : drop a (take e bs') ≡ drop a (take e bs)
  apart-bytes = apart-list bs bs' p.bytes-before p.bytes-behind

  pub apart-numbers : drop a (take e ns') ≡ drop a (take e ns)
  apart-numbers = apart-list ns ns' p.numbers-before p.numbers-behind

  pub apart-cut : cut a e bs' ≡ cut a e bs
  apart-cut = sym (drop-take a e bs') ∙ apart-bytes ∙ drop-take a e bs

  pub apart-cells : part a e (cells bs' ns') ≡ part a e (cells bs ns)
  unfolding part
  apart-cells = sym (in_cells bs' ns') ∙ ap (λ (l : List ℕ). cells l (drop a (take e ns'))) apart-bytes ∙ ap (cells (drop a (take e bs))) apart-numbers ∙ in_cells bs ns
    where
      in_cells : (xs ys : List ℕ) → cells (drop a (take e xs)) (drop a (take e ys)) ≡ drop a (take e (cells xs ys))
      in_cells xs ys = cells-dropped a (take e xs) (take e ys) ∙ ap (drop a) (cells-taken e xs ys)

-- one element
module _ {bs ns bs' ns' : List ℕ} {end at r : ℕ} {t : List Cell} (i : ℕ) (f : Apart i (i + 1) at end) (p : AppendsIn bs ns end at bs' ns' r t) where
  apart-one : (xs xs' : List ℕ) → take at xs' ≡ take at xs → drop end xs' ≡ drop end xs → get_or xs' i 0 ≡ get_or xs i 0
  apart-one xs xs' before behind =
      elim (dec_le (i + 1) at) [
        | yes h ↦ sym (get_or-take at xs' i 0 (omega arith)) ∙ ap (λ (l : List ℕ). get_or l i 0) before ∙ get_or-take at xs i 0 (omega arith)
        | no n ↦ (let h : end ≤ i = f (omega arith) in let z : end + (i - end) ≡ i = omega arith in
            ap (λ (j : ℕ). get_or xs' j 0) (sym z) ∙ sym (get_or-drop end xs' (i - end) 0) ∙ ap (λ (l : List ℕ). get_or l (i - end) 0) behind ∙ get_or-drop end xs (i - end) 0 ∙ ap (λ (j : ℕ). get_or xs j 0) z)
      ]

  pub apart-byte : get_or bs' i 0 ≡ get_or bs i 0
  apart-byte = apart-one bs bs' p.bytes-before p.bytes-behind

  pub apart-number : get_or ns' i 0 ≡ get_or ns i 0
  apart-number = apart-one ns ns' p.numbers-before p.numbers-behind

-- ---- a loop that appends in an area: what is still to be written (rest) of all that is to be appended (whole)

pub record WritingIn (bs ns : List ℕ) (end at : ℕ) (bs' ns' : List ℕ) (at' : ℕ) (rest whole : List Cell) : Type 0 where
  pub past : List Cell
  pub wrote : AppendsIn bs ns end at bs' ns' at' past
  pub parts : past ++ rest ≡ whole

pub start_in : (bs ns : List ℕ) (end at : ℕ) (whole : List Cell) → WritingIn bs ns end at bs ns at whole whole
start_in bs ns end at whole = record { past = []; wrote = appends_in-none bs ns end at; parts = refl }

pub more_in : {bs ns bs₁ ns₁ bs₂ ns₂ : List ℕ} {end at at₁ at₂ : ℕ} {old t rest whole : List Cell}
    → WritingIn bs ns end at bs₁ ns₁ at₁ old whole → old ≡ t ++ rest → AppendsIn bs₁ ns₁ end at₁ bs₂ ns₂ at₂ t → WritingIn bs ns end at bs₂ ns₂ at₂ rest whole
more_in {t} {rest} w e a = record { past = w.past ++ t; wrote = appends_in-then w.wrote a; parts = append_assoc w.past t rest ∙ ap (λ (l : List Cell). w.past ++ l) (sym e) ∙ w.parts }

pub done_in : {bs ns bs' ns' : List ℕ} {end at at' : ℕ} {rest whole : List Cell} → WritingIn bs ns end at bs' ns' at' rest whole → rest ≡ [] → AppendsIn bs ns end at bs' ns' at' whole
done_in w e = appends_in-as (sym (append-nil w.past) ∙ ap (λ (l : List Cell). w.past ++ l) (sym e) ∙ w.parts) w.wrote

-- ---- a text from the same pair of slices

-- v: the bytes now; what is left of the text is what stood there at the start
pub within_text : {bs ns bs' ns' : List ℕ} {end at to : ℕ} {past : List Cell} (more f more' i e : ℕ) → AppendsIn bs ns end at bs' ns' to past → Apart i e at end → i < e → e ≤ length bs'
    → Placed more (drop i (take e bs')) f more' → rest more (drop i (take e bs)) ≡ (cell (get_or bs' i 0) f ∷ []) ++ rest more' (drop (i + 1) (take e bs))
within_text {bs} {ns} {bs'} {ns'} {end} more f more' i e p k lt le h =
    let l : length (take e bs') ≡ e = length-take-le e bs' le in
    let x : drop i (take e bs') ≡ drop i (take e bs) = apart-bytes i e k p in
    let y : drop (i + 1) (take e bs') ≡ drop (i + 1) (take e bs) = apart-bytes (i + 1) e (λ q. let z = k q in omega arith) p in
    rw (sym x, sym y, sym (get_or-take e bs' i 0 lt)) (written-turn more f more' i (take e bs') (omega (arith, l)) h)

pub within-text-start : (a e : ℕ) (s : List ℕ) → written (cut a e s) ≡ rest 0 (drop a (take e s))
within-text-start a e s = ap written (sym (drop-take a e s)) ∙ written_start (drop a (take e s))

pub within-text-end : (more i e : ℕ) (s : List ℕ) → e ≤ i → rest more (drop i (take e s)) ≡ []
within-text-end more i e s h = let l = length-take e s in from_end (λ o. o) 0 more i (take e s) (omega (arith, l))

-- ---- what has been appended stands from the place on, where it fits

pub stands-appended : {bs ns bs' ns' : List ℕ} {end at r : ℕ} {t : List Cell} → at ≤ end → end ≤ length bs → end ≤ length ns → length bs' ≡ length bs → length ns' ≡ length ns
    → AppendsIn bs ns end at bs' ns' r t → (at + length t ≤ end → (r ≡ at + length t) × (part at r (cells bs' ns') ≡ t)) × (end < at + length t → end < r)
unfolding part
stands-appended {bs} {ns} {bs'} {ns'} {end} {at} {r} {t} ha hb hn sb sn p =
    let v : List Cell = take end (cells bs ns) in
    let v' : List Cell = take end (cells bs' ns') in
    let k : length v ≡ end = area-length bs ns end hb hn in
    let k' : length v' ≡ end = area-length bs' ns' end (omega (arith, sb, hb)) (omega (arith, sn, hn)) in
    let l : length (take at v) ≡ at = length-take-le at v (omega (arith, k, ha)) in
    let m = length-append (take at v) t in
    let h : Holds v' r (take at v ++ t) = p.appends.step (take at v) (record { end = λ _. sym l; text = λ _. refl; full = λ lt. absurd (omega (arith, lt, l, k, ha)) }) in (
      λ f. (let e = h.end (omega (arith, f, k', l, m)) in (omega (arith, e, l, m), ap (drop at) (sym (take-take r end (cells bs' ns') (omega (arith, e, f, l, m))) ∙ h.text (omega (arith, f, k', l, m))) ∙ drop_at (take at v) t at l)),
      λ f. (let e = h.full (omega (arith, f, k', l, m)) in omega (arith, e, k')),
    )
