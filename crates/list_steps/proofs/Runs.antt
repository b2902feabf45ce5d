-- A run of the list machine in the slices. Assumes nothing.
use mathlib.Core.Path.{◌≡◌, refl, sym, ap, ◌∙◌}
use mathlib.Core.Bool.{Bool, true, false, cond, ◌&&◌}
use mathlib.Core.List.{List, [], ◌∷◌, ◌++◌, append-nil}
use Prim.Native.Nat.{ℕ, suc, ◌+◌, ◌-◌, ◌≤◌, ◌<◌, max}
use native.Mathlib.Omega.{arith}
use native.Mathlib.Decide.{dec_le}
use lib.ListN.{length, take, drop, length-append, length-drop, length-map}
use lib.Seq.{take_at, drop_at, take-take, drop-drop, length-slice, length-take-le, slice_empty}
use lib.Dec.{ltb}
use borrow.Author.Tests.{ltb-true}
use Rattle.text.specs.Ascii.{ascii, begins, is, to_first, to_bracket}
use Rattle.text.specs.Bounds.{number_most}
use Rattle.text.specs.Cells.{Cell, cells, bytes, part}
use Rattle.text.specs.Lines.{trim}
use Rattle.text.proofs.Writing.{cells-le, part_end}
use Rattle.text.proofs.Areas.{area-length}
use Rattle.list_blocks.specs.declared.tag.Tag.{Tag}
use Rattle.list_blocks.specs.declared.tag.Tag.TheVariants.{Opener, Item, Closer, Plain}
use Rattle.list_blocks.specs.Tags.{Token, tag_at, valued, is_one, value_of, token_of, rest_of, tokens, pushed_by, pushes, too_deep}
use Rattle.list_blocks.specs.Blocks.{between}
use Rattle.list_blocks.specs.Lists.{Open, State, nothing, started, closed, step, finish, run, lists, held, finish_need, run_need, lists_need}
use Rattle.list_steps.specs.Standing.{outers, contents, frames, Stands, Steps, Ready, close_inner, kept, step_by, rest_with, take_by, pushed, Running, Written, Passes, Ends, lent}
use Rattle.list_steps.specs.declared.pass.Passed.{Passed}
use Rattle.lending.specs.declared.lent.Refusal.{Refusal}
use Rattle.lending.specs.declared.lent.Refusal.TheVariants.{TooDeep, NoSpace}
use Rattle.std.specs.Prelude.{Result, Ok, Err}
use Rattle.list_steps.proofs.Needs.{tokens-skip, outers-held, need-least}
use Rattle.list_steps.proofs.Texts.{tokens-text, tail-bytes, more-run, more-need, take-with, rest-size, rest-least}
use Rattle.list_steps.proofs.Standings.{stands-end, stands-text}
use Rattle.list_blocks.proofs.Values.{begins-long, cells-bytes}
use Rattle.list_steps.proofs.Closes.{no_table}
use Rattle.text.proofs.Sources.{cells-sub, part-take}
use Rattle.list_steps.proofs.Steppings.{some-table}

-- ---- sizes

abbrev size_of : State → ℕ
size_of s = held s.lists + length s.now

size_is : (s : State) → length (contents s) ≡ size_of s
size_is s = length-append (outers s.lists) s.now ∙ ap (λ (k : ℕ). k + length s.now) (outers-held s.lists)

module _ (x before : List Cell) (bs ns : List ℕ) (base end table at top first : ℕ) (second : Bool) (seen : ℕ) (ks : List Token)
    (w : Running x before bs ns end table at top first second seen ks) (lb : length before ≡ base) (fit : at ≤ end) (hb : end ≤ length bs) (hn : end ≤ length ns) where
  pub base-within : base ≤ at
  base-within =
      let e = stands-end before bs ns end table at top first second w.state w.holds fit hb hn in
      let n = length-append before (contents w.state) in
      omega arith

  -- how many cells stand there now
  now-size : at - base ≡ size_of w.state
  now-size =
      let e = stands-end before bs ns end table at top first second w.state w.holds fit hb hn in
      let n = length-append before (contents w.state) in
      let z = size_is w.state in
      omega arith

  -- a step that does not change the end
  module _ (ks' : List Token) (s' : State) (r : run ks w.state ≡ run ks' s') (n : run_need ks w.state ≡ max (size_of w.state) (run_need ks' s'))
      (bs' ns' : List ℕ) (at' top' first' : ℕ) (second' : Bool) (h : Stands before bs' ns' end table at' top' first' second' s') where
    pub goes_on : (seen' : ℕ) → seen' ≡ max seen (at - base) → Running x before bs' ns' end table at' top' first' second' seen' ks'
    goes_on seen' e =
        let z = now-size in
        let k = w.need in
        record { state = s'; holds = h; need = omega arith; same = w.same ∙ r }

    pub overflows : end ≤ length bs' → end ≤ length ns' → end < at' → end - base < lists_need x
    overflows hb' hn' far =
        let b = base-within in
        let l = area-length bs' ns' end hb' hn' in
        let c = length-append before (contents s') in
        let z = size_is s' in
        let y = need-least ks' s' in
        let k = w.need in
        let no_room : length (before ++ contents s') ≤ end → ⊥ = λ g. (let e = h.text.end (omega arith) in omega arith) in
        let over : end - base < size_of s' = elim (dec_le (size_of s') (end - base)) [ yes g ↦ absurd (no_room (omega arith)) | no g ↦ omega arith ] in
        omega arith

-- all is closed
pub ends-done : (x before : List Cell) (bs ns : List ℕ) (base end table at top first : ℕ) (second : Bool) (seen : ℕ)
    (w : Running x before bs ns end table at top first second seen []) → w.state.lists ≡ [] → length before ≡ base → at ≤ end → end ≤ length bs → end ≤ length ns
    → seen ≤ end - base → (need : ℕ) → need ≡ max seen (at - base) → Written x base (end - base) bs ns at need
unfolding run finish run_need finish_need outers part
ends-done x before bs ns base end table at top first second seen w none lb fit hb hn few need q =
    let r : lists x ≡ w.state.now = w.same ∙ ap (λ (ls : List Open). finish w.state.now ls) none in
    let n : run_need [] w.state ≡ length w.state.now = ap (λ (ls : List Open). finish_need w.state.now ls) none in
    let t : before ++ contents w.state ≡ before ++ w.state.now = ap (λ (ls : List Open). before ++ (outers ls ++ w.state.now)) none in
    let e : at ≡ length (before ++ w.state.now) = stands-end before bs ns end table at top first second w.state w.holds fit hb hn ∙ ap length t in
    let l = length-append before w.state.now in
    let z : take at (cells bs ns) ≡ before ++ w.state.now = stands-text before bs ns end table at top first second w.state w.holds fit hb hn ∙ t in
    let k = w.need in
    record {
      needs = omega arith;
      fits = omega arith;
      end = rw r (omega arith);
      text = ap (drop base) z ∙ drop_at before w.state.now base lb ∙ sym r;
    }

-- ---- from slices to slices

pub ready-next : {f : State → State} (bs ns bs' ns' : List ℕ) (base end table at top first at' top' first' : ℕ) (second second' : Bool) → Ready bs ns base end table at top first second
    → Steps f base bs ns end table at top first second bs' ns' at' top' first' second' → at' ≤ end → length bs' ≡ length bs → length ns' ≡ length ns
    → Ready bs' ns' base end table at' top' first' second'
ready-next {f} bs ns bs' ns' base end table at top first at' top' first' second second' r p fit lb ln =
    let w = r.within in
    record {
      before = r.before;
      state = f r.state;
      holds = p.step r.before r.state r.begins r.holds;
      begins = r.begins;
      fits = fit;
      within = (omega (arith, w.0), (omega (arith, w.1.0), omega (arith, w.1.1)));
    }

-- closing one list at the end
module _ (x before : List Cell) (bs ns : List ℕ) (base end table at top first : ℕ) (second : Bool) (seen : ℕ) (w : Running x before bs ns end table at top first second seen [])
    (lb : length before ≡ base) (fit : at ≤ end) (hb : end ≤ length bs) (hn : end ≤ length ns) (lt : table < top)
    (bs' ns' : List ℕ) (at' top' first' : ℕ) (second' : Bool) (p : Steps close_inner base bs ns end table at top first second bs' ns' at' top' first' second') where
  close-run : (ls : List Open) → w.state.lists ≡ ls → run [] w.state ≡ run [] (close_inner w.state)
  unfolding run finish
  close-run [] e = absurd (let n = no_table before bs ns end table at top first second w.state e w.holds in omega arith)
  close-run (l ∷ ls) e = rw e

  close-need : (ls : List Open) → w.state.lists ≡ ls → run_need [] w.state ≡ max (size_of w.state) (run_need [] (close_inner w.state))
  unfolding run_need finish_need
  close-need [] e = absurd (let n = no_table before bs ns end table at top first second w.state e w.holds in omega arith)
  close-need (l ∷ ls) e = rw e

  pub finish-turn : (seen' : ℕ) → seen' ≡ max seen (at - base) → Running x before bs' ns' end table at' top' first' second' seen' []
  finish-turn =
      goes_on x before bs ns base end table at top first second seen [] w lb fit hb hn [] (close_inner w.state) (close-run w.state.lists refl) (close-need w.state.lists refl)
      bs' ns' at' top' first' second' (p.step before w.state lb w.holds)

  pub finish-over : end ≤ length bs' → end ≤ length ns' → end < at' → end - base < lists_need x
  finish-over =
      overflows x before bs ns base end table at top first second seen [] w lb fit hb hn [] (close_inner w.state) (close-run w.state.lists refl) (close-need w.state.lists refl)
      bs' ns' at' top' first' second' (p.step before w.state lb w.holds)

-- no list is open
pub none_open : (before : List Cell) (bs ns : List ℕ) (end table at top first : ℕ) (second : Bool) (s : State) → Stands before bs ns end table at top first second s → top ≤ table → s.lists ≡ []
none_open before bs ns end table at top first second s h le = by s.now s.second s.lists h
  where
    by : (now : List Cell) (sec : Bool) (ls : List Open) → Stands before bs ns end table at top first second (record { now = now; second = sec; lists = ls }) → ls ≡ []
    by now sec [] h = refl
    by now sec (l ∷ ls) h = absurd (let g = some-table before bs ns end table at top first second now sec l ls h in omega arith)

-- ---- a tag is within its text

valued-size : (x : List Cell) → (rest_of (valued x) ≤ 5 + length x) × (pushed (valued x) ≤ 1 + rest_of (valued x))
unfolding valued
valued-size x = by (ltb (to_bracket (bytes x)) (length x)) refl (is_one (trim (value_of x)))
  where
    by : (t : Bool) → ltb (to_bracket (bytes x)) (length x) ≡ t → (u : Bool)
        → (rest_of (cond (t && u) (Opener (6 + to_bracket (bytes x)) true) Plain) ≤ 5 + length x)
        × (pushed (cond (t && u) (Opener (6 + to_bracket (bytes x)) true) Plain) ≤ 1 + rest_of (cond (t && u) (Opener (6 + to_bracket (bytes x)) true) Plain))
    by true e true = let h = ltb-true (to_bracket (bytes x)) (length x) e in (omega arith, omega arith)
    by true e false = (omega arith, omega arith)
    by false e u = (omega arith, omega arith)

bytes-length : (x : List Cell) → length (bytes x) ≡ length x
bytes-length x = length-map x (λ c. c.byte)

pub tag-size : (y : List Cell) → 0 < length y → (1 + rest_of (tag_at y) ≤ length y) × (pushed (tag_at y) ≤ 1 + rest_of (tag_at y))
unfolding tag_at
tag-size y h = by₁ (begins (ascii "[list]") (bytes y)) refl
  where
    Fine : Tag → Type 0
    Fine t = (1 + rest_of t ≤ length y) × (pushed t ≤ 1 + rest_of t)

    by₄ : (t : Bool) → begins (ascii "[/list]") (bytes y) ≡ t → Fine (cond t Closer Plain)
    by₄ true e = let n = begins-long (ascii "[/list]") (bytes y) e in let m = bytes-length y in (omega arith, omega arith)
    by₄ false e = (omega arith, omega arith)

    by₃ : (t : Bool) → begins (ascii "[*]") (bytes y) ≡ t → Fine (cond t Item (cond (begins (ascii "[/list]") (bytes y)) Closer Plain))
    by₃ true e = let n = begins-long (ascii "[*]") (bytes y) e in let m = bytes-length y in (omega arith, omega arith)
    by₃ false e = by₄ (begins (ascii "[/list]") (bytes y)) refl

    by₂ : (t : Bool) → begins (ascii "[list=") (bytes y) ≡ t → Fine (cond t (valued (drop 6 y)) (cond (begins (ascii "[*]") (bytes y)) Item (cond (begins (ascii "[/list]") (bytes y)) Closer Plain)))
    by₂ true e =
        let n = begins-long (ascii "[list=") (bytes y) e in
        let m = bytes-length y in
        let d = length-drop 6 y in
        let v = valued-size (drop 6 y) in
        (omega (arith, v.0), v.1)
    by₂ false e = by₃ (begins (ascii "[*]") (bytes y)) refl

    by₁ : (t : Bool) → begins (ascii "[list]") (bytes y) ≡ t
        → Fine (cond t (Opener 5 false) (cond (begins (ascii "[list=") (bytes y)) (valued (drop 6 y)) (cond (begins (ascii "[*]") (bytes y)) Item (cond (begins (ascii "[/list]") (bytes y)) Closer Plain))))
    by₁ true e = let n = begins-long (ascii "[list]") (bytes y) e in let m = bytes-length y in (omega arith, omega arith)
    by₁ false e = by₂ (begins (ascii "[list=") (bytes y)) refl

-- ---- one token

token-step : (t : Tag) (c : Cell) (x : List Cell) (s : State) → step (token_of t c x) s ≡ step_by t (c ∷ x) s
unfolding step
token-step (Opener n o) c x s = refl
token-step Item c x s = refl
token-step Closer c x s = refl
token-step Plain c x s = refl

step-take : (t : Tag) (z : List Cell) (n k : ℕ) (s : State) → 1 + rest_with t n ≤ k → take_by t n (take k z) s ≡ take_by t n z s
step-take (Opener m o) z n k s h = refl
step-take Item z n k s h = ap (λ (l : List Cell). started l s s.lists) (take-take 3 k z h)
step-take Closer z n k s h = ap (λ (l : List Cell). closed l s s.lists) (take-take 7 k z h)
step-take Plain z n k s h = ap (λ (l : List Cell). kept l s) (take-take (n + 1) k z (omega arith))

turn-run : (y : List Cell) → 0 < length y → (s : State) → run (tokens 0 y) s ≡ run (tokens 0 (drop (suc (rest_of (tag_at y))) y)) (step_by (tag_at y) y s)
unfolding tokens run
turn-run [] h s = absurd (omega arith)
turn-run (c ∷ x) h s =
    ap (λ (ks : List Token). run ks (step (token_of (tag_at (c ∷ x)) c x) s)) (tokens-skip (rest_of (tag_at (c ∷ x))) x)
    ∙ ap (λ (z : State). run (tokens 0 (drop (rest_of (tag_at (c ∷ x))) x)) z) (token-step (tag_at (c ∷ x)) c x s)

turn-need : (y : List Cell) → 0 < length y → (s : State)
    → run_need (tokens 0 y) s ≡ max (size_of s) (run_need (tokens 0 (drop (suc (rest_of (tag_at y))) y)) (step_by (tag_at y) y s))
unfolding tokens run_need
turn-need [] h s = absurd (omega arith)
turn-need (c ∷ x) h s =
    ap (λ (ks : List Token). max (size_of s) (run_need ks (step (token_of (tag_at (c ∷ x)) c x) s))) (tokens-skip (rest_of (tag_at (c ∷ x))) x)
    ∙ ap (λ (z : State). max (size_of s) (run_need (tokens 0 (drop (rest_of (tag_at (c ∷ x))) x)) z)) (token-step (tag_at (c ∷ x)) c x s)

-- what it puts into the table
token-pushes : (t : Tag) (c : Cell) (x : List Cell) → pushed_by (token_of t c x) ≡ pushed t
token-pushes (Opener n o) c x = refl
token-pushes Item c x = refl
token-pushes Closer c x = refl
token-pushes Plain c x = refl

pushes-turn : (y : List Cell) → 0 < length y → pushes (tokens 0 y) ≡ pushed (tag_at y) + pushes (tokens 0 (drop (suc (rest_of (tag_at y))) y))
unfolding tokens pushes
pushes-turn [] h = absurd (omega arith)
pushes-turn (c ∷ x) h =
    rw (token-pushes (tag_at (c ∷ x)) c x) (ap (λ (ks : List Token). pushed (tag_at (c ∷ x)) + pushes ks) (tokens-skip (rest_of (tag_at (c ∷ x))) x))

pushes-more : (t : Tag) (k : ℕ) (y : List Cell) → 0 < length y → k ≤ to_first (is "[") (bytes (drop 1 y))
    → pushes (tokens 0 (drop (suc (rest_of t)) y)) ≡ pushes (tokens 0 (drop (suc (rest_with t k)) y))
unfolding pushes
pushes-more (Opener n o) k y h g = refl
pushes-more Item k y h g = refl
pushes-more Closer k y h g = refl
pushes-more Plain k [] h g = absurd (omega arith)
pushes-more Plain k (c ∷ x) h g = tokens-text pushes k x g (λ b y. omega arith)

module _ (x before : List Cell) (bs ns : List ℕ) (base end table at top first : ℕ) (second : Bool) (seen i e : ℕ)
    (w : Running x before bs ns end table at top first second seen (tokens 0 (part i e before)))
    (lb : length before ≡ base) (fit : at ≤ end) (hb : end ≤ length bs) (hn : end ≤ length ns) (lt : i < e) (le : e ≤ base)
    (tag : Tag) (q : tag ≡ tag_at (lent i e bs ns))
    (n : ℕ) (qn : n ≡ rest_with tag (to_first (is "[") (drop 1 (take (e - i) (drop i bs))))) where
  base-at : base ≤ at
  base-at =
      let n = stands-end before bs ns end table at top first second w.state w.holds fit hb hn in
      let k = length-append before (contents w.state) in
      omega arith

  source : take base (cells bs ns) ≡ before
  source =
      sym (take-take base at (cells bs ns) base-at) ∙ ap (take base) (stands-text before bs ns end table at top first second w.state w.holds fit hb hn)
      ∙ take_at before (contents w.state) base lb

  in_cells : i ≤ length (cells bs ns)
  in_cells = let b = base-at in cells-le bs ns i (omega arith) (omega arith)

  rest-is : part i e before ≡ take (e - i) (drop i (cells bs ns))
  unfolding part
  rest-is =
      let n : e ≡ i + (e - i) = omega arith in
      ap (λ (l : List Cell). drop i (take e l)) (sym source) ∙ ap (drop i) (take-take e base (cells bs ns) le)
      ∙ ap (λ (k : ℕ). drop i (take k (cells bs ns))) n ∙ part-take (cells bs ns) i (e - i) in_cells

  tag_is : tag ≡ tag_at (part i e before)
  tag_is = q ∙ ap tag_at (cells-sub bs ns i (e - i) ∙ sym rest-is)

  rest-length : length (part i e before) ≡ e - i
  unfolding part
  rest-length = length-slice i e before (omega arith)

  rest-bytes : bytes (part i e before) ≡ take (e - i) (drop i bs)
  rest-bytes =
      let b = base-at in
      let lb' : length (take (e - i) (drop i bs)) ≡ e - i = length-take-le (e - i) (drop i bs) (let k = length-drop i bs in omega arith) in
      let ln' : length (take (e - i) (drop i ns)) ≡ e - i = length-take-le (e - i) (drop i ns) (let k = length-drop i ns in omega arith) in
      ap bytes (rest-is ∙ sym (cells-sub bs ns i (e - i))) ∙ cells-bytes (take (e - i) (drop i bs)) (take (e - i) (drop i ns)) (omega arith)

  -- the text behind the first cell
  abbrev more : ℕ
  more = to_first (is "[") (bytes (drop 1 (part i e before)))

  size-with : n ≡ rest_with tag more
  size-with = qn ∙ ap (λ (l : List ℕ). rest_with tag (to_first (is "[") l)) (ap (drop 1) (sym rest-bytes) ∙ sym (tail-bytes (part i e before)))

  pub turn-size : (i + (1 + n) ≤ e) × ((rest_of tag ≤ n) × (pushed tag ≤ 1 + n))
  turn-size =
      let l = rest-length in
      let z = size-with in
      let s = tag-size (part i e before) (omega arith) in
      let g : 1 + rest_with tag more ≤ length (part i e before) = rest-size tag (part i e before) (omega arith) (rw tag_is s.0) in
      let r = rest-least tag more in
      let p : pushed tag ≤ 1 + rest_of tag = rw tag_is s.1 in
      (omega (arith, l, z, g), (omega (arith, z, r), omega (arith, z, r, p)))

  next-is : drop (suc n) (part i e before) ≡ part (i + n + 1) e before
  unfolding part
  next-is = drop-drop (suc n) i (take e before) ∙ (let m : i + suc n ≡ i + n + 1 = omega arith in ap (λ (k : ℕ). drop k (take e before)) m)

  -- what is read at i
  pub turn-reads : (0 < length (part i e before)) × ((tag ≡ tag_at (part i e before)) × ((n ≡ rest_with tag more) × (drop (suc n) (part i e before) ≡ part (i + n + 1) e before)))
  turn-reads = (let l = rest-length in omega (arith, l, lt), (tag_is, (size-with, next-is)))

  -- where the cells before the base stay
  pub turn-left : (bs' ns' : List ℕ) → take base (cells bs' ns') ≡ take base (cells bs ns) → end ≤ length bs' → end ≤ length ns'
      → lent i e bs' ns' ≡ part i e before
  unfolding part
  turn-left bs' ns' k hb' hn' =
      let b = base-at in
      let n : e ≡ i + (e - i) = omega arith in
      cells-sub bs' ns' i (e - i) ∙ sym (part-take (cells bs' ns') i (e - i) (cells-le bs' ns' i (omega arith) (omega arith)))
      ∙ ap (λ (k : ℕ). drop i (take k (cells bs' ns'))) (sym n) ∙ sym (ap (drop i) (take-take e base (cells bs' ns') le)) ∙ ap (λ (l : List Cell). drop i (take e l)) (k ∙ source)

  same_step : take_by (tag_at (part i e before)) more (part i e before) w.state ≡ take_by tag n (drop i (cells bs ns)) w.state
  same_step =
      let z = turn-size.0 in
      let k : 1 + rest_with tag more ≤ e - i = (let y = size-with in omega (arith, y, z)) in
      rw (← tag_is, ap (λ (l : List Cell). take_by tag more l w.state) rest-is) (step-take tag (drop i (cells bs ns)) more (e - i) w.state k)
      ∙ sym (take-with more w.state tag (drop i (cells bs ns))) ∙ ap (λ (j : ℕ). take_by tag j (drop i (cells bs ns)) w.state) (sym size-with)

  goes : run (tokens 0 (part i e before)) w.state ≡ run (tokens 0 (part (i + n + 1) e before)) (take_by tag n (drop i (cells bs ns)) w.state)
  goes =
      let l = rest-length in
      turn-run (part i e before) (omega arith) w.state ∙ more-run more w.state (tag_at (part i e before)) (part i e before) (omega arith) (omega arith)
      ∙ rw (same_step, ← tag_is, ← size-with, next-is)

  needed : run_need (tokens 0 (part i e before)) w.state ≡ max (size_of w.state) (run_need (tokens 0 (part (i + n + 1) e before)) (take_by tag n (drop i (cells bs ns)) w.state))
  needed =
      let l = rest-length in
      turn-need (part i e before) (omega arith) w.state
      ∙ ap (max (size_of w.state)) (more-need more w.state (tag_at (part i e before)) (part i e before) (omega arith) (omega arith) ∙ rw (same_step, ← tag_is, ← size-with, next-is))

  pub turn-pushes : pushes (tokens 0 (part i e before)) ≡ pushed tag + pushes (tokens 0 (part (i + n + 1) e before))
  turn-pushes =
      let l = rest-length in
      pushes-turn (part i e before) (omega arith)
      ∙ ap (λ (k : ℕ). pushed (tag_at (part i e before)) + k) (pushes-more (tag_at (part i e before)) more (part i e before) (omega arith) (omega arith)) ∙ rw (← tag_is, ← size-with, next-is)

  module _ (bs' ns' : List ℕ) (at' top' first' : ℕ) (second' : Bool) (p : Steps (take_by tag n (drop i (cells bs ns))) base bs ns end table at top first second bs' ns' at' top' first' second') where
    pub turn-goes : (seen' : ℕ) → seen' ≡ max seen (at - base) → Running x before bs' ns' end table at' top' first' second' seen' (tokens 0 (part (i + n + 1) e before))
    turn-goes =
        goes_on x before bs ns base end table at top first second seen (tokens 0 (part i e before)) w lb fit hb hn _ (take_by tag n (drop i (cells bs ns)) w.state) goes needed
        bs' ns' at' top' first' second' (p.step before w.state lb w.holds)

    pub turn-over : end ≤ length bs' → end ≤ length ns' → end < at' → end - base < lists_need x
    turn-over =
        overflows x before bs ns base end table at top first second seen (tokens 0 (part i e before)) w lb fit hb hn (tokens 0 (part (i + n + 1) e before))
        (take_by tag n (drop i (cells bs ns)) w.state) goes needed bs' ns' at' top' first' second' (p.step before w.state lb w.holds)

-- ---- the whole

-- at the start
pub running-start : (bs ns : List ℕ) (a e base end table : ℕ) → e ≤ base → base ≤ end → end ≤ table → end ≤ length bs → table ≤ length ns
    → Running (part a e (cells bs ns)) (take base (cells bs ns)) bs ns end table base table table false 0 (tokens 0 (part a e (take base (cells bs ns))))
unfolding outers frames part between lists lists_need
running-start bs ns a e base end table le area apart hb hn =
    let l : length (take base (cells bs ns)) ≡ base = length-take-le base (cells bs ns) (cells-le bs ns base (omega arith) (omega arith)) in
    let x : drop a (take e (take base (cells bs ns))) ≡ drop a (take e (cells bs ns)) = ap (drop a) (take-take e base (cells bs ns) le) in
    record {
      state = nothing;
      holds = record {
        text = record {
          end = λ _. (rw (append-nil (take base (cells bs ns))) (sym l));
          text = λ _. (rw (append-nil (take base (cells bs ns))) (take-take base end (cells bs ns) area));
          full = λ g. absurd (let n = area-length bs ns end hb (omega arith) in let k = length-append (take base (cells bs ns)) [] in omega arith);
        };
        rows = slice_empty table ns;
        reaches = (omega arith, hn);
        apart = apart;
        frame = refl;
        turn = refl;
      };
      need = rw x (omega arith);
      same = rw x;
    }

-- at the end of the source
pub running-end : (x before : List Cell) (bs ns : List ℕ) (end table at top first : ℕ) (second : Bool) (seen i e : ℕ) → e ≤ i
    → Running x before bs ns end table at top first second seen (tokens 0 (part i e before)) → Running x before bs ns end table at top first second seen []
unfolding tokens
running-end x before bs ns end table at top first second seen i e h w = rw (part_end i e before h) at w

pub running-ready : (x before : List Cell) (bs ns : List ℕ) (base end table at top first : ℕ) (second : Bool) (seen : ℕ) (ks : List Token)
    → Running x before bs ns end table at top first second seen ks → length before ≡ base → at ≤ end → end ≤ length bs → end ≤ length ns → length ns ≤ number_most
    → Ready bs ns base end table at top first second
running-ready x before bs ns base end table at top first second seen ks w lb fit hb hn short =
    record { before = before; state = w.state; holds = w.holds; begins = lb; fits = fit; within = (hb, (hn, short)) }

-- the areas stand in the slices, where the table has room for d numbers
pub room : (base end table bytes numbers d : ℕ) → base ≤ end → end + (end - base) ≤ table → end + (end - base) ≤ bytes → table + d ≤ numbers
    → (end ≤ bytes) × ((end ≤ numbers) × ((end ≤ table) × (table ≤ numbers)))
room base end table bytes numbers d h t b n = (omega arith, (omega arith, (omega arith, omega arith)))

-- the source stands before the base
pub part-before : (a e base : ℕ) (v : List Cell) → e ≤ base → part a e (take base v) ≡ part a e v
unfolding part
part-before a e base v le = ap (drop a) (take-take e base v le)

pub before-length : (bs ns : List ℕ) (base end : ℕ) → base ≤ end → end ≤ length bs → end ≤ length ns → length (take base (cells bs ns)) ≡ base
before-length bs ns base end h hb hn = length-take-le base (cells bs ns) (cells-le bs ns base (omega arith) (omega arith))

-- ---- what the pass answers

-- it is no longer taken
pub passes-stopped : (x : List Cell) (m : ℕ) (r : Refusal) (t : Bool) → too_deep x ≡ t → (t ≡ false → m < lists_need x) → r ≡ cond t TooDeep NoSpace
    → (r ≡ cond (too_deep x) TooDeep NoSpace) × (too_deep x ≡ false → m < lists_need x)
passes-stopped x m r t e over q = (rw e q, λ f. over (sym e ∙ f))

pub passes-deep : (x : List Cell) (m : ℕ) → too_deep x ≡ true → (TooDeep ≡ cond (too_deep x) TooDeep NoSpace) × (too_deep x ≡ false → m < lists_need x)
passes-deep x m e = passes-stopped x m TooDeep true e (λ f. absurd (cc)) refl

-- all is read
pub passes-ends : (x : List Cell) (base m : ℕ) (bs ns : List ℕ) (r : Result Passed Refusal) → too_deep x ≡ false → Ends x base m bs ns r → Passes x base m bs ns r
passes-ends x base m bs ns (Ok p) e h = (e, h)
passes-ends x base m bs ns (Err r) e h = passes-stopped x m r false e (λ _. h.1) h.0
