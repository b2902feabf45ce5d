-- Laws of a whole call. Assumes nothing.
use mathlib.Core.Path.{◌≡◌, refl, ap, ap₂, ◌∙◌, subst}
use mathlib.Core.Bool.{Bool, true, false, cond}
use mathlib.Core.List.{List, []}
use Prim.Native.Nat.{ℕ, ◌*◌, ◌/◌, ◌≤◌, ◌<◌}
use native.Mathlib.Omega.{arith}
use native.Mathlib.Decide.{dec_le}
use lib.ListN.{length, take}
use lib.Seq.{take-take, length-take-le}
use lib.Dec.{leb}
use borrow.Author.Tests.{lt-ltb, le-ltb, leb-true}
use Rattle.text.proofs.Bytes.{both}
use Rattle.text.specs.Bounds.{text_most}
use Rattle.text.specs.Cells.{Cell, cells, cells_of, part}
use Rattle.lending.specs.Lent.{sizes_right, checked}
use Rattle.text.specs.Writes.{cleared, padded, LaidOut}
use Rattle.lending.specs.declared.lent.Refusal.{Refusal}
use Rattle.lending.specs.declared.lent.Refusal.TheVariants.{TextTooLong, SizesWrong, NoSpace}
use Rattle.std.specs.Prelude.{Some, Result, Ok, Err, is_err, IsErrAnd}
use Rattle.text.proofs.Writing.{holds_fits}
use Rattle.text.proofs.Clearing.{laid-cleared}
use Rattle.text.proofs.Copying.{length-cells_of}
use Rattle.mark_tags.specs.Marks.{plain, start, marks, merge, no-kinds, items, span_numbers}
use Rattle.mark_pieces.specs.Spans.{Writes}
use Rattle.mark_writing.proofs.Drawing.{shift_zero}
use Rattle.mark_writing.proofs.MarkWriting.{spans-few}
use Rattle.marks.specs.declared.Marked.{Marked}
use Rattle.marks.specs.Calls.{converted, answered, Left, Attempted, Called}
use Rattle.marks.proofs.Counting.{marks-third}
use Rattle.marks.proofs.Passing.{pass-held}

-- ---- what is left

pub front-left : (xs xs' : List ℕ) (n : ℕ) → n ≤ length xs → xs' ≡ cleared n xs → xs' ≡ padded (length xs) (take n xs)
front-left xs xs' n h e = e ∙ laid-cleared (take n xs) xs n (length xs) refl (length-take-le n xs h) refl

-- ---- the pass

pub of-text : {v v' x y : List Cell} {ss ss' : List ℕ} {to c : ℕ} → x ≡ y → Writes v 0 ss 0 v' to ss' c (marks x) → Writes v 0 ss 0 v' to ss' c (marks y)
of-text {v} {v'} {x} {y} {ss} {ss'} {to} {c} e w = subst (λ (z : List Cell). Writes v 0 ss 0 v' to ss' c (marks z)) e w

-- v': the cells of the area, of the output's length
module _ (text : List ℕ) (v : List Cell) (ss : List ℕ) (v' : List Cell) (to : ℕ) (ss₁ : List ℕ) (c m : ℕ) (w : Writes v 0 ss 0 v' to ss₁ c (marks (cells_of text))) (long : length v' ≡ m) where
  abbrev size : ℕ
  size = length (marks (cells_of text)).cells

  pub converted-full : m < to → Err NoSpace ≡ converted (cells_of text) m
  unfolding converted
  converted-full h =
      let n = long in
      let over : m < size = elim (dec_le size m) [ yes p ↦ absurd (let z = (pass-held w).end (omega arith) in omega arith) | no p ↦ omega arith ] in
      rw (lt-ltb m size over)

  -- two numbers for each three bytes suffice for the spans
  pub spans_fit : c ≤ 2 * (length text / 3)
  unfolding marks
  spans_fit =
      let n = w.count in
      let f = spans-few (merge no-kinds (items (cells_of text))) start in
      let t = marks-third (cells_of text) in
      let l = length-cells_of text in
      omega arith

  pub converted-done : (k s : ℕ) {out' origins' spans' : List ℕ} → length ss₁ ≡ s → to ≤ m → c ≤ length ss₁ → LaidOut (take to v') m k out' origins' → spans' ≡ padded (length ss₁) (take c ss₁)
      → (Ok (record { size = to; spans = c / 2 }) ≡ converted (cells_of text) m) × Left (marks (cells_of text)) m k s out' origins' spans'
  unfolding converted
  converted-done k s {out'} {origins'} {spans'} lent h r laid listed =
      let n = long in
      let fits = holds_fits v' to (marks (cells_of text)).cells (pass-held w) (omega arith) in
      let e : to ≡ size = (pass-held w).end fits in
      let d = w.count in
      let e₂ : c / 2 ≡ length (marks (cells_of text)).spans = omega arith in
      let there : take c ss₁ ≡ span_numbers (marks (cells_of text)).spans = w.spans (omega arith) r ∙ ap span_numbers (shift_zero (marks (cells_of text)).spans) in (
        rw (le-ltb m size (omega arith)) (ap₂ (λ (a b : ℕ). Ok (record { size = a; spans = b })) e e₂),
        record { laid = subst (λ (x : List Cell). LaidOut x m k out' origins') ((pass-held w).text fits) laid; listed = listed ∙ ap (padded (length ss₁)) there ∙ ap (λ (n : ℕ). padded n (span_numbers (marks (cells_of text)).spans)) lent },
      )

-- the first cells of the area, which are laid out
pub area-laid : {to m k : ℕ} {out' plain' : List ℕ} (bs ns : List ℕ) (a : ℕ) → to ≤ a → LaidOut (part 0 to (cells bs ns)) m k out' plain' → LaidOut (take to (take a (cells bs ns))) m k out' plain'
unfolding part
area-laid {to} bs ns a h l = rw (take-take to a (cells bs ns) h) l

-- ---- the whole call

sizes-by : (a b : Bool) (x : Result (Unit {0}) Refusal) → cond a (cond b x (Err SizesWrong)) (Err TextTooLong) ≡ Ok tt → b ≡ true
sizes-by true true x h = refl
sizes-by true false x h = let z : ◌≡◌ {A = ℕ} 0 1 = cc in absurd (omega arith)
sizes-by false b x h = let z : ◌≡◌ {A = ℕ} 0 1 = cc in absurd (omega arith)

pub spans-enough : (text : List ℕ) (m k s w n : ℕ) → checked text (record { out = m; origins = k; work = w; numbers = n; spans = Some s }) ≡ Ok tt → 2 * (length text / 3) ≤ s
unfolding checked sizes_right
spans-enough text m k s w n h =
    let z : sizes_right (length text) (record { out = m; origins = k; work = w; numbers = n; spans = Some s }) ≡ true = sizes-by (leb (length text) text_most) (sizes_right (length text) (record { out = m; origins = k; work = w; numbers = n; spans = Some s })) _ h in
    leb-true (2 * (length text / 3)) s (both _ (leb (2 * (length text / 3)) s) z).1

module _ (text : List ℕ) (m k s w n : ℕ) {out origins spans : List ℕ} where
  pub attempted-refused : (r : Refusal) → checked text (record { out = m; origins = k; work = w; numbers = n; spans = Some s }) ≡ Err r → Attempted text m k s w n (Err r) out origins spans
  unfolding answered
  attempted-refused r e = record { answer = rw e; left = λ a q. cc }

  pub attempted-full : checked text (record { out = m; origins = k; work = w; numbers = n; spans = Some s }) ≡ Ok tt → Err NoSpace ≡ converted (cells_of text) m → Attempted text m k s w n (Err NoSpace) out origins spans
  unfolding answered
  attempted-full e f = record { answer = rw e f; left = λ a q. cc }

  pub attempted-done : (b : Marked) → checked text (record { out = m; origins = k; work = w; numbers = n; spans = Some s }) ≡ Ok tt → (Ok b ≡ converted (cells_of text) m) × Left (marks (cells_of text)) m k s out origins spans
      → Attempted text m k s w n (Ok b) out origins spans
  unfolding answered
  attempted-done b e f = record { answer = rw e (f.0); left = λ a q. f.1 }

  -- what is left where it refused is all zero
  pub called-refused : {out₁ origins₁ spans₁ : List ℕ} (r : Result Marked Refusal) → is_err r ≡ true → Attempted text m k s w n r out₁ origins₁ spans₁ → Left (plain []) m k s out origins spans → Called text m k s w n r out origins spans
  called-refused (Ok a) e h l = cc
  called-refused (Err x) e h l = record { answer = h.answer; left = l }

-- the refusal that a `?` passes on
pub passed-on : (r : Result Marked Refusal) (e : Refusal) → IsErrAnd r (λ x. x ≡ e) → r ≡ Err e
passed-on (Ok a) e h = elim h [ ]
passed-on (Err x) e h = ap Err h
