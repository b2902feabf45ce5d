-- What an operation answers can be counted in 32 bits. Assumes nothing.
use mathlib.Core.Path.{◌≡◌, refl, sym, ap, ◌∙◌}
use mathlib.Core.Bool.{Bool, true, false, cond}
use mathlib.Core.List.{List, [], ◌∷◌}
use Prim.Native.Nat.{ℕ, suc, ◌+◌, ◌*◌, ◌≤◌}
use native.Mathlib.Omega.{arith}
use lib.ListN.{length}
use lib.Dec.{ltb}
use borrow.Author.Tests.{ltb-false}
use Rattle.text.specs.Cells.{Cell, cells_of}
use Rattle.lending.specs.Lent.{checked}
use Rattle.lending.specs.declared.lent.Refusal.{Refusal}
use Rattle.lending.specs.declared.lent.Lent.{Lent}
use Rattle.lending.specs.declared.answer.Converted.{Converted}
use Rattle.lending.specs.Answer.{answer_by, counts_of_answer}
use Rattle.std.specs.Prelude.{Result, Ok, Err}
use Rattle.lending.proofs.Sizes.{enough}
use Rattle.text.proofs.Copying.{length-cells_of}
use Rattle.list_blocks.specs.Tags.{too_deep}
use Rattle.list_blocks.specs.Lists.{lists, lists_need}
use Rattle.list_steps.proofs.Needs.{lists-fits}
use Rattle.lists.specs.Calls as Lists
use Rattle.attribution_parts.specs.Attribution.{caption, losses}
use Rattle.attribution_losses.specs.Lists.{loss_words}
use Rattle.attribution.specs.Calls as Attribution
use Rattle.quote_blocks.specs.Quotes as Q
use Rattle.quote_blocks.proofs.QuotesFit.{quotes-fit}
use Rattle.quote_losses.specs.Losses.{quote_losses, loss_bytes}
use Rattle.quotes.specs.Calls as Quotes
use Rattle.chain.specs.Post.{marks_text}
use Rattle.post.specs.Calls as Post
use Rattle.carve.specs.Counts.{Countable, day_counts, lists_counts, marks_counts}
use Rattle.attribution_losses.proofs.Bounds.{losses-small}
use Rattle.quote_losses.proofs.Bounds.{quote-losses-small}
use Rattle.mark_tags.specs.Marks.{marks, merge, no-kinds, items, start}
use Rattle.mark_writing.proofs.MarkWriting.{spans-few}
use Rattle.marks.proofs.Counting.{marks-third}
use Rattle.marks.specs.declared.Marked.{Marked}
use Rattle.marks.specs.Calls as Marks

abbrev count_most : ℕ
count_most = 4294967295

-- ---- an answer that is no refusal

module _ {A : Type 0} where
  done-is : {x y : A} → ◌≡◌ {A = Result A Refusal} (Ok x) (Ok y) → x ≡ y
  done-is e = cc

  differ : {r : Refusal} {y : A} → ◌≡◌ {A = Result A Refusal} (Err r) (Ok y) → ⊥
  differ e = let z : ◌≡◌ {A = ℕ} 0 1 = cc in omega arith

  -- it has passed each test
  passed : (t : Bool) (r : Refusal) (x : Result A Refusal) (y : A) → cond t (Err r) x ≡ Ok y → (t ≡ false) × (x ≡ Ok y)
  passed true r x y h = absurd (differ h)
  passed false r x y h = (refl, h)

  answer-by : (c : Result (Unit {0}) Refusal) (else : Result A Refusal) (y : A) → answer_by c else ≡ Ok y → (c ≡ Ok tt) × (else ≡ Ok y)
  answer-by (Err r) else y h = absurd (differ h)
  answer-by (Ok u) else y h = (refl, h)

-- ---- lists

lists-by : (x : List Cell) (m size : ℕ) → Lists.converted x m ≡ Ok size → size ≤ m
unfolding Lists.converted
lists-by x m size h =
    let d = passed (too_deep x) _ _ size h in
    let f = passed (ltb m (lists_need x)) _ (Ok (length (lists x))) size d.1 in
    let n = ltb-false m (lists_need x) f.0 in
    let e : length (lists x) ≡ size = done-is f.1 in
    omega (arith, lists-fits x, n, e)

lists-small : (text : List ℕ) (lent : Lent) (size : ℕ) → Lists.answered text lent ≡ Ok size → size ≤ count_most
unfolding Lists.answered
lists-small text lent size h =
    let d = answer-by (checked text lent) (Lists.converted (cells_of text) lent.out) size h in
    let e = enough text lent d.0 in
    omega (arith, lists-by (cells_of text) lent.out size d.1, e.out)

-- ---- marks

marks-few : (x : List Cell) → length (marks x).spans ≤ length x
unfolding marks
marks-few x = omega (arith, spans-few (merge no-kinds (items x)) start, marks-third x)

marks-by : (c : Result (Unit {0}) Refusal) (x : List Cell) (m : ℕ) (a : Marked) → Marks.answer_by c x m ≡ Ok a → (c ≡ Ok tt) × ((a.size ≤ m) × (a.spans ≤ length x))
unfolding Marks.converted
marks-by (Err r) x m a h = absurd (differ h)
marks-by (Ok u) x m a h =
    let f = passed (ltb m (length (marks x).cells)) _ _ a h in
    let n = ltb-false m (length (marks x).cells) f.0 in
    let e = done-is f.1 in
    let e₁ : length (marks x).cells ≡ a.size = ap (λ (b : Marked). b.size) e in
    let e₂ : length (marks x).spans ≡ a.spans = ap (λ (b : Marked). b.spans) e in
    (refl, (omega (arith, e₁, n), omega (arith, e₂, marks-few x)))

marks-small : (text : List ℕ) (lent : Lent) (a : Marked) → Marks.answered text lent ≡ Ok a → (a.size ≤ count_most) × (a.spans ≤ count_most)
unfolding Marks.answered
marks-small text lent a h =
    let d = marks-by (checked text lent) (cells_of text) lent.out a h in
    let e = enough text lent d.0 in
    (omega (arith, d.1.0, e.out), omega (arith, d.1.1, e.text, length-cells_of text))

-- ---- attributions

-- the length, the losses and the loss bytes
abbrev AllSmall : Converted → Type 0
AllSmall d = (d.size ≤ count_most) × ((d.losses ≤ count_most) × (d.bytes ≤ count_most))

module _ {c d : Converted} (e : ◌≡◌ {A = Result Converted Refusal} (Ok c) (Ok d)) where
  size-is : c.size ≡ d.size
  size-is = ap (λ (a : Converted). a.size) (done-is e)

  losses-are : c.losses ≡ d.losses
  losses-are = ap (λ (a : Converted). a.losses) (done-is e)

  bytes-are : c.bytes ≡ d.bytes
  bytes-are = ap (λ (a : Converted). a.bytes) (done-is e)

module _ (d : Converted) where
  attribution-by : (s : List ℕ) (m l b : ℕ) → Attribution.formatted s m l b ≡ Ok d → (d.size ≤ m) × ((d.losses ≤ suc (length s)) × (d.bytes ≤ 2 + 2 * length s))
  unfolding Attribution.formatted
  attribution-by s m l b h =
      let many = passed (ltb l (length (losses s))) _ _ d h in
      let long = passed (ltb b (length (loss_words (losses s)))) _ _ d many.1 in
      let full = passed (ltb m (length (caption s))) _ _ d long.1 in
      let n = ltb-false m (length (caption s)) full.0 in
      let z = losses-small s in
      (omega (arith, size-is full.1, n), (omega (arith, losses-are full.1, z.few), omega (arith, bytes-are full.1, z.short)))

  attribution-small : (s : List ℕ) (lent : Lent) (l b : ℕ) → Attribution.answered s lent l b ≡ Ok d → AllSmall d
  unfolding Attribution.answered
  attribution-small s lent l b h =
      let c = answer-by (checked s lent) _ d h in
      let r = attribution-by s lent.out l b c.1 in
      let e = enough s lent c.0 in
      (omega (arith, r.0, e.out), (omega (arith, r.1.0, e.text), omega (arith, r.1.1, e.text)))

  -- ---- quotes

  spaced-small : (x : List Cell) (m : ℕ) → Quotes.spaced x m ≡ Ok d → (d.size ≤ m) × ((d.losses ≤ length x) × (d.bytes ≤ 2 * length x))
  unfolding Quotes.spaced
  spaced-small x m h =
      let f = passed (ltb m (Q.quotes_need caption x)) _ _ d h in
      let n = ltb-false m (Q.quotes_need caption x) f.0 in
      let z = quote-losses-small x in
      (omega (arith, size-is f.1, n, quotes-fit caption x), (omega (arith, losses-are f.1, z.0), omega (arith, bytes-are f.1, z.1)))

  quotes-small : (text : List ℕ) (lent : Lent) (j b : ℕ) → Quotes.answered text lent j b ≡ Ok d → AllSmall d
  unfolding Quotes.answered Quotes.converted
  quotes-small text lent j b h =
      let x = cells_of text in
      let c = answer-by (checked text lent) _ d h in
      let s = answer-by (Quotes.limited (Q.too_deep x) (ltb j (length (quote_losses x))) (ltb b (length (loss_bytes x)))) (Quotes.spaced x lent.out) d c.1 in
      let r = spaced-small x lent.out s.1 in
      let e = enough text lent c.0 in
      let l = length-cells_of text in
      (omega (arith, r.0, e.out), (omega (arith, r.1.0, e.text, l), omega (arith, r.1.1, e.text, l)))

  -- ---- whole posts

  listing-small : (x : List Cell) (m a w : ℕ) → Post.listing x m a w ≡ Ok d → (d.size ≤ m) × ((a ≡ d.losses) × (w ≡ d.bytes))
  unfolding Post.listing
  listing-small x m a w h =
      let t = passed (too_deep x) _ _ d h in
      let f = passed (ltb m (lists_need x)) _ _ d t.1 in
      let n = ltb-false m (lists_need x) f.0 in
      (omega (arith, size-is f.1, n, lists-fits x), (losses-are f.1, bytes-are f.1))

  quoting-small : (x : List Cell) (m a w : ℕ) → Post.quoting x m a w ≡ Ok d → (d.size ≤ m) × ((a ≡ d.losses) × (w ≡ d.bytes))
  unfolding Post.quoting
  quoting-small x m a w h = listing-small (Q.quotes caption x) m a w (passed (ltb m (Q.quotes_need caption x)) _ (Post.listing (Q.quotes caption x) m a w) d h).1

  post-small : (post : List ℕ) (lent : Lent) (j b : ℕ) → Post.answered post lent j b ≡ Ok d → AllSmall d
  unfolding Post.answered Post.converted Post.marked
  post-small post lent j b h =
      let x = marks_text post in
      let m = lent.out in
      let c = answer-by (checked post lent) _ d h in
      let f = passed (ltb m (length x)) _ _ d c.1 in
      let l = answer-by (Quotes.limited (Q.too_deep x) (ltb j (length (quote_losses x))) (ltb b (length (loss_bytes x)))) (Post.quoting x m (length (quote_losses x)) (length (loss_bytes x))) d f.1 in
      let q = quoting-small x m (length (quote_losses x)) (length (loss_bytes x)) l.1 in
      let n = ltb-false m (length x) f.0 in
      let e = enough post lent c.0 in
      let z = quote-losses-small x in
      (omega (arith, q.0, e.out), (omega (arith, q.1.0, z.0, n, e.out), omega (arith, q.1.1, z.1, n, e.out)))

-- ---- what a report counts

refused-countable : Countable (0 ∷ 0 ∷ 0 ∷ [])
refused-countable = (omega arith, (omega arith, (omega arith, tt)))

small-countable : (r : Result Converted Refusal) → ((d : Converted) → r ≡ Ok d → AllSmall d) → Countable (counts_of_answer r)
small-countable (Ok d) f = let z = f d refl in (z.0, (omega (arith, z.1.0, z.1.1), (omega (arith, z.1.0, z.1.1), tt)))
small-countable (Err r) f = refused-countable

pub attribution-countable : (s : List ℕ) (lent : Lent) (l b : ℕ) (r : Result Converted Refusal) → r ≡ Attribution.answered s lent l b → Countable (counts_of_answer r)
attribution-countable s lent l b r e = small-countable r (λ d q. attribution-small d s lent l b (sym e ∙ q))

pub quotes-countable : (text : List ℕ) (lent : Lent) (j b : ℕ) (r : Result Converted Refusal) → r ≡ Quotes.answered text lent j b → Countable (counts_of_answer r)
quotes-countable text lent j b r e = small-countable r (λ d q. quotes-small d text lent j b (sym e ∙ q))

pub post-countable : (post : List ℕ) (lent : Lent) (j b : ℕ) (r : Result Converted Refusal) → r ≡ Post.answered post lent j b → Countable (counts_of_answer r)
post-countable post lent j b r e = small-countable r (λ d q. post-small d post lent j b (sym e ∙ q))

pub lists-countable : (text : List ℕ) (lent : Lent) (r : Result ℕ Refusal) → r ≡ Lists.answered text lent → Countable (lists_counts r)
lists-countable text lent (Ok size) e = (lists-small text lent size (sym e), (omega arith, (omega arith, tt)))
lists-countable text lent (Err r) e = refused-countable

pub marks-countable : (text : List ℕ) (lent : Lent) (r : Result Marked Refusal) → r ≡ Marks.answered text lent → Countable (marks_counts r)
marks-countable text lent (Ok a) e = let z = marks-small text lent a (sym e) in (z.0, (z.1, (omega arith, tt)))
marks-countable text lent (Err r) e = refused-countable

pub day-countable : (r : Result (Unit {0}) Refusal) → Countable (day_counts r)
day-countable (Ok u) = (omega arith, (omega arith, (omega arith, tt)))
day-countable (Err r) = refused-countable
