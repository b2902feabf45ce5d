-- Laws of a whole call. Assumes nothing.
use mathlib.Core.Path.{◌≡◌, refl, sym, ap, ◌∙◌}
use mathlib.Core.Bool.{Bool, true, false}
use mathlib.Core.List.{List, ◌++◌}
use Prim.Native.Nat.{ℕ, ◌+◌, ◌-◌, ◌*◌, ◌≤◌, ◌<◌}
use native.Mathlib.Nat.{zero-add}
use native.Mathlib.Omega.{arith}
use lib.ListN.{length, take, drop, length-map, length-append}
use lib.Seq.{take-take, length-take-le, take-append-le}
use Rattle.std.proofs.lemmas.List.{length-take}
use lib.Dec.{ltb}
use borrow.Author.Tests.{lt-ltb, le-ltb, ltb-false}
use Rattle.std.specs.Prelude.{Result, Ok, Err}
use Rattle.text.specs.Cells.{Cell, cells, cells_of, bytes, part}
use Rattle.text.specs.Writes.{cleared, LaidOut}
use Rattle.lending.specs.declared.lent.Refusal.{Refusal}
use Rattle.lending.specs.declared.lent.Refusal.TheVariants.{NoSpace}
use Rattle.lending.specs.declared.answer.Converted.{Converted}
use Rattle.lending.specs.Answer.{answer_by}
use Rattle.text.proofs.Clearing.{laid-cleared}
use Rattle.attribution_parts.specs.Attribution.{caption}
use Rattle.quote_tags.specs.Masks.{visible}
use Rattle.quote_lines.specs.Lines.{tags, lines_of}
use Rattle.text.proofs.Copying.{bytes-cells_of}
use Rattle.quote_blocks.specs.Quotes.{too_deep, quotes, quotes_need, TooDeep}
use Rattle.quote_blocks.proofs.QuotesFit.{quotes-fit}
use Rattle.quote_losses.specs.Losses.{quote_losses, loss_bytes, loss_records, ListsLosses}
use Rattle.quotes.specs.Calls.{limited, spaced, converted, Filled, Noted, Left, Spelled, Written}

-- ---- losses

module _ (original s rs bs rs' bs' : List ℕ) (losses words : ℕ) (w : ListsLosses s (tags 1 0 (visible original)) rs bs rs' bs' losses words) (x : List Cell) (e : bytes x ≡ s) where
  pub listed-counts : (losses ≡ length (quote_losses x)) × (words ≡ length (loss_bytes x))
  listed-counts = let q = (w.words x e).end in (w.count x e, omega (arith, q))

  -- the loss bytes, where they fit
  pub spelled-there : words ≤ length bs → Spelled x bs' losses words
  spelled-there g =
      let q = w.words x e in
      let n : length (bytes x) ≡ length x = length-map x (λ (c : Cell). c.byte) in
      let m : length (bytes x) ≡ length s = ap length e in
      record {
        count = w.count x e;
        size = omega (arith, q.end);
        words-there = q.text g;
        few = omega (arith, w.few);
      }

  -- the numbers of the records, where these fit
  pub records-there : 5 * losses ≤ length rs → take (5 * losses) rs' ≡ loss_records original x
  unfolding loss_records lines_of
  records-there h = (w.records x e).text h

-- ---- which refusal

limited-fine : (deep many long : Bool) → limited deep many long ≡ Ok tt → (deep ≡ false) × ((many ≡ false) × (long ≡ false))
limited-fine true many long h = let z : ◌≡◌ {A = ℕ} 0 1 = cc in absurd (omega arith)
limited-fine false true long h = let z : ◌≡◌ {A = ℕ} 0 1 = cc in absurd (omega arith)
limited-fine false false true h = let z : ◌≡◌ {A = ℕ} 0 1 = cc in absurd (omega arith)
limited-fine false false false h = (refl, (refl, refl))

-- within the limits
pub within : (deep : Bool) (j b losses words : ℕ) → limited deep (ltb j losses) (ltb b words) ≡ Ok tt → (deep ≡ false) × ((losses ≤ j) × (words ≤ b))
within deep j b losses words h = let f = limited-fine deep (ltb j losses) (ltb b words) h in (f.0, (ltb-false j losses f.1.0, ltb-false b words f.1.1))

-- what the listing of a text's losses decides
module _ (text : List ℕ) {rs bs rs' bs' : List ℕ} {losses words : ℕ} {deep : Bool} (w : ListsLosses text (tags 1 0 (visible text)) rs bs rs' bs' losses words × TooDeep text deep) (m j : ℕ) {b : ℕ} (lb : length bs' ≡ b) where
  decided : {c : Result (Unit {0}) Refusal} → limited deep (ltb j losses) (ltb (length bs') words) ≡ c → answer_by c (spaced (cells_of text) m) ≡ converted (cells_of text) m j b
  unfolding converted
  decided e =
      let n = listed-counts text text _ _ _ _ _ _ w.0 (cells_of text) (bytes-cells_of text) in
      let d = w.1 (cells_of text) (bytes-cells_of text) in
      rw (← e, d, ← n.0, ← n.1, ← lb) refl

  pub own-refused : {r : Refusal} → limited deep (ltb j losses) (ltb (length bs') words) ≡ Err r → Err r ≡ converted (cells_of text) m j b
  own-refused e = decided e

  pub own-fine : limited deep (ltb j losses) (ltb (length bs') words) ≡ Ok tt
      → (spaced (cells_of text) m ≡ converted (cells_of text) m j b) × ((too_deep (cells_of text) ≡ false) × ((losses ≤ j) × (words ≤ length bs')))
  own-fine e = let f = within deep j (length bs') losses words e in (decided e, (w.1 (cells_of text) (bytes-cells_of text) ∙ f.0, f.1))

pub spaced-full : (x : List Cell) (m : ℕ) → m < quotes_need caption x → Err NoSpace ≡ spaced x m
unfolding spaced
spaced-full x m h = rw (lt-ltb m (quotes_need caption x) h) refl

pub spaced-done : (x : List Cell) (m : ℕ) {d : Converted} → quotes_need caption x ≤ m → d.size ≡ length (quotes caption x) → d.losses ≡ length (quote_losses x) → d.bytes ≡ length (loss_bytes x) → Ok d ≡ spaced x m
unfolding spaced
spaced-done x m {d} h a b c = rw (le-ltb m (quotes_need caption x) h, ← a, ← b, ← c) refl

-- ---- the losses of an answer

pub refused-noted : (text : List ℕ) (j : ℕ) (r : Refusal) (numbers : List ℕ) → Noted text j (Err r) numbers
refused-noted text j r numbers = record { room = omega arith; few = omega arith; there = refl }

-- behind the first `base` numbers others were written
pub done-noted : (text : List ℕ) (j base : ℕ) (ns rest : List ℕ) {d : Converted} → d.losses ≤ j → take (5 * d.losses) (take base ns) ≡ loss_records text (cells_of text) → 5 * d.losses ≤ base → base ≤ length ns
    → Noted text j (Ok d) (take base ns ++ rest)
done-noted text j base ns rest {d} few there room in-numbers =
    let n : length (take base ns) ≡ base = length-take-le base ns in-numbers in
    let z = length-append (take base ns) rest in
    record { room = omega (arith, n, z); few = few; there = take-append-le (5 * d.losses) (take base ns) rest (omega (arith, n)) ∙ there }

-- ---- the pass

-- a text at the front is taken
pub source-taken : (text bs ns : List ℕ) → part 0 (0 + length text) (cells bs ns) ≡ cells_of text → take (length text) (cells bs ns) ≡ cells_of text
unfolding part
source-taken text bs ns h = ap (λ (k : ℕ). take k (cells bs ns)) (sym (zero-add (length text))) ∙ h

module _ (text : List ℕ) (y v : List Cell) (n end : ℕ) (out plain : List ℕ) (z : y ≡ cells_of text) (area : end ≡ n + length out) where
  pub written-full : (out' plain' : List ℕ) {r : Refusal} → end < n + quotes_need caption y → r ≡ NoSpace → Written text out plain (Err r) out' plain'
  written-full out' plain' far g = let e : quotes_need caption y ≡ quotes_need caption (cells_of text) = ap (quotes_need caption) z in (omega (arith, e, area, far), g)

  pub written-done : (r : ℕ) {need : ℕ} → ((n + quotes_need caption y ≤ end) × (need ≡ quotes_need caption y)) × ((r ≡ n + length (quotes caption y)) × (part n r (take end v) ≡ quotes caption y)) → r ≤ end
      → {out' plain' : List ℕ} → LaidOut (part n r v) (length out) (length plain) out' plain' → Written text out plain (Ok (r - n)) out' plain'
  unfolding part
  written-done r p fit laid =
      let e : quotes_need caption y ≡ quotes_need caption (cells_of text) = ap (quotes_need caption) z in
      let t : length (quotes caption y) ≡ length (quotes caption (cells_of text)) = ap (λ (c : List Cell). length (quotes caption c)) z in
      let c : part n r v ≡ quotes caption (cells_of text) = ap (drop n) (sym (take-take r end v fit)) ∙ p.1.1 ∙ ap (quotes caption) z in
      ((omega (arith, p.0.0, e, area), omega (arith, p.1.0, t)), rw (← c) laid)

-- what the pass leaves stays within the room
pub quoted-within : (x : List Cell) (n end r : ℕ) → n + quotes_need caption x ≤ end → r ≡ n + length (quotes caption x) → (n ≤ r) × (r ≤ end)
quoted-within x n end r h e = let f = quotes-fit caption x in (omega (arith, e), omega (arith, e, f, h))

-- ---- what is left

-- the loss bytes are in the slice, and clearing it behind them fills it
module _ (text : List ℕ) {m k : ℕ} (d : Converted) {out plain words : List ℕ} (l : Left text m k (Ok d) out plain words) where
  pub left-within : d.bytes ≤ length words
  left-within = let s = l.1 in omega (arith, ap length s.words-there, length-take d.bytes words, s.size)

  pub left-filled : {b : ℕ} {words' : List ℕ} → length words ≡ b → words' ≡ cleared d.bytes words → Filled (quotes caption (cells_of text)) (loss_bytes (cells_of text)) m k b out plain words'
  left-filled {b} lb e = let s = l.1 in record { laid = l.0; spelled = e ∙ laid-cleared (loss_bytes (cells_of text)) words d.bytes b lb (sym s.size) s.words-there }
