-- Laws of closing a quote in one pair of slices. Assumes nothing.
use mathlib.Core.Path.{◌≡◌, refl, sym, ap, ◌∙◌}
use Prim.Native.Nat.{ℕ, ◌+◌, ◌-◌, ◌≤◌, ◌<◌}
use native.Mathlib.Omega.{arith}
use mathlib.Core.List.{List, ◌++◌}
use lib.ListN.{length, take, drop, length-append}
use lib.Seq.{length-take-le, take-take, drop_at}
use Rattle.text.specs.Cells.{Cell, cells, part}
use Rattle.text.specs.Writes.{Holds, Appends, AppendsIn}
use Rattle.text.proofs.Writing.{holds_fits}
use Rattle.text.proofs.Areas.{area-length}
use Rattle.text.proofs.Sources.{cells-taken}
use Rattle.quote_steps.specs.Passes.{BuiltIn, ClosesIn}
use Rattle.quote_steps.proofs.Passing.{cells-front, holds-cut, holds-part}

-- ---- building

-- the bytes behind `top` changed first
pub built-behind : {bs bs₁ ns bs₂ ns₂ : List ℕ} {end top r : ℕ} {t : List Cell} → take top bs₁ ≡ take top bs → end ≤ top → AppendsIn bs₁ ns top end bs₂ ns₂ r t → {u : List Cell}
    → Appends (take top (cells bs₁ ns)) end (take top (cells bs₂ ns₂)) r u → BuiltIn bs ns end top bs₂ ns₂ r u
built-behind {bs} {bs₁} {ns} {bs₂} {ns₂} {end} {top} {r} e h p a = record {
  block = rw (sym (cells-front top bs bs₁ ns e)) a;
  bytes-kept = p.bytes-before ∙ sym (take-take end top bs₁ h) ∙ ap (take end) e ∙ take-take end top bs h;
  numbers-kept = p.numbers-before;
}

pub built-full : {bs bs₁ ns : List ℕ} {end top r : ℕ} {u : List Cell} → take top bs₁ ≡ take top bs → end ≤ top → Appends (take top (cells bs ns)) end (take top (cells bs ns)) r u → BuiltIn bs ns end top bs₁ ns r u
built-full {bs} {bs₁} {ns} {end} {top} {r} e h a = record {
  block = rw (cells-front top bs bs₁ ns e) a;
  bytes-kept = sym (take-take end top bs₁ h) ∙ ap (take end) e ∙ take-take end top bs h;
  numbers-kept = refl;
}

-- ---- closing

module _ (bs ns bs₁ ns₁ : List ℕ) (begin to end top n : ℕ) (block : List Cell → List Cell) (b : BuiltIn bs ns end top bs₁ ns₁ n (block (part begin to (cells bs ns))))
    (ht : to ≤ end) (he : end ≤ top) (hb : top ≤ length bs) (hn : top ≤ length ns) (sb : length bs₁ ≡ length bs) (sn : length ns₁ ≡ length ns) where
  abbrev t : List Cell
  t = block (part begin to (cells bs ns))

  abbrev front : List Cell
  front = take end (take top (cells bs ns))

  still : take end (cells bs₁ ns₁) ≡ take end (cells bs ns)
  still = sym (cells-taken end bs₁ ns₁) ∙ ap (λ (l : List ℕ). cells l (take end ns₁)) b.bytes-kept ∙ ap (cells (take end bs)) b.numbers-kept ∙ cells-taken end bs ns

  front_length : length front ≡ end
  front_length = let l = area-length bs ns top hb hn in length-take-le end (take top (cells bs ns)) (omega (arith, l, he))

  block-length : length (take top (cells bs₁ ns₁)) ≡ top
  block-length = area-length bs₁ ns₁ top (omega (arith, sb, hb)) (omega (arith, sn, hn))

  holds : Holds (take top (cells bs₁ ns₁)) n (front ++ t)
  holds =
      let l = front_length in
      let m = area-length bs ns top hb hn in
      b.block.step front (record { end = λ _. sym l; text = λ _. refl; full = λ lt. absurd (omega (arith, lt, l, m, he)) })

  whole_length : length (front ++ t) ≡ end + length t
  whole_length = length-append front t ∙ ap (λ (k : ℕ). k + length t) front_length

  there : n ≤ top → part end n (cells bs₁ ns₁) ≡ t
  unfolding part
  there fit =
      let l = block-length in
      ap (drop end) (sym (take-take n top (cells bs₁ ns₁) fit) ∙ holds.text (holds_fits (take top (cells bs₁ ns₁)) n (front ++ t) holds (omega (arith, l, fit)))) ∙ drop_at front t end front_length

  -- what stood there, read in the contents' area
  module _ (p c : List Cell) (h : Holds (take end (cells bs ns)) to (p ++ c)) (e : length p ≡ begin) where
    inside : to ≤ length (take end (cells bs ns))
    inside = let l = area-length bs ns end (omega arith) (omega arith) in omega (arith, l, ht)

    content : t ≡ block c
    unfolding part
    content = ap (λ (x : List Cell). block (drop begin x)) (sym (take-take to end (cells bs ns) ht)) ∙ ap block (holds-part (take end (cells bs ns)) to p c h inside begin e)

    start : Holds (take end (cells bs₁ ns₁)) begin p
    start = rw still (holds-cut (take end (cells bs ns)) to p c h inside begin e)

  pub closes-within : {bs' ns' : List ℕ} {r : ℕ} → n ≤ top → AppendsIn bs₁ ns₁ end begin bs' ns' r (part end n (cells bs₁ ns₁)) → ClosesIn bs ns end begin to bs' ns' r block
  closes-within {bs'} {ns'} {r} fit q = record {
    closes = record {
      step = λ p c h e. rw (sym (there fit ∙ content p c h e)) (q.appends.step p (start p c h e));
      keeps = q.appends.keeps ∙ ap (take begin) still;
    };
  }

  pub closes-within-full : (r : ℕ) → top < n → end ≤ begin + (top - end) → end < r → ClosesIn bs ns end begin to bs₁ ns₁ r block
  closes-within-full r lt room far =
      let k = area-length bs₁ ns₁ end (omega (arith, sb, hb, he)) (omega (arith, sn, hn, he)) in
      let l = block-length in
      let m = whole_length in
      record {
        closes = record {
          step = λ p c h e.
              let x : length t ≡ length (block c) = ap length (content p c h e) in
              let a = length-append p (block c) in
              let over : length (p ++ block c) ≤ length (take end (cells bs₁ ns₁)) → ⊥ = λ f. (let g = holds.end (omega (arith, f, k, l, m, x, a, e, room, he)) in omega (arith, g, f, k, l, m, x, a, e, room, he, lt)) in
              record { end = λ f. absurd (over f); text = λ f. absurd (over f); full = λ f. omega (arith, k, far) };
          keeps = ap (take begin) still;
        };
      }
