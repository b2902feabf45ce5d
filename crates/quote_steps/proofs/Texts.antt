-- Laws of a run of text: cells where no quote tag begins, each a token of its own. Assumes nothing.
use mathlib.Core.Path.{◌≡◌, refl, sym, ap, subst, ◌∙◌}
use Prim.Native.Nat.{ℕ, zero, suc, ◌+◌, ◌-◌, ◌≤◌, ◌<◌, max}
use native.Mathlib.Omega.{arith}
use mathlib.Core.List.{List, [], ◌∷◌, ◌++◌, append_assoc, append-nil}
use lib.ListN.{length, take, drop, length-append, length-map}
use lib.Seq.{drop-drop}
use Rattle.text.specs.Cells.{Cell, bytes, part}
use Rattle.text.proofs.Sources.{part-take}
use Rattle.quote_tags.specs.Tags.{NoTag}
use Rattle.quote_tags.proofs.Plain.{PlainRun}
use Rattle.quote_blocks.proofs.Reading.{first-text, bytes-at}
use Rattle.quote_blocks.specs.Quotes.{Token, text, tokens, State, total, step, run, run_need, too_deep_from}
use Rattle.quote_steps.specs.Passes.{texts, more}

-- ---- reading it

run-text : (n : ℕ) (x : List Cell) → ((j : ℕ) → j < n → NoTag (drop j (bytes x))) → tokens 0 x ≡ texts (take n x) (tokens 0 (drop n x))
unfolding texts
run-text zero x f = refl
run-text (suc n) [] f = refl
run-text (suc n) (c ∷ x) f =
    let z = f 0 (omega arith) in
    first-text c x z.0 z.1 ∙ ap (λ (r : List Token). text c ∷ r) (run-text n x (λ j h. f (suc j) (omega arith)))

-- x is the text and s its bytes
pub read-run : (x : List Cell) (s : List ℕ) → bytes x ≡ s → (i : ℕ) {q : ℕ} → PlainRun s i q → tokens 0 (drop i x) ≡ texts (part i q x) (tokens 0 (drop q x))
read-run x s e i {q} ((h, le), f) =
    let l = length-map x (λ (c : Cell). c.byte) in
    let m = ap length e in
    let z : i + (q - i) ≡ q = omega arith in
    let p : take (q - i) (drop i x) ≡ part i q x = sym (part-take x i (q - i) (omega (arith, l, m))) ∙ ap (λ (k : ℕ). part i k x) z in
    let d : drop (q - i) (drop i x) ≡ drop q x = drop-drop (q - i) i x ∙ ap (λ (k : ℕ). drop k x) z in
    run-text (q - i) (drop i x) (λ j g. subst NoTag (sym (ap (drop j) (bytes-at x s e i) ∙ drop-drop j i s)) (f (i + j) (omega arith) (omega arith))) ∙ rw (p, d)

pub deep-texts : (d : ℕ) (x : List Cell) (r : List Token) → too_deep_from d (texts x r) ≡ too_deep_from d r
unfolding too_deep_from texts
deep-texts d [] r = refl
deep-texts d (c ∷ x) r = deep-texts d x r

-- ---- taking it

pub more-is : (x : List Cell) (s : State) → more s x ≡ record { now = s.now ++ x; opened = s.opened }
unfolding more
more-is [] s = ap (λ (l : List Cell). record { now = l; opened = s.opened }) (sym (append-nil s.now))
more-is (c ∷ x) s =
    more-is x (record { now = s.now ++ c ∷ []; opened = s.opened }) ∙ ap (λ (l : List Cell). record { now = l; opened = s.opened }) (append_assoc s.now (c ∷ []) x)

pub more-opened : (x : List Cell) (s : State) → (more s x).opened ≡ s.opened
more-opened x s = ap (λ (u : State). u.opened) (more-is x s)

more-total : (x : List Cell) (s : State) → total s ≤ total (more s x)
unfolding total
more-total x s = rw (more-is x s) (let l = length-append s.now x in omega arith)

module _ (caption : List ℕ → List ℕ) where
  pub run-texts : (x : List Cell) (r : List Token) (s : State) → run caption (texts x r) s ≡ run caption r (more s x)
  unfolding run texts step more
  run-texts [] r s = refl
  run-texts (c ∷ x) r s = run-texts x r (step caption (text c) s)

  -- where all of it fits, only what comes behind it counts
  pub need-texts : (room : ℕ) (x : List Cell) (r : List Token) (s : State) → total (more s x) ≤ room → max room (run_need caption (texts x r) s) ≡ max room (run_need caption r (more s x))
  unfolding run_need texts step more
  need-texts room [] r s h = refl
  need-texts room (c ∷ x) r s h =
      let k = more-total (c ∷ x) s in
      let i = need-texts room x r (step caption (text c) s) h in
      omega (arith, k, h, i)

  -- it is needed
  pub texts-needed : (x : List Cell) (r : List Token) (s : State) → ((u : State) → total u ≤ run_need caption r u) → total (more s x) ≤ run_need caption (texts x r) s
  unfolding run_need texts step more
  texts-needed [] r s f = f s
  texts-needed (c ∷ x) r s f = let i = texts-needed x r (step caption (text c) s) f in omega (arith, i)
