-- Laws of a mark's delimiters around its body. Assumes nothing.
use mathlib.Core.Path.{◌≡◌, refl, sym, ap, ◌∙◌, subst}
use mathlib.Core.Bool.{Bool, true, false, ◌&&◌}
use mathlib.Core.List.{List, [], ◌∷◌, ◌++◌, append_assoc}
use Prim.Native.Nat.{ℕ, ◌+◌, ◌-◌, ◌≤◌, ◌<◌}
use native.Mathlib.Omega.{arith}
use lib.ListN.{length, take, drop, get_or, length-append}
use lib.Seq.{take-take}
use borrow.Author.Tests.{eq-eqb}
use Rattle.text.specs.Ascii.{is}
use Rattle.text.specs.Cells.{Cell, cell, cells, part, sign}
use Rattle.text.specs.Writes.{Holds, Appends}
use Rattle.text.proofs.Writing.{holds_fits, part-snoc}
use Rattle.mark_tags.specs.Marks.{escape_last, backslash}
use Rattle.mark_tags.specs.Flat.{even_run, Inserts, Becomes, behind_brace}
use Rattle.mark_pieces.proofs.Pieces.{escape-last, part_bytes, part-behind, cells-long}

-- ---- the closing delimiter

pub becomes-braced : {v v₁ v₂ v₃ : List Cell} {p at at₁ at₂ at₃ : ℕ} (d : ℕ) → p ≤ at → Inserts v p at v₁ at₁ (sign 123) → Appends v₁ at₁ v₂ at₂ (sign d ∷ []) → Appends v₂ at₂ v₃ at₃ (sign 125 ∷ [])
    → Becomes (behind_brace true d) v p at v₃ at₃
becomes-braced {v} {v₁} {v₂} {v₃} {p} {at} {at₁} {at₂} {at₃} d h i a b =
    let g = i.grows in
    let g₁ = a.grows in
    let g₂ = b.grows in
    record {
      step = λ s t n k. subst (Holds v₃ at₃) (append_assoc (s ++ (sign 123 ∷ t)) (sign d ∷ []) (sign 125 ∷ []) ∙ append_assoc s (sign 123 ∷ t) (sign d ∷ sign 125 ∷ [])) (b.step ((s ++ (sign 123 ∷ t)) ++ (sign d ∷ [])) (a.step (s ++ (sign 123 ∷ t)) (i.step s t n k)));
      keeps = sym (take-take p at₂ v₃ (omega arith)) ∙ ap (take p) b.keeps ∙ take-take p at₂ v₂ (omega arith) ∙ sym (take-take p at₁ v₂ (omega arith)) ∙ ap (take p) a.keeps ∙ take-take p at₁ v₁ (omega arith) ∙ i.keeps;
      grows = omega arith;
    }

pub becomes-bare : {v v₁ : List Cell} {p at at₁ : ℕ} (d : ℕ) → p ≤ at → Appends v at v₁ at₁ (sign d ∷ []) → Becomes (behind_brace false d) v p at v₁ at₁
becomes-bare {v} {v₁} {p} {at} {at₁} d h a =
    record {
      step = λ s t n k. subst (Holds v₁ at₁) (append_assoc s t (sign d ∷ [])) (a.step (s ++ t) k);
      keeps = sym (take-take p at v₁ h) ∙ ap (take p) a.keeps ∙ take-take p at v h;
      grows = a.grows;
    }

-- ---- a last `{`

module _ (bs ns : List ℕ) (p at last : ℕ) (lt : p < at) (fit : at ≤ length bs) (wide : length bs ≤ length ns) (e : last ≡ at - 1) where
  abbrev front : List Cell
  front = part p last (cells bs ns)

  abbrev final : Cell
  final = cell (get_or bs last 0) (get_or ns last 0)

  long : length (cells bs ns) ≡ length bs
  long = cells-long bs ns wide

  all : part p at (cells bs ns) ≡ front ++ (final ∷ [])
  all = let z : at ≡ last + 1 = omega arith in rw z (part-snoc bs ns p last (omega arith) (omega arith) (omega arith))

  body : (s t : List Cell) → length s ≡ p → Holds (cells bs ns) at (s ++ t) → t ≡ front ++ (final ∷ [])
  body s t n h = let l = long in sym (part-behind (cells bs ns) s t p at n (h.text (holds_fits (cells bs ns) at (s ++ t) h (omega arith)))) ∙ all

  escaped : escape_last (is "{") true (front ++ (final ∷ [])) ≡ front ++ (backslash (is "{" (get_or bs last 0) && even_run true (drop p (take last bs))) ++ (final ∷ []))
  escaped = escape-last (is "{") true front final ∙ rw (part_bytes p last bs ns (omega arith) (omega arith))

  pub escape-yes : {v' : List Cell} {at' : ℕ} → get_or bs last 0 ≡ 123 → true ≡ even_run true (drop p (take last bs)) → Inserts (cells bs ns) last at v' at' (sign 92) → Becomes (escape_last (is "{") true) (cells bs ns) p at v' at'
  escape-yes {v'} {at'} b f i = record {
    step = λ s t n h.
        let q = body s t n h in
        let l = long in
        let w : escape_last (is "{") true t ≡ front ++ (sign 92 ∷ final ∷ []) = ap (escape_last (is "{") true) q ∙ escaped ∙ rw (← f, eq-eqb (get_or bs last 0) 123 b) in
        let fits = holds_fits (cells bs ns) at (s ++ t) h (omega arith) in
        let y = h.end fits in
        let a₁ = length-append s t in
        let a₂ = ap length q in
        let a₃ = length-append front (final ∷ []) in
        let a₄ = length-append s front in
        let h' : Holds (cells bs ns) at ((s ++ front) ++ (final ∷ [])) = subst (Holds (cells bs ns) at) (ap (λ (u : List Cell). s ++ u) q ∙ sym (append_assoc s front (final ∷ []))) h in
        subst (Holds v' at') (append_assoc s front (sign 92 ∷ final ∷ []) ∙ ap (λ (u : List Cell). s ++ u) (sym w)) (i.step (s ++ front) (final ∷ []) (omega arith) h');
    keeps = sym (take-take p last v' (omega arith)) ∙ ap (take p) i.keeps ∙ take-take p last (cells bs ns) (omega arith);
    grows = i.grows;
  }

  pub escape-no : (is "{" (get_or bs last 0) && even_run true (drop p (take last bs))) ≡ false → Becomes (escape_last (is "{") true) (cells bs ns) p at (cells bs ns) at
  escape-no b = record {
    step = λ s t n h.
        let q = body s t n h in
        let w : escape_last (is "{") true t ≡ t = ap (escape_last (is "{") true) q ∙ escaped ∙ rw b (sym q) in
        subst (Holds (cells bs ns) at) (ap (λ (u : List Cell). s ++ u) (sym w)) h;
    keeps = refl;
    grows = omega arith;
  }

-- ---- both, one after the other

pub closes-step : {v v₁ v₂ : List Cell} {p at at₁ at₂ : ℕ} (br : Bool) (d : ℕ) → Becomes (escape_last (is "{") true) v (p + 1) at v₁ at₁ → Becomes (behind_brace br d) v₁ p at₁ v₂ at₂
    → (o : Cell) (s body : List Cell) → length s ≡ p → Holds v at (s ++ (o ∷ body)) → Holds v₂ at₂ (s ++ behind_brace br d (o ∷ escape_last (is "{") true body))
closes-step {v} {v₁} {v₂} {p} {at} {at₁} {at₂} br d a b o s body n h =
    let l = length-append s (o ∷ []) in
    let h₁ : Holds v at ((s ++ (o ∷ [])) ++ body) = subst (Holds v at) (sym (append_assoc s (o ∷ []) body)) h in
    let h₂ = a.step (s ++ (o ∷ [])) body (omega arith) h₁ in
    b.step s (o ∷ escape_last (is "{") true body) n (subst (Holds v₁ at₁) (append_assoc s (o ∷ []) (escape_last (is "{") true body)) h₂)

pub closes-keeps : {v v₁ v₂ : List Cell} {p at at₁ at₂ : ℕ} (br : Bool) (d : ℕ) → Becomes (escape_last (is "{") true) v (p + 1) at v₁ at₁ → Becomes (behind_brace br d) v₁ p at₁ v₂ at₂ → take p v₂ ≡ take p v
closes-keeps {v} {v₁} {v₂} {p} br d a b = b.keeps ∙ sym (take-take p (p + 1) v₁ (omega arith)) ∙ ap (take p) a.keeps ∙ take-take p (p + 1) v (omega arith)
