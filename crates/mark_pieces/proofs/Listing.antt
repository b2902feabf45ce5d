-- Laws of the span numbers. Assumes nothing.
use mathlib.Core.Path.{◌≡◌, refl, sym, ap, ◌∙◌}
use mathlib.Core.Bool.{Bool, true, false, cond}
use Rattle.std.specs.Int.{from_bool}
use mathlib.Core.List.{List, [], ◌∷◌, ◌++◌, append_assoc, map}
use Prim.Native.Nat.{ℕ, suc, ◌+◌, ◌≤◌, ◌<◌}
use native.Mathlib.Omega.{arith}
use lib.ListN.{length, take, drop, get_or, set, length-append}
use lib.Seq.{take-suc, take-set-lt, length-take-le, set_at}
use Rattle.std.proofs.lemmas.List.{take_all}
use Rattle.mark_pieces.specs.Spans.{raised}

pub bit-cond : (b : Bool) → from_bool b ≡ cond b 1 0
bit-cond true = refl
bit-cond false = refl

-- a loop over numbers that puts f of each in its place, at its end
pub mapped-all : (f : ℕ → ℕ) (ss₀ ss : List ℕ) (i : ℕ) → length ss ≤ i → length ss ≡ length ss₀ → take i ss ≡ map f (take i ss₀) → ss ≡ map f ss₀
mapped-all f ss₀ ss i h l e = sym (take_all i ss h) ∙ e ∙ ap (map f) (take_all i ss₀ (omega arith))

two-more : (l : List ℕ) (c : ℕ) → c + 1 < length l → take (c + 2) l ≡ take c l ++ (get_or l c 0 ∷ get_or l (suc c) 0 ∷ [])
two-more l c h =
    let z : c + 2 ≡ suc (suc c) = omega arith in
    rw (z, take-suc l (suc c) 0 (omega arith), take-suc l c 0 (omega arith)) (append_assoc (take c l) (get_or l c 0 ∷ []) (get_or l (suc c) 0 ∷ []))

pub listed : (ss ss' : List ℕ) (c e start end by : ℕ) → c + 2 ≤ e → e ≤ length ss → length ss' ≡ length ss → take e ss' ≡ take (c + 2) ss ++ raised by (drop (c + 2) (take e ss))
    → take e (set (set ss' c start) (c + 1) end) ≡ take c ss ++ (start ∷ end ∷ raised by (drop (c + 2) (take e ss)))
listed ss ss' c e start end by h k l m =
    let tail = raised by (drop (c + 2) (take e ss)) in
    let n = length-take-le c ss (omega arith) in
    let two : take (c + 2) ss ≡ take c ss ++ (get_or ss c 0 ∷ get_or ss (suc c) 0 ∷ []) = two-more ss c (omega arith) in
    let w : take e ss' ≡ take c ss ++ (get_or ss c 0 ∷ get_or ss (suc c) 0 ∷ tail) = m ∙ rw two (append_assoc (take c ss) (get_or ss c 0 ∷ get_or ss (suc c) 0 ∷ []) tail) in
    let z : c + 1 ≡ suc c = omega arith in
    let y : length (take c ss ++ (start ∷ [])) ≡ c + 1 = length-append (take c ss) (start ∷ []) ∙ rw n in
    rw (take-set-lt e (set ss' c start) (c + 1) end (omega arith), take-set-lt e ss' c start (omega arith), w, set_at (take c ss) (get_or ss c 0) (get_or ss (suc c) 0 ∷ tail) start c n)
    (ap (λ (u : List ℕ). set u (c + 1) end) (sym (append_assoc (take c ss) (start ∷ []) (get_or ss (suc c) 0 ∷ tail)))
    ∙ set_at (take c ss ++ (start ∷ [])) (get_or ss (suc c) 0) tail end (c + 1) y ∙ append_assoc (take c ss) (start ∷ []) (end ∷ tail))
