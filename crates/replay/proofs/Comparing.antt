-- Laws of comparing two texts. Assumes nothing.
use mathlib.Core.Path.{◌≡◌, sym, ap, ◌∙◌}
use mathlib.Core.Logic.{◌≢◌}
use mathlib.Core.Bool.{Bool, false}
use mathlib.Core.List.{List, ◌++◌}
use Prim.Native.Nat.{ℕ}
use lib.Dec.{eqb}
use borrow.Author.Rules.{rules}
use Rattle.std.specs.Cmp.Lexicographic.{pointwise}
use Rattle.std.proofs.lemmas.Bool.{false≢true}
use Rattle.std.proofs.lemmas.Bool.Decides.{same_from_decides, Decides-eqb}
use Rattle.std.proofs.lemmas.List.{append_cancel_right}
use Rattle.std.proofs.lemmas.Slice.Eq.{slice_eq-Decides, compares_Decides}
use Rattle.std.specs.Bool.{Decides}
use Rattle.quote_lines.specs.Lines.{same}

same-Decides : (a b : List ℕ) → Decides (same a b) (a ≡ b)
unfolding same
same-Decides = compares_Decides same (search rules)

-- a text that ends with p is y with p behind it, where its front is y
pub same_front : (s front y p : List ℕ) (r : Bool) → s ≡ front ++ p → r ≡ pointwise eqb front y → r ≡ same s (y ++ p)
same_front s front y p r e h =
    let d = slice_eq-Decides Decides-eqb front y r h in
    same_from_decides r (same s (y ++ p)) (λ t. e ∙ ap (λ (l : List ℕ). l ++ p) (d.0 t), λ q. d.1 (append_cancel_right front y p (sym e ∙ q))) (same-Decides s (y ++ p))

-- one that does not end with p is no such text
pub other_end : (s y p : List ℕ) → ((front : List ℕ) → s ≢ front ++ p) → false ≡ same s (y ++ p)
other_end s y p n = same_from_decides false (same s (y ++ p)) (λ t. absurd (false≢true t), λ q. absurd (n y q)) (same-Decides s (y ++ p))
