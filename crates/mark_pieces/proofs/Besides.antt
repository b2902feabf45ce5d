-- Laws of the pieces that stand behind the area that they are written into. Assumes nothing.
use mathlib.Core.Path.{◌≡◌}
use mathlib.Core.Bool.{Bool, true, false, ◌&&◌}
use mathlib.Core.List.{List, [], ◌∷◌}
use Prim.Native.Nat.{ℕ, ◌-◌, ◌≤◌, ◌<◌}
use native.Mathlib.Omega.{arith}
use lib.ListN.{length, take, drop, get_or}
use Rattle.text.specs.Ascii.{is}
use Rattle.text.specs.Cells.{cells, part, sign}
use Rattle.text.specs.Writes.{AppendsIn}
use Rattle.text.proofs.Areas.{appends_in-then, appends_in-as, lifts, apart-cells}
use Rattle.mark_tags.specs.Marks.{backslash, touching, piece_text}
use Rattle.mark_tags.specs.Flat.{even_run}
use Rattle.mark_pieces.specs.Behind.{escaped_part}
use Rattle.mark_pieces.proofs.Pieces.{unescaped, piece-by}

module _ (bs ns : List ℕ) (a e : ℕ) (h : a < e) (hs : e ≤ length bs) (hn : e ≤ length ns) where
  pub escaped-in : {bs₁ ns₁ bs₂ ns₂ bs₃ ns₃ : List ℕ} {end at at₁ at₂ at₃ : ℕ} (escape : Bool) → end ≤ a → escape ≡ true → AppendsIn bs ns end at bs₁ ns₁ at₁ (part a (e - 1) (cells bs ns))
      → AppendsIn bs₁ ns₁ end at₁ bs₂ ns₂ at₂ (sign 92 ∷ []) → AppendsIn bs₂ ns₂ end at₂ bs₃ ns₃ at₃ (part (e - 1) e (cells bs₂ ns₂))
      → AppendsIn bs ns end at bs₃ ns₃ at₃ (escaped_part escape a e (cells bs ns))
  escaped-in {bs₁} {ns₁} {bs₂} {ns₂} escape k t p q r =
      let z : part (e - 1) e (cells bs₂ ns₂) ≡ part (e - 1) e (cells bs ns) = apart-cells (e - 1) e (λ _. omega arith) (appends_in-then p q) in
      rw t (appends_in-then p (appends_in-then q (appends_in-as z r)))

  pub unescaped-in : {bs' ns' : List ℕ} {end at at' : ℕ} (escape : Bool) → escape ≡ false → AppendsIn bs ns end at bs' ns' at' (part a e (cells bs ns))
      → AppendsIn bs ns end at bs' ns' at' (escaped_part escape a e (cells bs ns))
  unescaped-in escape n p = lifts p (unescaped bs ns a e h hs hn escape n p.appends)

  pub piece-in : {bs₁ ns₁ bs₂ ns₂ : List ℕ} {end at at₁ at₂ : ℕ} (g m b₁ b₂ : Bool) → end ≤ a
      → b₁ ≡ (g && is "}" (get_or bs a 0)) → b₂ ≡ (touching m (get_or bs (e - 1) 0) && even_run true (drop a (take (e - 1) bs)))
      → AppendsIn bs ns end at bs₁ ns₁ at₁ (backslash b₁) → AppendsIn bs₁ ns₁ end at₁ bs₂ ns₂ at₂ (escaped_part b₂ a e (cells bs₁ ns₁))
      → AppendsIn bs ns end at bs₂ ns₂ at₂ (piece_text g m (part a e (cells bs ns)))
  piece-in {bs₁} {ns₁} {bs₂} {ns₂} {end} {at} {at₁} {at₂} g m b₁ b₂ k e₁ e₂ p q =
      let z₁ : part a (e - 1) (cells bs₁ ns₁) ≡ part a (e - 1) (cells bs ns) = apart-cells a (e - 1) (λ _. k) p in
      let z₂ : part (e - 1) e (cells bs₁ ns₁) ≡ part (e - 1) e (cells bs ns) = apart-cells (e - 1) e (λ _. omega arith) p in
      let q' : AppendsIn bs₁ ns₁ end at₁ bs₂ ns₂ at₂ (escaped_part b₂ a e (cells bs ns)) = rw (z₁, z₂) at q in
      lifts (appends_in-then p q') (piece-by bs ns a e h hs hn g m b₁ b₂ e₁ e₂ p.appends q'.appends)
