-- Joined texts that do not fit mean a caption that does not fit. Assumes nothing.
use mathlib.Core.Bool.{cond}
use mathlib.Core.List.{List, [], ◌∷◌}
use Prim.Native.Nat.{ℕ, ◌≤◌}
use native.Mathlib.Omega.{arith}
use lib.ListN.{length, length-append}
use Rattle.text.specs.Ascii.{ascii, is_empty}
use Rattle.attribution_parts.specs.declared.Kind.TheVariants.{Name}
use Rattle.attribution_parts.specs.Parts.{parts}
use Rattle.attribution_parts.specs.Attribution.{spaced, within, field_of, or_else, texts, id, name, date, caption_of, caption}
use Rattle.attribution_losses.specs.Captions.{name_texts}

spaced-holds : (x y : List ℕ) → length x ≤ length (spaced x y)
spaced-holds [] y = omega arith
spaced-holds (a ∷ x) [] = omega arith
spaced-holds (a ∷ x) (b ∷ y) = let m = length-append (a ∷ x) (32 ∷ b ∷ y) in omega (arith, m)

-- the texts are the name, where there is no name field
texts-within : (f t rest : List ℕ) → length (cond (is_empty f) t []) ≤ length (spaced (or_else f t) rest)
texts-within [] t rest = spaced-holds t rest
texts-within (c ∷ f) t rest = omega arith

pub texts-within-caption : (s : List ℕ) → length (name_texts s) ≤ length (caption s)
unfolding name_texts caption caption_of name
texts-within-caption s =
    let ps = parts 0 s in
    texts-within (field_of Name ps) (texts ps) (spaced (within (ascii "(") (date ps) (ascii ")")) (within (ascii "#") (id ps) []))
