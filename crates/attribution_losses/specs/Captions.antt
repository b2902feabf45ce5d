-- The pieces of a caption in code.
--   named s joined f n     the name: the n bytes of s from f on, where there are any; else the joined texts
--   gap left right         the space between two pieces, where neither is empty
--   added some w           what the text w adds behind joined texts: itself, behind a space where there are some
--   name_texts s            the joined texts, where they make the name: with a name field they are not needed
-- Assumes nothing.
use Rattle.std.specs.Prelude.{ℕ, Bool, cond, ◌&&◌, List, [], ◌∷◌, take, drop, eqb}
use Rattle.text.specs.Ascii.{is_empty}
use Rattle.attribution_parts.specs.declared.Kind.TheVariants.{Name}
use Rattle.attribution_parts.specs.Parts.{parts}
use Rattle.attribution_parts.specs.Attribution.{field_of, texts}

unfoldable pub named : List ℕ → List ℕ → ℕ → ℕ → List ℕ
named s joined from size = cond (eqb size 0) joined (take size (drop from s))

unfoldable pub gap : Bool → Bool → List ℕ
gap left right = cond (left && right) (32 ∷ []) []

-- what a text adds to joined texts, some or none
unfoldable pub added : (some : Bool) → List ℕ → List ℕ
added some w = cond (is_empty w) [] (cond some (32 ∷ w) w)

unfoldable pub name_texts : List ℕ → List ℕ
name_texts s = cond (is_empty (field_of Name (parts 0 s))) (texts (parts 0 s)) []
