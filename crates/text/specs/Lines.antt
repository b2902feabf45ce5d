-- Trimming and lines (document 01: "Trimming removes those", the blank characters).
--   trim_start, trim_end, trim   without the blank characters at its start, at its end, at both
--   is_feed c                   a line feed (every cell of a post or of a written text with the byte 10 is blank)
--   lines x                    the lines, without their line feeds; a line feed at the very end starts no line
--   joined ls                  lines joined by line feeds, which a rule writes
-- Assumes nothing.
use Rattle.std.specs.Prelude.{Bool, true, false, cond, ◌&&◌, List, [], ◌∷◌, ◌++◌, eqb}
use Rattle.text.specs.Cells.{Cell, feed}

unfoldable pub trim_start : List Cell → List Cell
trim_start [] = []
trim_start (c ∷ x) = cond c.blank (trim_start x) (c ∷ x)

-- c before a text whose end is trimmed
abbrev pub trim_onto : Cell → List Cell → List Cell
trim_onto c [] = cond c.blank [] (c ∷ [])
trim_onto c (d ∷ x) = c ∷ d ∷ x

unfoldable pub trim_end : List Cell → List Cell
trim_end [] = []
trim_end (c ∷ x) = trim_onto c (trim_end x)

unfoldable pub trim : List Cell → List Cell
trim x = trim_end (trim_start x)

-- a blank text: nothing is left of it
unfoldable pub all_blank : List Cell → Bool
all_blank [] = true
all_blank (c ∷ x) = c.blank && all_blank x

unfoldable pub is_feed : Cell → Bool
is_feed c = eqb c.byte 10 && c.blank

-- c, a line feed or not, before a text that has the lines ls
abbrev pub line_onto : (feeds : Bool) → Cell → List (List Cell) → List (List Cell)
line_onto true c ls = [] ∷ ls
line_onto false c [] = (c ∷ []) ∷ []
line_onto false c (l ∷ ls) = (c ∷ l) ∷ ls

unfoldable pub lines : List Cell → List (List Cell)
lines [] = []
lines (c ∷ x) = line_onto (is_feed c) c (lines x)

-- each line behind a line feed
unfoldable pub followed : List (List Cell) → List Cell
followed [] = []
followed (l ∷ ls) = feed ∷ l ++ followed ls

unfoldable pub joined : List (List Cell) → List Cell
joined [] = []
joined (l ∷ ls) = l ++ followed ls

-- all of this module, for `unfolding` where a closed text is to be computed
unfoldable pub computes : Unit {0}
unfolding trim_start trim_end trim all_blank is_feed lines followed joined
computes = tt
