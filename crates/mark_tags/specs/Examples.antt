-- Document 01, "Positions to replay", for the marks pass, and a few more with their spans, by computation.
--   Writes s t    the marks text of s is t
--   Takes s t     the cells of the tags taken out of s spell t
--   Spans s l     the span numbers of s are l
-- Assumes nothing.
use Rattle.std.specs.Prelude.{◌≡◌, refl, List, [], ◌∷◌, ℕ}
use Prim.Native.String.{String}
use Rattle.text.specs.Ascii as Ascii
use Rattle.text.specs.Ascii.{ascii}
use Rattle.text.specs.Blanks as Blanks
use Rattle.text.specs.Cells as Cells
use Rattle.text.specs.Cells.{bytes, cells_of}
use Rattle.mark_tags.specs.Marks.{marks, taken_marks, span_numbers, computes}

abbrev Writes : String → String → Type 0
Writes s t = bytes (marks (cells_of (ascii s))).cells ≡ ascii t

abbrev Takes : String → String → Type 0
Takes s t = bytes (taken_marks (cells_of (ascii s))) ≡ ascii t

abbrev Spans : String → List ℕ → Type 0
Spans s l = span_numbers (marks (cells_of (ascii s))).spans ≡ l

worked : Writes "a[b]b[/b]" "a{*b*}"
    × Writes "[b][i]x[/b][/i]" "[b]/x/"
    × Writes "[b]x[b]y[/b]z[/b]" "*xyz*"
    × Writes "[i][b]x[/b][/i]" "{/*x*/}"
    × Writes "{[b]x[/b]}" "{*x*\\}"
    × Writes "\\[/b]*[b]x[/b]" "\\\\*{*x*}"
    × Writes "[b]x{[/b]" "*x\\{*"
unfolding computes Ascii.computes Blanks.computes Cells.computes
worked = (refl, refl, refl, refl, refl, refl, refl)

-- an empty mark does not come between; the `}` rule takes an escaped `{`, and vanished tags between do not matter
read : Writes "*[b][/b][i]x[/i]" "\\*/x/" × Writes "\\{[b]x[/b]}" "\\{*x*\\}" × Writes "{[b]x[/b][/i]}" "{*x*\\}"
unfolding computes Ascii.computes Blanks.computes Cells.computes
read = (refl, refl, refl)

taken : Takes "a[b]b[/b]" "[b][/b]" × Takes "[b][i]x[/b][/i]" "[i][/b][/i]" × Takes "[b]x[b]y[/b]z[/b]" "[b][b][/b][/b]"
unfolding computes Ascii.computes Blanks.computes Cells.computes
taken = (refl, refl, refl)

spanned : Spans "a[b]b[/b]" (1 ∷ 6 ∷ []) × Spans "[i][b]x[/b][/i]" (0 ∷ 7 ∷ 2 ∷ 5 ∷ []) × Spans "[b]x[/b] [u]y[i]z[/i][/u]" (0 ∷ 3 ∷ 4 ∷ 12 ∷ 6 ∷ 11 ∷ [])
unfolding computes Ascii.computes Blanks.computes Cells.computes
spanned = (refl, refl, refl)
