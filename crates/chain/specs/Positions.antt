-- Document 01, "Positions to replay": the starred ones, as one list.
--   Position            an operation, a text, and what the operation makes of it
--   result op s         what the operation makes of the text s, by the definitions
--   starred             the marked set
--   all_right ps         each position's text gives what it says
-- Assumes nothing.
use Rattle.std.specs.Prelude.{ℕ, ◌≡◌, refl, Bool, true, false, ◌&&◌, List, [], ◌∷◌, eqb}
use Prim.Native.String.{String}
use Rattle.text.specs.Ascii as Ascii
use Rattle.text.specs.Ascii.{ascii}
use Rattle.text.specs.Blanks as Blanks
use Rattle.text.specs.Cells as Cells
use Rattle.text.specs.Cells.{cells_of, bytes}
use Rattle.text.specs.Lines as Lines
use Rattle.text.specs.Decimal as Decimal
use Rattle.mark_tags.specs.Marks as Marks
use Rattle.day.specs.Day as Day
use Rattle.attribution_parts.specs.Parts as Parts
use Rattle.attribution_parts.specs.Attribution as Attribution
use Rattle.quote_tags.specs.Tags as QuoteTags
use Rattle.quote_blocks.specs.Quotes as Quotes
use Rattle.list_blocks.specs.Tags as ListTags
use Rattle.list_blocks.specs.Blocks as Blocks
use Rattle.list_blocks.specs.Lists as Lists

pub data Operation : Type 0 where
  a_marks a_lists a_quotes an_attribution a_day : Operation

pub record Position : Type 0 where
  pub operation : Operation
  pub text : String
  pub gives : String

unfoldable pub result : Operation → List ℕ → List ℕ
result a_marks s = bytes (Marks.marks (cells_of s)).cells
result a_lists s = bytes (Lists.lists (cells_of s))
result a_quotes s = bytes (Quotes.quotes Attribution.caption (cells_of s))
result an_attribution s = Attribution.caption s
result a_day s = Day.day_of s

abbrev pub at : Operation → String → String → Position
at op text gives = record { operation = op; text = text; gives = gives }

unfoldable pub starred : List Position
starred =
    at a_marks "a[b]b[/b]" "a{*b*}"
    ∷ at a_marks "[b][i]x[/b][/i]" "[b]/x/"
    ∷ at a_marks "[b]x[b]y[/b]z[/b]" "*xyz*"
    ∷ at a_marks "[i][b]x[/b][/i]" "{/*x*/}"
    ∷ at a_marks "{[b]x[/b]}" "{*x*\\}"
    ∷ at a_marks "\\[/b]*[b]x[/b]" "\\\\*{*x*}"
    ∷ at a_lists "[list][*]a[*][*]b[/list]" "\n\n- a\n\n- b\n\n"
    ∷ at a_lists "[list=1][*]a[list][*]b[/list][/list]" "\n\n1. a\n   - b\n\n"
    ∷ at a_quotes "[/quote]x" "x"
    ∷ at an_attribution "\"42\" Ann" "Ann #42"
    ∷ at an_attribution ";7" ";7"
    ∷ at a_day "951782400" "2000-02-29"
    ∷ []

abbrev pub same : List ℕ → List ℕ → Bool
same [] [] = true
same [] (b ∷ t) = false
same (a ∷ s) [] = false
same (a ∷ s) (b ∷ t) = eqb a b && same s t

abbrev pub all_right : List Position → Bool
all_right [] = true
all_right (p ∷ ps) = same (result p.operation (ascii p.text)) (ascii p.gives) && all_right ps

pub starred-right : all_right starred ≡ true
unfolding result starred Ascii.computes Blanks.computes Cells.computes Lines.computes Decimal.computes Marks.computes Day.computes Parts.computes Attribution.computes QuoteTags.computes Quotes.computes ListTags.computes Blocks.computes Lists.computes
starred-right = refl
