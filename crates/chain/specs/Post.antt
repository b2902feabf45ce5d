-- Document 01: "The whole-post operation runs marks, quotes, lists in that order." Marks reads the post, quotes the marks text, lists what
-- quotes hands on; a copied byte keeps its origin.
--   marks_text post    what marks writes of the post
--   quoted_text post   what quotes writes of the marks text
--   finished post     what lists writes of that: the converted post
--   taken_out post     the cells of the tags that are taken out: in marks a closer, or the opener of a closed mark; in quotes an opener with its
--                     attribution, or a closer; in lists an opener, or a `[*]` or `[/list]` that counts
--   Consumed post n   document 01's consumed: the post byte with the origin n stands in one of these tags
-- Assumes nothing.
use Rattle.std.specs.Prelude.{ℕ, List, ◌++◌}
use Rattle.text.specs.Cells.{Cell, cells_of}
use Rattle.text.specs.Origins.{StandsIn}
use Rattle.mark_tags.specs.Marks.{marks, taken_marks}
use Rattle.attribution_parts.specs.Attribution.{caption}
use Rattle.quote_blocks.specs.Quotes.{quotes, taken_quotes}
use Rattle.list_blocks.specs.Tags.{taken_lists}
use Rattle.list_blocks.specs.Lists.{lists}

unfoldable pub marks_text : List ℕ → List Cell
marks_text post = (marks (cells_of post)).cells

unfoldable pub quoted_text : List ℕ → List Cell
quoted_text post = quotes caption (marks_text post)

unfoldable pub finished : List ℕ → List Cell
finished post = lists (quoted_text post)

unfoldable pub taken_out : List ℕ → List Cell
taken_out post = taken_marks (cells_of post) ++ taken_quotes (marks_text post) ++ taken_lists (quoted_text post)

abbrev pub Consumed : List ℕ → ℕ → Type 0
Consumed post n = StandsIn (taken_out post) n

-- all of this module, for `unfolding` where a closed post is to be computed
unfoldable pub computes : Unit {0}
unfolding marks_text quoted_text finished taken_out
computes = tt
