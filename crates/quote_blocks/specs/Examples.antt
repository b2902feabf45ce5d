-- A quote's block and the need, by computation. Assumes nothing.
use Rattle.std.specs.Prelude.{◌≡◌, refl, ℕ}
use Prim.Native.String.{String}
use Rattle.text.specs.Ascii.{ascii, computes as ascii_computes}
use Rattle.text.specs.Blanks.{computes as blanks_compute}
use Rattle.text.specs.Cells.{cells_of, bytes, computes as cells_compute}
use Rattle.text.specs.Lines.{computes as lines_compute}
use Rattle.quote_tags.specs.Tags.{computes as tags_compute}
use Rattle.quote_blocks.specs.Quotes.{quote_block, quotes_need, computes as quotes_compute}

-- of a caption and a content
abbrev Block : String → String → String → Type 0
Block c x t = bytes (quote_block (ascii c) (cells_of (ascii x))) ≡ ascii t

-- the caption stands behind the quoted lines
captioned : Block "Ann #7" " a\n \nb " "\n\n> a\n>\n> b\n^ Ann #7\n\n"
unfolding ascii_computes blanks_compute cells_compute lines_compute quotes_compute
captioned = refl

bare : Block "" " " "\n\n>\n\n"
unfolding ascii_computes blanks_compute cells_compute lines_compute quotes_compute
bare = refl

-- with each attribution as its caption
abbrev Needs : String → ℕ → Type 0
Needs s n = quotes_need (λ a. a) (cells_of (ascii s)) ≡ n

-- the outermost content counts, with no quote and around a closed one
outermost-counts : Needs "a" 1
unfolding ascii_computes blanks_compute cells_compute lines_compute tags_compute quotes_compute
outermost-counts = refl

outermost-around : Needs "ab[quote]c" 9
unfolding ascii_computes blanks_compute cells_compute lines_compute tags_compute quotes_compute
outermost-around = refl
