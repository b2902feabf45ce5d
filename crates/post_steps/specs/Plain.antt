-- Texts that a pass leaves as they are, and that need no more room than they take.
--   Unquoted s   quotes does so with every text with the bytes s, and no quote stands in it
--   Unlisted s   lists does
-- Assumes nothing.
use Rattle.std.specs.Prelude.{◌≡◌, ℕ, false, List, [], length}
use Rattle.text.specs.Cells.{Cell, bytes}
use Rattle.attribution_parts.specs.Attribution.{caption}
use Rattle.quote_blocks.specs.Quotes as Quotes
use Rattle.list_blocks.specs.Tags as ListTags
use Rattle.list_blocks.specs.Lists.{lists, lists_need}

abbrev pub Unquoted : List ℕ → Type 0
Unquoted s =
    (x : List Cell) → bytes x ≡ s → ((Quotes.too_deep x ≡ false) × (Quotes.attributions x ≡ [])) × ((Quotes.quotes caption x ≡ x) × (Quotes.quotes_need caption x ≡ length x))

abbrev pub Unlisted : List ℕ → Type 0
Unlisted s = (x : List Cell) → bytes x ≡ s → (ListTags.too_deep x ≡ false) × ((lists x ≡ x) × (lists_need x ≡ length x))
