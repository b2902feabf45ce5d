-- Document 01's position of quotes, and the readings of "Need" and "Quotes and lines", by computation. Assumes nothing.
use Rattle.std.specs.Prelude.{◌≡◌, refl, true, false, List, [], ◌∷◌, ◌++◌, replicate, length, ℕ, zero, suc}
use Prim.Native.String.{String}
use Rattle.text.specs.Ascii.{ascii, computes as ascii_computes}
use Rattle.text.specs.Blanks.{computes as blanks_compute}
use Rattle.text.specs.Cells.{Cell, cells_of, bytes, origins, computes as cells_compute}
use Rattle.text.specs.Lines.{computes as lines_compute}
use Rattle.quote_tags.specs.Tags.{computes as tags_compute}
use Rattle.quote_blocks.specs.Quotes.{quotes, quotes_need, too_deep, taken_quotes, computes as quotes_compute}
use Rattle.quote_tags.specs.Masks.{visible, computes as masks_compute}
use Rattle.quote_lines.specs.Lines.{lines_of, computes as search_computes}
use Rattle.quote_losses.specs.Losses.{loss_records, loss_bytes, computes as losses_compute}
use Rattle.lending.specs.Answer.{number_of_answer, counts_of_answer}
use Rattle.quotes.specs.Calls.{converted, computes as calls_compute}
use Rattle.day.specs.Day.{computes as day_computes}
use Rattle.attribution_parts.specs.Parts.{computes as parts_compute}
use Rattle.attribution_parts.specs.Attribution.{caption as attribution_caption, computes as attribution_computes}
use Rattle.attribution_losses.specs.Lists.{records_of, loss_words}

-- ---- texts, with each attribution as its caption

abbrev caption : List ℕ → List ℕ
caption a = a

abbrev Gives : String → String → Type 0
Gives s t = bytes (quotes caption (cells_of (ascii s))) ≡ ascii t

abbrev Needs : String → ℕ → Type 0
Needs s n = quotes_need caption (cells_of (ascii s)) ≡ n

-- a closer with none open vanishes
stray-closer : Gives "[/quote]x" "x"
unfolding ascii_computes blanks_compute cells_compute lines_compute tags_compute quotes_compute
stray-closer = refl

plain : Gives "[quote]a[/quote]" "\n\n> a\n\n"
unfolding ascii_computes blanks_compute cells_compute lines_compute tags_compute quotes_compute
plain = refl

-- `>` alone for a blank line or empty content; letters in either case; closed at the end
blank-line : Gives "[QUOTE] a\n \nb " "\n\n> a\n>\n> b\n\n"
unfolding ascii_computes blanks_compute cells_compute lines_compute tags_compute quotes_compute
blank-line = refl

empty-content : Gives "x[quote] [/quote]" "x\n\n>\n\n"
unfolding ascii_computes blanks_compute cells_compute lines_compute tags_compute quotes_compute
empty-content = refl

with-caption : Gives "[quote=A]a[/quote]" "\n\n> a\n^ A\n\n"
unfolding ascii_computes blanks_compute cells_compute lines_compute tags_compute quotes_compute
with-caption = refl

-- only `=` or a space may follow; with no `]` behind, it is text
not-a-tag : Gives "[quote\n=a][quote\ta][quote a" "[quote\n=a][quote\ta][quote a"
unfolding ascii_computes blanks_compute cells_compute lines_compute tags_compute quotes_compute
not-a-tag = refl

-- a caption is text of its own: it may hold a line feed, and its blanks at the end are trimmed by an outer quote
caption-trimmed : Gives "[quote][quote=x\ny ]a[/quote][/quote]" "\n\n> > a\n> ^ x\n> y\n\n"
unfolding ascii_computes blanks_compute cells_compute lines_compute tags_compute quotes_compute
caption-trimmed = refl

-- U+00A0 too, of an attribution's caption
no-break : List ℕ
no-break = ascii "[quote][quote=\"x" ++ (0xC2 ∷ 0xA0 ∷ []) ++ ascii "\"]a[/quote][/quote]"

no-break-trimmed : bytes (quotes attribution_caption (cells_of no-break)) ≡ ascii "\n\n> > a\n> ^ x\n\n"
unfolding no-break ascii_computes blanks_compute cells_compute lines_compute tags_compute quotes_compute parts_compute attribution_computes day_computes
no-break-trimmed = refl

-- a line feed inside a quote is put there anew
joining-feeds : origins (quotes caption (cells_of (ascii "[quote]a\na[/quote]\n"))) ≡ 0 ∷ 0 ∷ 0 ∷ 0 ∷ 8 ∷ 0 ∷ 0 ∷ 0 ∷ 10 ∷ 0 ∷ 0 ∷ 19 ∷ []
unfolding ascii_computes blanks_compute cells_compute lines_compute tags_compute quotes_compute
joining-feeds = refl

taken-tags : bytes (taken_quotes (cells_of (ascii "[/quote]a[quote=b]c"))) ≡ ascii "[/quote][quote=b]"
unfolding ascii_computes blanks_compute cells_compute lines_compute tags_compute quotes_compute
taken-tags = refl

-- ---- the need

outermost-counts : Needs "a" 1
unfolding ascii_computes blanks_compute cells_compute lines_compute tags_compute quotes_compute
outermost-counts = refl

-- trimming shrinks: the content counts while it is open
hundred : List Cell
hundred = cells_of (ascii "[quote]" ++ replicate 100 32 ++ ascii "[/quote]")

trimming-shrinks : quotes_need caption hundred ≡ 100
unfolding hundred ascii_computes blanks_compute cells_compute lines_compute tags_compute quotes_compute
trimming-shrinks = refl

trimmed-result : length (quotes caption hundred) ≡ 5
unfolding hundred ascii_computes blanks_compute cells_compute lines_compute tags_compute quotes_compute
trimmed-result = refl

-- a block replaces the content that it closes
block-replaces : Needs "x[quote=A]a[/quote]" 12
unfolding ascii_computes blanks_compute cells_compute lines_compute tags_compute quotes_compute
block-replaces = refl

-- ---- the limit

repeat : ℕ → List ℕ → List ℕ
repeat zero s = []
repeat (suc n) s = s ++ repeat n s

exactly-64 : too_deep (cells_of (repeat 64 (ascii "[quote]"))) ≡ false
unfolding repeat ascii_computes blanks_compute cells_compute tags_compute quotes_compute
exactly-64 = refl

opener-65 : too_deep (cells_of (repeat 65 (ascii "[quote]") ++ ascii "[/quote]")) ≡ true
unfolding repeat ascii_computes blanks_compute cells_compute tags_compute quotes_compute
opener-65 = refl

-- ---- lines

abbrev Shows : List ℕ → String → Type 0
Shows s t = visible s ≡ ascii t

-- one space for each character
accented : List ℕ
accented = ascii "[quote=[c]" ++ (0xC3 ∷ 0xA9 ∷ []) ++ ascii "[/c]][quote=        ]\n[quote= [i]x[/i] k=1]"

by-characters : Shows accented "[quote=        ][quote=        ]\n[quote= [i]x[/i] k=1]"
unfolding accented ascii_computes tags_compute masks_compute
by-characters = refl

by-characters-lines : lines_of accented (ascii "[c" ∷ ascii "        " ∷ ascii " /x/ k=1" ∷ []) ≡ 1 ∷ 1 ∷ 1 ∷ []
unfolding accented ascii_computes tags_compute masks_compute search_computes
by-characters-lines = refl

-- an opener with no closer behind it masks nothing
no-closer : Shows (ascii "[c]\n[quote=k=1][/code]") "[c]\n[quote=k=1][/code]"
unfolding ascii_computes tags_compute masks_compute
no-closer = refl

-- shortest match; letters in either case
shortest : Shows (ascii "[code]a\n[/CODE][quote=x]\n[/code]") "       \n       [quote=x]\n[/code]"
unfolding ascii_computes tags_compute masks_compute
shortest = refl

with_value : Shows (ascii "[code=a\n]b[/code]c[code=[/code]") "       \n         c[code=[/code]"
unfolding ascii_computes tags_compute masks_compute
with_value = refl

-- code first
code-first : Shows (ascii "[c][code]\n[quote=a][/c][/code]\n[quote=a]") "[c]      \n                    \n[quote=a]"
unfolding ascii_computes tags_compute masks_compute
code-first = refl

-- c ends at either closer
either-closer : Shows (ascii "[icode][quote=a]\n[/c][noparse][/noparse][quote=a]") "                \n                       [quote=a]"
unfolding ascii_computes tags_compute masks_compute
either-closer = refl

abbrev Lines : String → List (List ℕ) → List ℕ → Type 0
Lines s names ls = lines_of (ascii s) names ≡ ls

-- an attribution may hold line feeds; backslashes are removed from both sides
backslashes : Lines "[quote=a\n\\b]\n[quote=ab]" (ascii "a\nb" ∷ ascii "a\\b" ∷ []) (1 ∷ 3 ∷ [])
unfolding ascii_computes tags_compute masks_compute search_computes
backslashes = refl

-- a failed search gives tag `next` and does not move it
failed-search : Lines "\n[quote=a]\n[quote=b]" (ascii "x" ∷ ascii "a" ∷ ascii "b" ∷ []) (2 ∷ 2 ∷ 3 ∷ [])
unfolding ascii_computes tags_compute masks_compute search_computes
failed-search = refl

-- at most the last; 1 if there are no tags
last-tag : Lines "\n[quote=a]" (ascii "a" ∷ ascii "x" ∷ []) (2 ∷ 2 ∷ [])
unfolding ascii_computes tags_compute masks_compute search_computes
last-tag = refl

no-tags : Lines "\n[c][quote=a][/c]" (ascii "a" ∷ []) (1 ∷ [])
unfolding ascii_computes tags_compute masks_compute search_computes
no-tags = refl

-- ---- losses, with the captions of attributions

thread : List ℕ
thread = ascii "[quote=Ann;7 rank=3]Seed *late*[/quote]\n[quote=name=B x y=1]"

thread-text : bytes (quotes attribution_caption (cells_of thread)) ≡ ascii "\n\n> Seed *late*\n^ Ann;7\n\n\n\n\n>\n^ B\n\n"
unfolding thread ascii_computes blanks_compute cells_compute lines_compute tags_compute quotes_compute parts_compute attribution_computes day_computes
thread-text = refl

thread-records : loss_records thread (cells_of thread) ≡ 1 ∷ 1 ∷ 0 ∷ 0 ∷ 4 ∷ 2 ∷ 2 ∷ 1 ∷ 4 ∷ 1 ∷ 2 ∷ 2 ∷ 0 ∷ 5 ∷ 1 ∷ []
unfolding thread ascii_computes blanks_compute cells_compute lines_compute tags_compute quotes_compute masks_compute search_computes losses_compute records_of loss_words parts_compute attribution_computes day_computes
thread-records = refl

thread-bytes : loss_bytes (cells_of thread) ≡ ascii "rankxy"
unfolding thread ascii_computes blanks_compute cells_compute lines_compute tags_compute quotes_compute masks_compute search_computes losses_compute records_of loss_words parts_compute attribution_computes day_computes
thread-bytes = refl

-- every quote moves `next`, also one without losses: the search for the masked quote fails, and takes the tag behind the first
moved : List ℕ
moved = ascii "[quote=a]\n[c][quote=k=1][/c]\n[quote=b]"

moved-records : loss_records moved (cells_of moved) ≡ 2 ∷ 3 ∷ 0 ∷ 0 ∷ 1 ∷ []
unfolding moved ascii_computes blanks_compute cells_compute lines_compute tags_compute quotes_compute masks_compute search_computes losses_compute records_of loss_words parts_compute attribution_computes day_computes
moved-records = refl

-- ---- answers: an output of m bytes, j records, b loss bytes

abbrev Refuses : (x : List ℕ) (m j b number : ℕ) → Type 0
Refuses x m j b number = number_of_answer (converted (cells_of x) m j b) ≡ number

-- 65 openers are refusal 5, whatever is lent
deep-first : Refuses (repeat 65 (ascii "[quote=a=1]")) 0 0 0 5
unfolding repeat ascii_computes blanks_compute cells_compute tags_compute quotes_compute calls_compute
deep-first = refl

lossy : List ℕ
lossy = ascii "[quote=rank=1]x"

-- then 7, at one record short; then 8, at one byte short; then 6, at one byte below the need
records-next : Refuses lossy 0 0 0 7
unfolding lossy ascii_computes blanks_compute cells_compute lines_compute tags_compute quotes_compute losses_compute loss_words parts_compute attribution_computes day_computes calls_compute
records-next = refl

bytes_next : Refuses lossy 0 1 3 8
unfolding lossy ascii_computes blanks_compute cells_compute lines_compute tags_compute quotes_compute losses_compute loss_words parts_compute attribution_computes day_computes calls_compute
bytes_next = refl

space-last : Refuses lossy 6 1 4 6
unfolding lossy ascii_computes blanks_compute cells_compute lines_compute tags_compute quotes_compute losses_compute loss_words parts_compute attribution_computes day_computes calls_compute
space-last = refl

all-fits : counts_of_answer (converted (cells_of lossy) 7 1 4) ≡ 7 ∷ 1 ∷ 4 ∷ []
unfolding lossy ascii_computes blanks_compute cells_compute lines_compute tags_compute quotes_compute losses_compute loss_words parts_compute attribution_computes day_computes calls_compute
all-fits = refl
