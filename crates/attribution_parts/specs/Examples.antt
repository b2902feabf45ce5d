-- Document 01's attributions, the listing of `thread`, and the readings that tell one rule from another. Assumes nothing.
use Rattle.std.specs.Prelude.{◌≡◌, refl, List, [], ◌∷◌, true, false}
use Prim.Native.String.{String}
use Rattle.text.specs.Ascii.{ascii, computes as text_computes}
use Rattle.day.specs.Day.{computes as day_computes}
use Rattle.attribution_parts.specs.Parts.{parts, field, text, computes as parts_compute}
use Rattle.attribution_parts.specs.Attribution.{caption, losses, Loss, computes}

abbrev key : String → Loss
key s = record { unnamed = false; words = ascii s }

abbrev lost : String → Loss
lost s = record { unnamed = true; words = ascii s }

-- the attribution s has this caption and these losses
abbrev Gives : String → String → List Loss → Type 0
Gives s c ls = (caption (ascii s) ≡ ascii c) × (losses (ascii s) ≡ ls)

-- ---- positions, and the listing of `thread`

leading-id-shown : Gives "\"42\" Ann" "Ann #42" ([])
unfolding computes parts_compute text_computes day_computes
leading-id-shown = (refl, refl)

semicolon-first : Gives ";7" ";7" ([])
unfolding computes parts_compute text_computes day_computes
semicolon-first = (refl, refl)

texts-beside-name-lost : Gives "name=Ann rank=3 guest" "Ann" (key "rank" ∷ lost "guest" ∷ [])
unfolding computes parts_compute text_computes day_computes
texts-beside-name-lost = (refl, refl)

listed-by-thread : Gives "Ann;7 rank=3" "Ann;7" (key "rank" ∷ [])
unfolding computes parts_compute text_computes day_computes
listed-by-thread = (refl, refl)

-- ---- parts

part-right-behind-quote : Gives "name=\"A\"b" "A" (lost "b" ∷ [])
unfolding computes parts_compute text_computes day_computes
part-right-behind-quote = (refl, refl)

quote-inside-run : Gives "it's \"x" "it's \"x" ([])
unfolding computes parts_compute text_computes day_computes
quote-inside-run = (refl, refl)

value-to-space-where-quote-open : parts 0 (ascii "k=\"a b") ≡ field (ascii "k") (ascii "\"a") ∷ text (ascii "b") false ∷ []
unfolding computes parts_compute text_computes day_computes
value-to-space-where-quote-open = refl

quote-open-in-value : Gives "k=\"a b" "b" (key "k" ∷ [])
unfolding computes parts_compute text_computes day_computes
quote-open-in-value = (refl, refl)

value-with-equals : parts 0 (ascii "a=b=c") ≡ field (ascii "a") (ascii "b=c") ∷ []
unfolding computes parts_compute text_computes day_computes
value-with-equals = refl

equals-in-value : Gives "a=b=c" "" (key "a" ∷ [])
unfolding computes parts_compute text_computes day_computes
equals-in-value = (refl, refl)

single-quotes : Gives "'42' Ann" "Ann #42" ([])
unfolding computes parts_compute text_computes day_computes
single-quotes = (refl, refl)

vertical-tab-parts-nothing : Gives "a\u{b}b" "a\u{b}b" ([])
unfolding computes parts_compute text_computes day_computes
vertical-tab-parts-nothing = (refl, refl)

-- U+00A0, by its two bytes
no-break-space-parts-nothing : Gives "aÂ\u{a0}b" "aÂ\u{a0}b" ([])
unfolding computes parts_compute text_computes day_computes
no-break-space-parts-nothing = (refl, refl)

any-text-alone : Gives "a]b" "a]b" ([])
unfolding computes parts_compute text_computes day_computes
any-text-alone = (refl, refl)

nothing-given : Gives "" "" ([])
unfolding computes parts_compute text_computes day_computes
nothing-given = (refl, refl)

-- ---- fields

unusable-id-passed : Gives "id=x id=5" "#5" (key "id" ∷ [])
unfolding computes parts_compute text_computes day_computes
unusable-id-passed = (refl, refl)

empty-name-passed : Gives "name= author=B" "B" (key "name" ∷ [])
unfolding computes parts_compute text_computes day_computes
empty-name-passed = (refl, refl)

first-name-counts : Gives "name=A name=B" "A" (key "name" ∷ [])
unfolding computes parts_compute text_computes day_computes
first-name-counts = (refl, refl)

-- ---- ids

leading-id-alone : Gives "\"9\"" "#9" ([])
unfolding computes parts_compute text_computes day_computes
leading-id-alone = (refl, refl)

leading-id-part-0-only : Gives "\"\" \"4\"" "4" ([])
unfolding computes parts_compute text_computes day_computes
leading-id-part-0-only = (refl, refl)

leading-id-quoted-only : Gives "42 Ann" "42 Ann" ([])
unfolding computes parts_compute text_computes day_computes
leading-id-quoted-only = (refl, refl)

leading-id-passed-over : Gives "\"9\" id=2" "#2" (key "id" ∷ [])
unfolding computes parts_compute text_computes day_computes
leading-id-passed-over = (refl, refl)

both-ids-passed-over : Gives "\"9\" post_id=1 id=2" "#1" (key "id" ∷ key "id" ∷ [])
unfolding computes parts_compute text_computes day_computes
both-ids-passed-over = (refl, refl)

-- ---- a semicolon is as any other sign (document 02, 10/13)

name-with-semicolon : Gives "Ann;7" "Ann;7" ([])
unfolding computes parts_compute text_computes day_computes
name-with-semicolon = (refl, refl)

name-joined-behind-semicolon : Gives "Rook;2 \"3\"" "Rook;2 3" ([])
unfolding computes parts_compute text_computes day_computes
name-joined-behind-semicolon = (refl, refl)

leading-id-beside-semicolon : Gives "\"42\" Ann;7" "Ann;7 #42" ([])
unfolding computes parts_compute text_computes day_computes
leading-id-beside-semicolon = (refl, refl)

loss-with-semicolon : Gives "name=N x ;7" "N" (lost "x ;7" ∷ [])
unfolding computes parts_compute text_computes day_computes
loss-with-semicolon = (refl, refl)

-- ---- unnamed losses

empty-text-ends-run : Gives "name=N a \"\" b" "N" (lost "a" ∷ lost "b" ∷ [])
unfolding computes parts_compute text_computes day_computes
empty-text-ends-run = (refl, refl)

field-ends-run : Gives "name=N a k=1 b c" "N" (lost "a" ∷ key "k" ∷ lost "b c" ∷ [])
unfolding computes parts_compute text_computes day_computes
field-ends-run = (refl, refl)

-- ---- date and caption

date-and-time : Gives "date=d time=12:30" "(d 12:30)" ([])
unfolding computes parts_compute text_computes day_computes
date-and-time = (refl, refl)

time-alone : Gives "date=\"\" time=t" "(t)" (key "date" ∷ [])
unfolding computes parts_compute text_computes day_computes
time-alone = (refl, refl)

day-replaces-date : Gives "NAME=A Date=d time=951782400" "A (2000-02-29)" (key "Date" ∷ [])
unfolding computes parts_compute text_computes day_computes
day-replaces-date = (refl, refl)

name-date-id : Gives "name=A date=d id=5" "A (d) #5" ([])
unfolding computes parts_compute text_computes day_computes
name-date-id = (refl, refl)
