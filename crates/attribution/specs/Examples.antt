-- Document 01's order of refusals for an attribution, and a call's records. Assumes nothing.
use Rattle.std.specs.Prelude.{◌≡◌, refl, List, [], ◌∷◌, ℕ, Ok}
use Rattle.text.specs.Ascii.{ascii, computes as text_computes}
use Rattle.day.specs.Day.{computes as day_computes}
use Rattle.attribution_parts.specs.Parts.{computes as parts_compute}
use Rattle.attribution_parts.specs.Attribution.{computes as caption_computes}
use Rattle.attribution_losses.specs.Lists.{records_of, loss_words}
use Rattle.lending.specs.Answer.{number_of_answer}
use Rattle.attribution.specs.Calls.{formatted, records_by, words_by}

-- ---- `k=1 x` has one loss, of one byte, and a caption of one byte

losses-refused-first : number_of_answer (formatted (ascii "k=1 x") 0 0 0) ≡ 7
unfolding formatted loss_words caption_computes parts_compute text_computes day_computes
losses-refused-first = refl

loss-bytes-refused-next : number_of_answer (formatted (ascii "k=1 x") 0 1 0) ≡ 8
unfolding formatted loss_words caption_computes parts_compute text_computes day_computes
loss-bytes-refused-next = refl

caption-refused-last : number_of_answer (formatted (ascii "k=1 x") 0 1 1) ≡ 6
unfolding formatted loss_words caption_computes parts_compute text_computes day_computes
caption-refused-last = refl

all-lent-used : formatted (ascii "k=1 x") 1 1 1 ≡ Ok (record { size = 1; losses = 1; bytes = 1 })
unfolding formatted loss_words caption_computes parts_compute text_computes day_computes
all-lent-used = refl

nothing-lent-for-nothing : formatted (ascii "") 0 0 0 ≡ Ok (record { size = 0; losses = 0; bytes = 0 })
unfolding formatted loss_words caption_computes parts_compute text_computes day_computes
nothing-lent-for-nothing = refl

-- ---- records: quote, line, unnamed, start, length

abbrev guest : List ℕ
guest = ascii "name=Ann rank=3 guest"

records-in-order : records_by (Ok (record { size = 3; losses = 2; bytes = 9 })) guest ≡ 0 ∷ 0 ∷ 0 ∷ 0 ∷ 4 ∷ 0 ∷ 0 ∷ 1 ∷ 4 ∷ 5 ∷ []
unfolding records_of caption_computes parts_compute text_computes day_computes
records-in-order = refl

words-without-gaps : words_by (Ok (record { size = 3; losses = 2; bytes = 9 })) guest ≡ ascii "rankguest"
unfolding loss_words caption_computes parts_compute text_computes day_computes
words-without-gaps = refl
