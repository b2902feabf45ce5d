-- Worked facts about the listing, proved by computation. Assumes nothing.
use Rattle.std.specs.Prelude.{◌≡◌, refl, [], ◌∷◌}
use Rattle.text.specs.Ascii.{ascii}
use Rattle.listing.specs.Listing.{escaped, copied, computes}

worked : (escaped (ascii "a\n\\b") ≡ ascii "a\\n\\\\b") × (copied (0 ∷ 3 ∷ 0 ∷ 7 ∷ []) ≡ 2)
unfolding computes
worked = (refl, refl)
