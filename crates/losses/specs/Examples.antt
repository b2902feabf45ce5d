-- Lent records by computation. Assumes nothing.
use Rattle.std.specs.Prelude.{◌≡◌, refl, [], ◌∷◌}
use Rattle.losses.specs.Records.{no_loss, records_lent, computes}

-- two records of three are used
two-of-three : records_lent 3 (1 ∷ 7 ∷ 0 ∷ 0 ∷ 4 ∷ 2 ∷ 9 ∷ 1 ∷ 4 ∷ 5 ∷ [])
    ≡ record { quote = 1; line = 7; unnamed = 0; start = 0; length = 4 } ∷ record { quote = 2; line = 9; unnamed = 1; start = 4; length = 5 } ∷ no_loss ∷ []
unfolding computes
two-of-three = refl

none-used : records_lent 2 [] ≡ no_loss ∷ no_loss ∷ []
unfolding computes
none-used = refl
