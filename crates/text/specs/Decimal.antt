-- Numbers in decimal.
--   decimal n   the ASCII digits of n, with no leading zero
-- Assumes nothing.
use Rattle.std.specs.Prelude.{ℕ, zero, suc, ◌+◌, ◌/◌, ◌%◌, Bool, true, false, List, [], ◌∷◌, ◌++◌, ltb}

-- n, where it is one digit; else the digits before the last, and the last
abbrev pub digits_by : (one : Bool) → ℕ → (front : List ℕ) → List ℕ
digits_by true n front = (48 + n) ∷ []
digits_by false n front = front ++ (48 + n % 10) ∷ []

-- at most `more` digits, the last ones of n
unfoldable pub last_digits : (more n : ℕ) → List ℕ
last_digits zero n = []
last_digits (suc more) n = digits_by (ltb n 10) n (last_digits more (n / 10))

unfoldable pub decimal : ℕ → List ℕ
decimal n = last_digits (suc n) n

-- all of this module, for `unfolding` where a closed text is to be computed
unfoldable pub computes : Unit {0}
unfolding last_digits decimal
computes = tt
