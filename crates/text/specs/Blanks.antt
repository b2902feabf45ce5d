-- Document 01: "Blank means the 25 White_Space characters of Unicode: U+0009 to 000D, 0020, 0085, 00A0, 1680, 2000 to 200A, 2028,
-- 2029, 202F, 205F, 3000", by their UTF-8 bytes.
--   blank1, blank2, blank3   the blank characters of one, two and three bytes
--   blank_size s              how many bytes the blank character has that s begins with; 0 where it begins with none
-- Assumes nothing.
use Rattle.std.specs.Prelude.{ℕ, Bool, cond, ◌&&◌, ◌||◌, List, get_or, eqb}
use Rattle.text.specs.Ascii.{inside}

-- U+0009 to 000D, 0020
unfoldable pub blank1 : ℕ → Bool
blank1 a = inside 0x09 0x0D a || eqb a 0x20

-- U+0085, 00A0
unfoldable pub blank2 : ℕ → ℕ → Bool
blank2 a b = eqb a 0xC2 && (eqb b 0x85 || eqb b 0xA0)

-- U+2000 to 200A, 2028, 2029, 202F by their last byte
unfoldable pub blank_e280 : ℕ → Bool
blank_e280 c = inside 0x80 0x8A c || (inside 0xA8 0xA9 c || eqb c 0xAF)

-- U+1680; 2000 to 202F; 205F; 3000
unfoldable pub blank3 : ℕ → ℕ → ℕ → Bool
blank3 a b c =
    cond (eqb a 0xE1) (eqb b 0x9A && eqb c 0x80)
    (cond (eqb a 0xE2) (cond (eqb b 0x80) (blank_e280 c) (eqb b 0x81 && eqb c 0x9F))
    (eqb a 0xE3 && (eqb b 0x80 && eqb c 0x80)))

unfoldable pub blank_width : ℕ → ℕ → ℕ → ℕ
blank_width a b c = cond (blank1 a) 1 (cond (blank2 a b) 2 (cond (blank3 a b c) 3 0))

unfoldable pub blank_size : List ℕ → ℕ
blank_size s = blank_width (get_or s 0 0) (get_or s 1 0) (get_or s 2 0)

-- all of this module, for `unfolding` where a closed text is to be computed
unfoldable pub computes : Unit {0}
unfolding blank1 blank2 blank_e280 blank3 blank_width blank_size
computes = tt
