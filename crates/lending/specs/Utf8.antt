-- UTF-8 as RFC 3629, section 4 has it, over the list of a text's bytes.
--   tail b               UTF8-tail = %x80-BF
--   utf8-1 to utf8-4     the bytes are one UTF8-1, UTF8-2, UTF8-3, UTF8-4
--   size a b c d         how many of the bytes a b c d are one UTF8-char, 0 where none is
--   char_size s           of the first character of s; past the end stands 0, which is no tail
--   IsSize n r           r is that size as code has it
--   utf8 s               s is UTF8-octets = *( UTF8-char )
-- Assumes nothing.
use Rattle.std.specs.Prelude.{◌≡◌, ◌<◌, Option, MatchOption, ℕ, zero, suc, ◌-◌, Bool, true, false, cond, ◌&&◌, ◌||◌, List, [], ◌∷◌, get_or, eqb}
use Rattle.text.specs.Ascii.{inside}

unfoldable pub tail : ℕ → Bool
tail b = inside 0x80 0xBF b

unfoldable pub utf8-1 : ℕ → Bool
utf8-1 a = inside 0x00 0x7F a

unfoldable pub utf8-2 : ℕ → ℕ → Bool
utf8-2 a b = inside 0xC2 0xDF a && tail b

unfoldable pub utf8-3 : ℕ → ℕ → ℕ → Bool
utf8-3 a b c =
    (inside 0xE0 0xE0 a && inside 0xA0 0xBF b && tail c)
    || ((inside 0xE1 0xEC a && tail b && tail c)
    || ((inside 0xED 0xED a && inside 0x80 0x9F b && tail c)
    || (inside 0xEE 0xEF a && tail b && tail c)))

unfoldable pub utf8-4 : ℕ → ℕ → ℕ → ℕ → Bool
utf8-4 a b c d =
    (inside 0xF0 0xF0 a && inside 0x90 0xBF b && tail c && tail d)
    || ((inside 0xF1 0xF3 a && tail b && tail c && tail d)
    || (inside 0xF4 0xF4 a && inside 0x80 0x8F b && tail c && tail d))

unfoldable pub size : ℕ → ℕ → ℕ → ℕ → ℕ
size a b c d = cond (utf8-1 a) 1 (cond (utf8-2 a b) 2 (cond (utf8-3 a b c) 3 (cond (utf8-4 a b c d) 4 0)))

unfoldable pub char_size : List ℕ → ℕ
char_size s = size (get_or s 0 0) (get_or s 1 0) (get_or s 2 0) (get_or s 3 0)

-- n as code has it: none where it is 0
abbrev pub IsSize : (n : ℕ) → Option ℕ → Type 0
IsSize n r = MatchOption r (n ≡ 0) (λ k. (k ≡ n) × (0 < k))

-- the same of a text whose first `skip` bytes are the rest of a character
unfoldable pub utf8_after : (skip : ℕ) → List ℕ → Bool
utf8_after skip [] = true
utf8_after (suc skip) (b ∷ s) = utf8_after skip s
utf8_after zero (b ∷ s) = cond (eqb (char_size (b ∷ s)) 0) false (utf8_after (char_size (b ∷ s) - 1) s)

unfoldable pub utf8 : List ℕ → Bool
utf8 s = utf8_after 0 s

-- all of this module, for `unfolding` where a closed text is to be computed
unfoldable pub computes : Unit {0}
unfolding tail utf8-1 utf8-2 utf8-3 utf8-4 size char_size utf8_after utf8
computes = tt
