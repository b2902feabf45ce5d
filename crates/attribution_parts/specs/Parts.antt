-- Document 01, "Attributions": the parts of an attribution, from the left.
--   is_space b       space, tab, LF, CR, FF: these part, and no others
--   in_quotes s      s begins with a quote that is closed
--   value s         what is in those quotes, else what stands up to the next space
--   key_size s       how many bytes the key has that s begins with, a `=` behind it; 0: no key
--   part_at s        the part that s begins with
--   parts skip s    the parts of s, of which the first `skip` bytes are read already
-- Assumes nothing.
use Rattle.std.specs.Prelude.{ℕ, zero, suc, ◌+◌, ◌-◌, Bool, true, false, cond, not, ◌&&◌, ◌||◌, List, [], ◌∷◌, ◌++◌, length, take, drop, get_or, eqb, ltb}
use Rattle.text.specs.Ascii.{is, within, is_digit, to_first}

pub data Part : Type 0 where
  field : (key value : List ℕ) → Part
  text : (words : List ℕ) → (quoted : Bool) → Part

abbrev pub is_space : ℕ → Bool
is_space b = is " " b || is "\t" b || is "\n" b || is "\r" b || eqb b 12

-- ---- a quoted text, or a run up to the next space

abbrev pub is_quote : ℕ → Bool
is_quote b = is "\"" b || is "'" b

unfoldable pub in_quotes : List ℕ → Bool
in_quotes [] = false
in_quotes (q ∷ s) = is_quote q && ltb (to_first (λ b. eqb b q) s) (length s)

unfoldable pub value : List ℕ → List ℕ
value s = cond (in_quotes s) (take (to_first (λ b. eqb b (get_or s 0 0)) (drop 1 s)) (drop 1 s)) (take (to_first is_space s) s)

-- how many bytes it takes, its quotes counted
unfoldable pub value_size : List ℕ → ℕ
value_size s = cond (in_quotes s) (to_first (λ b. eqb b (get_or s 0 0)) (drop 1 s) + 2) (to_first is_space s)

-- ---- a key, `[A-Za-z_][A-Za-z0-9_-]*=`

abbrev pub starts_key : ℕ → Bool
starts_key b = within "a" "z" b || (within "A" "Z" b || is "_" b)

abbrev pub in_key : ℕ → Bool
in_key b = starts_key b || (is_digit b || is "-" b)

unfoldable pub key_size : List ℕ → ℕ
key_size s = cond (starts_key (get_or s 0 0) && is "=" (get_or s (to_first (λ b. not (in_key b)) s) 0)) (to_first (λ b. not (in_key b)) s) 0

-- ---- parts

abbrev pub read_at : ℕ → List ℕ → Part
read_at zero s = text (value s) (in_quotes s)
read_at (suc k) s = field (take (suc k) s) (value (drop (suc (suc k)) s))

unfoldable pub part_at : List ℕ → Part
part_at s = read_at (key_size s) s

abbrev pub size_at : ℕ → List ℕ → ℕ
size_at zero s = value_size s
size_at (suc k) s = suc (suc k) + value_size (drop (suc (suc k)) s)

unfoldable pub part_size : List ℕ → ℕ
part_size s = size_at (key_size s) s

-- what stands at the start of s, which is a space or not: nothing or a part, and how many bytes after the first it takes
abbrev pub here : Bool → List ℕ → List Part
here true s = []
here false s = part_at s ∷ []

abbrev pub more : Bool → List ℕ → ℕ
more true s = 0
more false s = part_size s - 1

unfoldable pub parts : ℕ → List ℕ → List Part
parts skip [] = []
parts (suc skip) (b ∷ s) = parts skip s
parts zero (b ∷ s) = here (is_space b) (b ∷ s) ++ parts (more (is_space b) (b ∷ s)) s

-- all of this module, for `unfolding` where a closed text is to be computed
unfoldable pub computes : Unit {0}
unfolding in_quotes value value_size key_size part_at part_size parts
computes = tt
