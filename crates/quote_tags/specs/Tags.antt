-- Tags, read off bytes (document 01: "ASCII letters in either case, as in all later tags").
--   up_to_bracket s    how many bytes of s there are up to and with the first `]`; 0 where there is none
--   tag_size ws s     of the tag that s begins with: one of the words ws and anything up to `]`; 0 where it begins with none
--   opener_size s     `[quote]`, or `[quote` with `=` or space and anything up to `]`
--   closer_size s     `[/quote]`
--   sized k          a size as code has it: none where it is 0
--   tag_of k j       what stands where an opener has k bytes and a closer j: 0 where there is none
--   opened, closed   how many bytes the opener and the closer have that a kind tells of: 0 where it tells of none
--   NoTag s          s begins with no quote tag
--   NoQ b            b is no q, small or capital
--   attribution_of s  what stands between `=` or space and `]`, where s begins with an opener
--   NextBracket s i b  the place b of the first `]` from i on, or the end, where it is not before i
-- Assumes nothing.
use Rattle.std.specs.Prelude.{◌≡◌, ℕ, zero, suc, ◌+◌, ◌-◌, ◌≤◌, Bool, false, cond, ◌||◌, List, [], ◌∷◌, length, take, drop, ltb, Option, Some, None}
use Rattle.text.specs.Ascii.{ascii, is, begins, to_bracket}
use Rattle.quote_tags.specs.declared.tag.Kind.{Kind}
use Rattle.quote_tags.specs.declared.tag.Kind.TheVariants.{Opener, Closer, Plain}

unfoldable pub up_to_bracket : List ℕ → ℕ
up_to_bracket s = cond (ltb (to_bracket s) (length s)) (suc (to_bracket s)) 0

-- no word has a `]` before its end
unfoldable pub begins_any : List (List ℕ) → List ℕ → Bool
begins_any [] s = false
begins_any (w ∷ ws) s = begins w s || begins_any ws s

unfoldable pub tag_size : List (List ℕ) → List ℕ → ℕ
tag_size ws s = cond (begins_any ws s) (up_to_bracket s) 0

abbrev pub openers : List (List ℕ)
openers = ascii "[quote]" ∷ ascii "[quote=" ∷ ascii "[quote " ∷ []

abbrev pub closers : List (List ℕ)
closers = ascii "[/quote]" ∷ []

unfoldable pub opener_size : List ℕ → ℕ
opener_size s = tag_size openers s

unfoldable pub closer_size : List ℕ → ℕ
closer_size s = tag_size closers s

unfoldable pub sized : ℕ → Option ℕ
sized zero = None
sized (suc k) = Some (suc k)

unfoldable pub tag_of : (opener closer : ℕ) → Kind
tag_of zero zero = Plain
tag_of zero (suc k) = Closer (suc k)
tag_of (suc k) j = Opener (suc k)

abbrev pub opened : Kind → ℕ
opened (Opener k) = k
opened (Closer k) = 0
opened Plain = 0

abbrev pub closed : Kind → ℕ
closed (Opener k) = 0
closed (Closer k) = k
closed Plain = 0

abbrev pub NoTag : List ℕ → Type 0
NoTag s = (opener_size s ≡ 0) × (closer_size s ≡ 0)

abbrev pub NoQ : ℕ → Type 0
NoQ b = (is "q" b || is "Q" b) ≡ false

unfoldable pub attribution_of : List ℕ → List ℕ
attribution_of s = take (opener_size s - 8) (drop 7 s)

abbrev pub NextBracket : List ℕ → (i b : ℕ) → Type 0
NextBracket s i b = i ≤ b → b ≡ i + to_bracket (drop i s)

-- all of this module, for `unfolding` where a closed text is to be computed
unfoldable pub computes : Unit {0}
unfolding up_to_bracket begins_any tag_size opener_size closer_size sized tag_of attribution_of
computes = tt
