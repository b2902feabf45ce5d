-- Document 01, "Quotes": the line of each converted quote. "Each converted quote takes the first tag not before `next` with equal
-- attribution, backslashes removed from both, and `next` goes behind it; failing that, tag `next`, at most the last; line 1 if no tags."
--   bare s              s without its backslashes
--   tags line skip s    the quote openers of s, from this line on, where the first `skip` bytes are the rest of one
--   find a ts           the index of the first tag with the attribution a; the number of tags where there is none
--   place, next_after    the tag of a quote with the attribution a, looked for from `next` on, and the `next` behind it
--   lines_of s names        the lines, in the original text s, of converted quotes with the attributions `names`
-- Assumes nothing.
use Rattle.std.specs.Prelude.{ℕ, zero, suc, ◌+◌, ◌-◌, min, Bool, true, false, cond, ◌&&◌, List, [], ◌∷◌, ◌++◌, length, drop, get_or, eqb, ltb}
use Rattle.text.specs.Ascii.{is}
use Rattle.quote_tags.specs.Tags.{opener_size, attribution_of}
use Rattle.quote_tags.specs.Masks.{visible}

pub record Tag : Type 0 where
  pub line : ℕ
  pub attribution : List ℕ

unfoldable pub bare : List ℕ → List ℕ
bare [] = []
bare (b ∷ s) = cond (is "\\" b) (bare s) (b ∷ bare s)

abbrev pub tag_of : (opener line : ℕ) → List ℕ → List Tag
tag_of zero line s = []
tag_of (suc k) line s = record { line = line; attribution = attribution_of s } ∷ []

-- the line behind a byte
abbrev pub line_after : ℕ → ℕ → ℕ
line_after b line = cond (is "\n" b) (suc line) line

unfoldable pub tags : (line skip : ℕ) → List ℕ → List Tag
tags line skip [] = []
tags line (suc skip) (b ∷ s) = tags (line_after b line) skip s
tags line zero (b ∷ s) = tag_of (opener_size (b ∷ s)) line (b ∷ s) ++ tags (line_after b line) (opener_size (b ∷ s) - 1) s

-- ---- the search

unfoldable pub same : List ℕ → List ℕ → Bool
same [] [] = true
same [] (b ∷ t) = false
same (a ∷ s) [] = false
same (a ∷ s) (b ∷ t) = eqb a b && same s t

unfoldable pub find : List ℕ → List Tag → ℕ
find a [] = 0
find a (t ∷ ts) = cond (same (bare t.attribution) (bare a)) 0 (suc (find a ts))

module _ (ts : List Tag) where
  abbrev pub is_found : (next : ℕ) → List ℕ → Bool
  is_found next a = ltb (next + find a (drop next ts)) (length ts)

  unfoldable pub place : (next : ℕ) → List ℕ → ℕ
  place next a = cond (is_found next a) (next + find a (drop next ts)) (min next (length ts - 1))

  unfoldable pub next_after : (next : ℕ) → List ℕ → ℕ
  next_after next a = cond (is_found next a) (next + find a (drop next ts) + 1) next

  unfoldable pub line_at : ℕ → ℕ
  line_at i = (get_or ts i (record { line = 1; attribution = [] })).line

  unfoldable pub lines_from : (next : ℕ) → List (List ℕ) → List ℕ
  lines_from next [] = []
  lines_from next (a ∷ later) = line_at (place next a) ∷ lines_from (next_after next a) later

unfoldable pub lines_of : List ℕ → List (List ℕ) → List ℕ
lines_of s names = lines_from (tags 1 0 (visible s)) 0 names

-- all of this module, for `unfolding` where a closed text is to be computed
unfoldable pub computes : Unit {0}
unfolding bare tags same find place next_after line_at lines_from lines_of
computes = tt
