-- Document 01, "Quotes": the quote pass over cells. `caption` is the caption of an attribution (document 01, "Attributions").
--   tokens skip x      the text from left to right: cells, openers with their attributions, closers; each tag with the cells that spell it
--   taken_quotes x      what quotes take out: each opener with its attribution, and each closer
--   attributions x     the attributions of the openers, in their order: those of the converted quotes
--   too_deep x          an opener is met while 64 quotes are open
--   DepthBehind ..     how many quotes are open behind a token; TooDeep: what too_deep is of every text with given bytes
--   quote_block c x     what a closed quote with the caption c and the content x writes
--   Quote, State       an open quote; what is open: the innermost content and the open quotes around it
--   opening, held      the contents around the innermost one, and their number of bytes; total: with the innermost
--   quotes x           the text that the pass writes
--   quotes_need x       document 01's need: the greatest number of bytes of all open contents together after any step
-- Assumes nothing.
use Rattle.std.specs.Prelude.{◌≡◌, ℕ, zero, suc, ◌+◌, ◌-◌, max, Bool, true, false, cond, ◌||◌, List, [], ◌∷◌, ◌++◌, map, length, take, drop, leb, ltb}
use Rattle.text.specs.Ascii.{ascii}
use Rattle.text.specs.Bounds.{deep_most}
use Rattle.text.specs.Cells.{Cell, written, feed, bytes}
use Rattle.text.specs.Lines.{trim, all_blank, lines, joined}
use Rattle.quote_tags.specs.Tags.{opener_size, closer_size, attribution_of}

-- ---- tokens

pub data Token : Type 0 where
  text : Cell → Token
  opens : (tag : List Cell) → (attribution : List ℕ) → Token
  closes : (tag : List Cell) → Token

-- of the text c ∷ x, which begins with an opener or a closer of so many cells, or with none
abbrev pub token_of : (opener closer : ℕ) → Cell → List Cell → Token
token_of (suc k) j c x = opens (c ∷ take k x) (attribution_of (bytes (c ∷ x)))
token_of zero (suc j) c x = closes (c ∷ take j x)
token_of zero zero c x = text c

-- how many cells of the tag are behind its first
abbrev pub rest_of : (opener closer : ℕ) → ℕ
rest_of (suc k) j = k
rest_of zero j = j - 1

-- the tokens of a text whose first `skip` cells are the rest of a tag
unfoldable pub tokens : (skip : ℕ) → List Cell → List Token
tokens skip [] = []
tokens (suc skip) (c ∷ x) = tokens skip x
tokens zero (c ∷ x) =
    token_of (opener_size (bytes (c ∷ x))) (closer_size (bytes (c ∷ x))) c x
    ∷ tokens (rest_of (opener_size (bytes (c ∷ x))) (closer_size (bytes (c ∷ x)))) x

unfoldable pub taken_by : Token → List Cell
taken_by (text c) = []
taken_by (opens tag a) = tag
taken_by (closes tag) = tag

unfoldable pub taken : List Token → List Cell
taken [] = []
taken (t ∷ r) = taken_by t ++ taken r

unfoldable pub taken_quotes : List Cell → List Cell
taken_quotes x = taken (tokens 0 x)

unfoldable pub attributions_in : List Token → List (List ℕ)
attributions_in [] = []
attributions_in (text c ∷ r) = attributions_in r
attributions_in (opens tag a ∷ r) = a ∷ attributions_in r
attributions_in (closes tag ∷ r) = attributions_in r

unfoldable pub attributions : List Cell → List (List ℕ)
attributions x = attributions_in (tokens 0 x)

-- ---- the limit

unfoldable pub too_deep_from : (depth : ℕ) → List Token → Bool
too_deep_from depth [] = false
too_deep_from depth (text c ∷ r) = too_deep_from depth r
too_deep_from depth (opens tag a ∷ r) = leb deep_most depth || too_deep_from (suc depth) r
too_deep_from depth (closes tag ∷ r) = too_deep_from (depth - 1) r

unfoldable pub too_deep : List Cell → Bool
too_deep x = too_deep_from 0 (tokens 0 x)

-- behind a token of the bytes s, from place i with so many quotes open to place i'; more than 64 where the token is one opener too many
pub record DepthBehind (s : List ℕ) (i depth i' depth' : ℕ) : Type 0 where
  pub same : (x : List Cell) → bytes x ≡ s → too_deep_from depth (tokens 0 (drop i x)) ≡ cond (ltb deep_most depth') true (too_deep_from depth' (tokens 0 (drop i' x)))

-- of every text with the bytes s
abbrev pub TooDeep : List ℕ → Bool → Type 0
TooDeep s r = (x : List Cell) → bytes x ≡ s → too_deep x ≡ r

-- ---- the block of a quote

-- `> ` and the line; `>` alone for a blank line
unfoldable pub quoted_line : List Cell → List Cell
quoted_line l = cond (all_blank l) (written (ascii ">")) (written (ascii "> ") ++ l)

unfoldable pub quoted_lines : List (List Cell) → List Cell
quoted_lines [] = written (ascii ">")
quoted_lines (l ∷ ls) = joined (map quoted_line (l ∷ ls))

-- LF `^ ` caption, if there is one
unfoldable pub caption_line : List ℕ → List Cell
caption_line [] = []
caption_line (b ∷ s) = feed ∷ written (ascii "^ ") ++ written (b ∷ s)

unfoldable pub quote_block : List ℕ → List Cell → List Cell
quote_block words content = feed ∷ feed ∷ quoted_lines (lines (trim content)) ++ caption_line words ++ feed ∷ feed ∷ []

-- ---- the machine

-- an open quote: the content that it stands in, and its attribution
pub record Quote : Type 0 where
  pub outer : List Cell
  pub attribution : List ℕ

-- what is open: the innermost content, which text goes to, and the open quotes, innermost first
pub record State : Type 0 where
  pub now : List Cell
  pub opened : List Quote

abbrev pub start : State
start = record { now = []; opened = [] }

-- the contents that open quotes stand in, outermost first
unfoldable pub opening : List Quote → List Cell
opening [] = []
opening (q ∷ qs) = opening qs ++ q.outer

-- the number of bytes of all open contents
unfoldable pub held : List Quote → ℕ
held [] = 0
held (q ∷ qs) = held qs + length q.outer

unfoldable pub total : State → ℕ
total s = held s.opened + length s.now

module _ (caption : List ℕ → List ℕ) where
  -- the content that a quote stands in, once the quote is closed with the content `now`
  unfoldable pub close : Quote → List Cell → List Cell
  close q now = q.outer ++ quote_block (caption q.attribution) now

  -- a closer with no quote open vanishes
  unfoldable pub closed : List Cell → List Quote → State
  closed now [] = record { now = now; opened = [] }
  closed now (q ∷ qs) = record { now = close q now; opened = qs }

  unfoldable pub step : Token → State → State
  step (text c) s = record { now = s.now ++ c ∷ []; opened = s.opened }
  step (opens tag a) s = record { now = []; opened = record { outer = s.now; attribution = a } ∷ s.opened }
  step (closes tag) s = closed s.now s.opened

  -- quotes open at the end are closed there, innermost first
  unfoldable pub finish : List Cell → List Quote → List Cell
  finish now [] = now
  finish now (q ∷ qs) = finish (close q now) qs

  unfoldable pub run : List Token → State → List Cell
  run [] s = finish s.now s.opened
  run (t ∷ r) s = run r (step t s)

  unfoldable pub quotes : List Cell → List Cell
  quotes x = run (tokens 0 x) start

  unfoldable pub finish_need : List Cell → List Quote → ℕ
  finish_need now [] = length now
  finish_need now (q ∷ qs) = max (held (q ∷ qs) + length now) (finish_need (close q now) qs)

  unfoldable pub run_need : List Token → State → ℕ
  run_need [] s = finish_need s.now s.opened
  run_need (t ∷ r) s = max (total s) (run_need r (step t s))

  unfoldable pub quotes_need : List Cell → ℕ
  quotes_need x = run_need (tokens 0 x) start

-- all of this module, for `unfolding` where a closed text is to be computed
unfoldable pub computes : Unit {0}
unfolding tokens taken_by taken taken_quotes attributions_in attributions too_deep_from too_deep quoted_line quoted_lines caption_line quote_block held total close closed step finish run quotes finish_need run_need quotes_need
computes = tt
