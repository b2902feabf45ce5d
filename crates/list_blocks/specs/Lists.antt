-- Document 01, "Lists": the pass over cells, as a machine over tokens, and its need.
--   Open         an open list
--   State        what text goes to, and the open lists
--   step t s     the state after a token
--   finish       lists open at the end are closed there, innermost first
--   lists x      the text of the pass
--   lists_need x  the greatest number of bytes of all open contents after any step
-- Assumes nothing.
use Rattle.std.specs.Prelude.{ℕ, ◌+◌, max, Bool, false, cond, not, ◌||◌, List, [], ◌∷◌, ◌++◌, length}
use Rattle.text.specs.Ascii.{is_empty}
use Rattle.text.specs.Cells.{Cell, feed}
use Rattle.text.specs.Lines.{is_feed}
use Rattle.list_blocks.specs.Tags.{Token, text, opens, starts, closes, tokens}
use Rattle.list_blocks.specs.Blocks.{block}

-- the content that the list stands in (the root's text, a lead or an item); whether it is ordered, and has the second marker of the
-- two; and its parts that are finished, the lead first
pub record Open : Type 0 where
  pub outer : List Cell
  pub ordered : Bool
  pub second : Bool
  pub parts : List (List Cell)

-- the content that text goes to (the root's text, or the last part of the innermost open list); whether the next list opened there
-- has the second marker; and the open lists, innermost first
pub record State : Type 0 where
  pub now : List Cell
  pub second : Bool
  pub lists : List Open

abbrev pub nothing : State
nothing = record { now = []; second = false; lists = [] }

-- ---- closing

abbrev pub ends_in_feed : List Cell → Bool
ends_in_feed [] = false
ends_in_feed (c ∷ []) = is_feed c
ends_in_feed (c ∷ d ∷ x) = ends_in_feed (d ∷ x)

-- the LF before an inner block: if it goes to an item that is not empty and has no final LF
abbrev pub feed_before : (parent_parts : List (List Cell)) → (outer : List Cell) → List Cell
feed_before [] outer = []
feed_before (lead ∷ items) outer = cond (is_empty outer || ends_in_feed outer) [] (feed ∷ [])

-- a block with what stands around it, where ls are the lists still open: a root block stands between LF LF pairs, an inner one is
-- followed by LF
abbrev pub placed : (ls : List Open) → (outer block : List Cell) → List Cell
placed [] outer b = feed ∷ feed ∷ b ++ feed ∷ feed ∷ []
placed (p ∷ ps) outer b = feed_before p.parts outer ++ (b ++ feed ∷ [])

-- what the list l, closed with the last part `now`, gives to the content that it stands in
unfoldable pub closing : Open → List Open → (now : List Cell) → List Cell
closing l ls now = placed ls l.outer (block l.ordered l.second (l.parts ++ now ∷ []))

abbrev pub close : Open → List Open → (now : List Cell) → List Cell
close l ls now = l.outer ++ closing l ls now

-- ---- the machine

-- `[*]` and `[/list]` count only inside a list, else stay text
abbrev pub started : (tag : List Cell) → State → List Open → State
started tag s [] = record { now = s.now ++ tag; second = s.second; lists = [] }
started tag s (l ∷ ls) =
    record {
      now = [];
      second = false;
      lists = record { outer = l.outer; ordered = l.ordered; second = l.second; parts = l.parts ++ s.now ∷ [] } ∷ ls;
    }

abbrev pub closed : (tag : List Cell) → State → List Open → State
closed tag s [] = record { now = s.now ++ tag; second = s.second; lists = [] }
closed tag s (l ∷ ls) = record { now = close l ls s.now; second = not l.second; lists = ls }

unfoldable pub step : Token → State → State
step (text c) s = record { now = s.now ++ c ∷ []; second = s.second; lists = s.lists }
step (opens tag o) s =
    record {
      now = [];
      second = false;
      lists = record { outer = s.now; ordered = o; second = s.second; parts = [] } ∷ s.lists;
    }
step (starts tag) s = started tag s s.lists
step (closes tag) s = closed tag s s.lists

unfoldable pub finish : (now : List Cell) → List Open → List Cell
finish now [] = now
finish now (l ∷ ls) = finish (close l ls now) ls

unfoldable pub run : List Token → State → List Cell
run [] s = finish s.now s.lists
run (t ∷ r) s = run r (step t s)

unfoldable pub lists : List Cell → List Cell
lists x = run (tokens 0 x) nothing

-- ---- the need

unfoldable pub size_of : List (List Cell) → ℕ
size_of [] = 0
size_of (x ∷ xs) = length x + size_of xs

unfoldable pub held : List Open → ℕ
held [] = 0
held (l ∷ ls) = held ls + (length l.outer + size_of l.parts)

unfoldable pub finish_need : (now : List Cell) → List Open → ℕ
finish_need now [] = length now
finish_need now (l ∷ ls) = max (held (l ∷ ls) + length now) (finish_need (close l ls now) ls)

unfoldable pub run_need : List Token → State → ℕ
run_need [] s = finish_need s.now s.lists
run_need (t ∷ r) s = max (held s.lists + length s.now) (run_need r (step t s))

unfoldable pub lists_need : List Cell → ℕ
lists_need x = run_need (tokens 0 x) nothing

-- all of this module, for `unfolding` where a closed text is to be computed
unfoldable pub computes : Unit {0}
unfolding closing step finish run lists size_of held finish_need run_need lists_need
computes = tt
