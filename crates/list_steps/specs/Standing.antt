-- How a pair of slices holds a state of the list machine: all open contents one behind another, and a table of what is fixed for each
-- open list.
--   contents s     all open contents, outermost first
--   starts_from p   the places where a list's parts begin, the last one's among them, where the first begins at p
--   Frames         the table: for each open list, the outermost first, where the frame of the list around it stands, its kind, and where
--                  its parts begin; and where the last frame stands
--   Stands ..      the slices hold a state: the contents behind the cells `before`, up to place `end` at most, and the table from place `table` on
--   Steps ..       from slices that hold a state to slices that hold another
--   Running ..     a run of the machine: what it has still to read, and the greatest number of cells that it has seen
--   Passes ..      what the whole pass answers
--   Stays ..       what stands outside of the areas stays
-- Assumes nothing.
use Rattle.std.specs.Prelude.{◌≡◌, ℕ, ◌+◌, ◌-◌, ◌%◌, ◌≤◌, ◌<◌, max, Bool, false, cond, not, ◌&&◌, ◌||◌, List, [], ◌∷◌, ◌++◌, length, take, drop, get_or, replicate, eqb, leb, ltb, Result, Ok, Err}
use Rattle.text.specs.Ascii.{is_empty}
use Rattle.text.specs.Bounds.{number_most}
use Rattle.text.specs.Cells.{Cell, cells, part, feed}
use Rattle.text.specs.Writes.{Holds}
use Rattle.lending.specs.declared.lent.Refusal.{Refusal}
use Rattle.lending.specs.declared.lent.Refusal.TheVariants.{TooDeep, NoSpace}
use Rattle.list_blocks.specs.declared.tag.Tag.{Tag}
use Rattle.list_blocks.specs.declared.tag.Tag.TheVariants.{Opener, Item, Closer, Plain}
use Rattle.list_blocks.specs.Blocks.{kind_of, block, between, parts_in, Rises}
use Rattle.list_blocks.specs.Tags.{Token, tokens, pushes, too_deep}
use Rattle.list_blocks.specs.Lists.{Open, State, ends_in_feed, close, started, closed, run, lists, run_need, lists_need}
use Rattle.list_steps.specs.declared.close.Areas.{Areas}
use Rattle.list_steps.specs.declared.close.Machine.{Machine}
use Rattle.list_steps.specs.declared.pass.Passed.{Passed}

-- parts one behind another
unfoldable pub strung : List (List Cell) → List Cell
strung [] = []
strung (x ∷ xs) = x ++ strung xs

unfoldable pub outers : List Open → List Cell
outers [] = []
outers (l ∷ ls) = (outers ls ++ l.outer) ++ strung l.parts

abbrev pub contents : State → List Cell
contents s = outers s.lists ++ s.now

-- ---- the table

unfoldable pub starts_from : (p : ℕ) → List (List Cell) → List ℕ
starts_from p [] = p ∷ []
starts_from p (x ∷ xs) = p ∷ starts_from (p + length x) xs

pub record Frames : Type 0 where
  pub first : ℕ
  pub table : List ℕ

abbrev pub framed : (table p : ℕ) → Open → Frames → Frames
framed table p l f = record { first = table + length f.table; table = f.table ++ f.first ∷ kind_of l.ordered l.second ∷ starts_from p l.parts }

-- the contents begin at place `base`, the table at place `table`
unfoldable pub frames : (base table : ℕ) → List Open → Frames
frames base table [] = record { first = table; table = [] }
frames base table (l ∷ ls) = framed table (base + length (outers ls ++ l.outer)) l (frames base table ls)

-- ---- the slices

pub record Stands (before : List Cell) (bs ns : List ℕ) (end table at top first : ℕ) (second : Bool) (s : State) : Type 0 where
  pub text : Holds (take end (cells bs ns)) at (before ++ contents s)
  pub rows : between table top ns ≡ (frames (length before) table s.lists).table
  pub reaches : (table ≤ top) × (top ≤ length ns)
  pub apart : end ≤ table
  pub frame : first ≡ (frames (length before) table s.lists).first
  pub turn : second ≡ s.second

-- wherever they hold a state behind `base` cells
pub record Steps (f : State → State) (base : ℕ) (bs ns : List ℕ) (end table at top first : ℕ) (second : Bool) (bs' ns' : List ℕ) (at' top' first' : ℕ) (second' : Bool) : Type 0 where
  pub step : (before : List Cell) (s : State) → length before ≡ base → Stands before bs ns end table at top first second s → Stands before bs' ns' end table at' top' first' second' (f s)

-- slices that hold a state, with room for all contents before `end`
pub record Ready (bs ns : List ℕ) (base end table at top first : ℕ) (second : Bool) : Type 0 where
  pub before : List Cell
  pub state : State
  pub holds : Stands before bs ns end table at top first second state
  pub begins : length before ≡ base
  pub fits : at ≤ end
  pub within : (end ≤ length bs) × ((end ≤ length ns) × (length ns ≤ number_most))

-- ---- closing, by the table: the frame of the list stands at `first`

-- the content that the list stands in
abbrev pub outer_at : (bs ns : List ℕ) (first : ℕ) → List Cell
outer_at bs ns first = part (get_or ns (first - 1) 0) (get_or ns (first + 2) 0) (cells bs ns)

unfoldable pub feed_at : (bs ns : List ℕ) (first : ℕ) → Bool
feed_at bs ns first = ltb (get_or ns first 0 + 3) first && not (is_empty (outer_at bs ns first) || ends_in_feed (outer_at bs ns first))

unfoldable pub feeds_before : (bs ns : List ℕ) (first table : ℕ) → ℕ
feeds_before bs ns first table = cond (eqb first table) 2 (cond (feed_at bs ns first) 1 0)

unfoldable pub closing_at : (bs ns : List ℕ) (table at top first : ℕ) → List Cell
closing_at bs ns table at top first =
    replicate (feeds_before bs ns first table) feed
    ++ (block (leb 2 (get_or ns (first + 1) 0)) (eqb (get_or ns (first + 1) 0 % 2) 1) (parts_in (cells bs ns) (between (first + 2) top ns) at)
    ++ replicate (cond (eqb first table) 2 1) feed)

-- the frame at `first`: where the one around it stands, its list's kind, and where its lead begins
pub record FrameAt (ns : List ℕ) (first outer : ℕ) (ordered second : Bool) (lead : ℕ) : Type 0 where
  pub outer-is : outer ≡ get_or ns first 0
  pub outer-small : outer ≤ number_most
  pub ordered-is : ordered ≡ leb 2 (get_or ns (first + 1) 0)
  pub second-is : second ≡ eqb (get_or ns (first + 1) 0 % 2) 1
  pub lead-is : lead ≡ get_or ns (first + 2) 0

-- what reading the table at `first` takes
pub record Framed (bs ns : List ℕ) (table at top first : ℕ) : Type 0 where
  pub inner : (table ≤ first) × (first + 2 < top)
  pub rises : Rises (between (first + 2) top ns) at
  pub fits : (at ≤ length bs) × ((at ≤ length ns) × (top ≤ length ns))
  pub start : get_or ns (first + 2) 0 ≤ at
  pub short : length ns ≤ number_most

-- what reading the place where its lead begins takes
abbrev pub Starts : (bs ns : List ℕ) (first : ℕ) → Type 0
Starts bs ns first = (first + 2 < length ns) × ((get_or ns (first + 2) 0 ≤ length bs) × ((get_or ns (first + 2) 0 ≤ length ns) × (length ns ≤ number_most)))

-- the innermost list closed
abbrev pub closed_in : (now : List Cell) → List Open → State → State
closed_in now [] s = s
closed_in now (l ∷ ls) s = record { now = close l ls now; second = not l.second; lists = ls }

abbrev pub close_inner : State → State
close_inner s = closed_in s.now s.lists s

-- how many numbers a tag puts into the table
abbrev pub pushed : Tag → ℕ
pushed (Opener n o) = 3
pushed Item = 1
pushed Closer = 0
pushed Plain = 0

-- ---- tags, where the text from them on is y

-- cells that stay text
abbrev pub kept : List Cell → State → State
kept x s = record { now = s.now ++ x; second = s.second; lists = s.lists }

abbrev pub step_by : Tag → (y : List Cell) → State → State
step_by (Opener n o) y s = record { now = []; second = false; lists = record { outer = s.now; ordered = o; second = s.second; parts = [] } ∷ s.lists }
step_by Item y s = started (take 3 y) s s.lists
step_by Closer y s = closed (take 7 y) s s.lists
step_by Plain y s = kept (take 1 y) s

-- how many cells are taken with the first: a tag's others, or the text before the next `[`, which is `more` cells behind it
abbrev pub rest_with : Tag → (more : ℕ) → ℕ
rest_with (Opener n o) more = n
rest_with Item more = 2
rest_with Closer more = 6
rest_with Plain more = more

-- a tag, or this text at once
abbrev pub take_by : Tag → (more : ℕ) → (y : List Cell) → State → State
take_by (Opener n o) more y = step_by (Opener n o) y
take_by Item more y = step_by Item y
take_by Closer more y = step_by Closer y
take_by Plain more y = kept (take (more + 1) y)

-- how many lists are open behind a tag, where depth are open before it
abbrev pub depth_by : Tag → (depth : ℕ) → ℕ
depth_by (Opener n o) depth = depth + 1
depth_by Item depth = depth
depth_by Closer depth = depth - 1
depth_by Plain depth = depth

-- ---- a run

-- the slices hold a state from which the tokens ks lead to the text of the pass on x, and `seen` cells are the most that stood there before it
pub record Running (x before : List Cell) (bs ns : List ℕ) (end table at top first : ℕ) (second : Bool) (seen : ℕ) (ks : List Token) : Type 0 where
  pub state : State
  pub holds : Stands before bs ns end table at top first second state
  pub need : lists_need x ≡ max seen (run_need ks state)
  pub same : lists x ≡ run ks state

-- the pass's text on x stands from place base on, up to place r, and its need is in the room m
pub record Written (x : List Cell) (base m : ℕ) (bs ns : List ℕ) (r need : ℕ) : Type 0 where
  pub needs : need ≡ lists_need x
  pub fits : need ≤ m
  pub end : r ≡ base + length (lists x)
  pub text : part base r (cells bs ns) ≡ lists x

-- what the pass on x answers: refusal 5 comes before refusal 6
abbrev pub Passes : (x : List Cell) (base m : ℕ) (bs ns : List ℕ) → Result Passed Refusal → Type 0
Passes x base m bs ns (Ok p) = (too_deep x ≡ false) × Written x base m bs ns p.end.0 p.need
Passes x base m bs ns (Err r) = (r ≡ cond (too_deep x) TooDeep NoSpace) × (too_deep x ≡ false → m < lists_need x)

-- where all is read
abbrev pub Ends : (x : List Cell) (base m : ℕ) (bs ns : List ℕ) → Result Passed Refusal → Type 0
Ends x base m bs ns (Ok p) = Written x base m bs ns p.end.0 p.need
Ends x base m bs ns (Err r) = (r ≡ NoSpace) × (m < lists_need x)

-- ---- in code

-- how many cells the contents may have
abbrev pub room_of : Areas → ℕ
room_of w = w.end.0 - w.base.0

-- where the area of a block ends
abbrev pub limit_of : Areas → ℕ
limit_of w = w.end.0 + room_of w

-- the areas stand one behind another in slices of so many bytes and numbers
abbrev pub Spaced : Areas → (bytes numbers : ℕ) → Type 0
Spaced w bytes numbers = ((w.base.0 ≤ w.end.0) × (limit_of w ≤ w.table.0)) × ((limit_of w ≤ bytes) × (numbers ≤ number_most))

-- what the pass on the cells from a up to e asks for
abbrev pub PassRoom : (a e : ℕ) → Areas → (bs ns : List ℕ) → Type 0
PassRoom a e w bs ns = ((a ≤ e) × (e ≤ w.base.0)) × (Spaced w (length bs) (length ns) × (w.table.0 + pushes (tokens 0 (part a e (cells bs ns))) ≤ length ns))

abbrev pub ReadyIn : (bs ns : List ℕ) → Areas → Machine → Type 0
ReadyIn bs ns w st = Ready bs ns w.base.0 w.end.0 w.table.0 st.at.0 st.top.0 st.first.0 st.second

-- what stands outside of the areas stays: bytes and numbers before place `base`, bytes from place `limit` on, and numbers from there up to the table
pub record Stays (base limit table : ℕ) (bs ns bs' ns' : List ℕ) : Type 0 where
  pub bytes-before : take base bs' ≡ take base bs
  pub numbers-before : take base ns' ≡ take base ns
  pub bytes-behind : drop limit bs' ≡ drop limit bs
  pub numbers-behind : between limit table ns' ≡ between limit table ns

abbrev pub StaysIn : Areas → (bs ns bs' ns' : List ℕ) → Type 0
StaysIn w bs ns bs' ns' = Stays w.base.0 (limit_of w) w.table.0 bs ns bs' ns'

-- a step by f that puts at most `more` numbers into the table
abbrev pub StepsIn : (f : State → State) (more : ℕ) → Areas → (bs ns : List ℕ) → Machine → (bs' ns' : List ℕ) → Machine → Type 0
StepsIn f more w bs ns st bs' ns' st' =
    Steps f w.base.0 bs ns w.end.0 w.table.0 st.at.0 st.top.0 st.first.0 st.second bs' ns' st'.at.0 st'.top.0 st'.first.0 st'.second
    × (st'.top.0 ≤ st.top.0 + more) × StaysIn w bs ns bs' ns'

-- a list is opened, whatever the areas and the bytes are
abbrev pub OpensIn : (ordered : Bool) (ns : List ℕ) → Machine → (ns' : List ℕ) → Machine → Type 0
OpensIn o ns st ns' st' =
    (n : ℕ) (w : Areas) (bs : List ℕ) (y : List Cell) → st.at.0 ≤ w.end.0 → w.end.0 ≤ length bs
    → w.base.0 ≤ st.top.0 → w.table.0 ≤ st.top.0
    → Steps (step_by (Opener n o) y) w.base.0 bs ns w.end.0 w.table.0 st.at.0 st.top.0 st.first.0 st.second bs ns' st'.at.0 st'.top.0 st'.first.0 st'.second
    × StaysIn w bs ns bs ns'

abbrev pub RunningIn : (x before : List Cell) → Areas → (seen : ℕ) (bs ns : List ℕ) → Machine → List Token → Type 0
RunningIn x before w seen bs ns st ks = Running x before bs ns w.end.0 w.table.0 st.at.0 st.top.0 st.first.0 st.second seen ks

-- closing what is open
abbrev pub Finishes : Areas → (seen : ℕ) (bs ns : List ℕ) → Machine → (bs' ns' : List ℕ) → Result Passed Refusal → Type 0
Finishes w seen bs ns st bs' ns' r =
    ((x before : List Cell) → length before ≡ w.base.0 → RunningIn x before w seen bs ns st [] → Ends x w.base.0 (room_of w) bs' ns' r) × StaysIn w bs ns bs' ns'

-- what the pass on the cells from a up to e promises
abbrev pub PassedIn : (a e : ℕ) → Areas → (bs ns bs' ns' : List ℕ) → Result Passed Refusal → Type 0
PassedIn a e w bs ns bs' ns' r = Passes (part a e (cells bs ns)) w.base.0 (room_of w) bs' ns' r × StaysIn w bs ns bs' ns'

-- the cells that a pair of slices has from a up to e
abbrev pub lent : (a e : ℕ) (bs ns : List ℕ) → List Cell
lent a e bs ns = cells (take (e - a) (drop a bs)) (take (e - a) (drop a ns))
