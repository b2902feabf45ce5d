-- How the quote pass stands in work memory. The text x is the first e cells of a pair of slices, and the open contents stand in them one
-- behind another from `base` up to a place `to`, in an area that ends at `end`; P is what stands before `base`.
--   Lent m ..             how long the lent slices are, for the areas m
--   Content m begin to    where a content may stand
--   BuiltIn ..            a block stands in its area, and the contents are as they were
--   Stood .. os qs        where the content of each open quote begins, and where its opener stands in the text
--   Stands .. s           the area holds what the state s of the machine has
--   Closes ..             the last content of an area has been replaced by another text; ClosesIn: of a pair of slices
--   ClosesLast            the innermost open quote has been closed
--   texts x r             text cell by cell, and the tokens r behind it
--   more s x              the state s, and text behind it
--   Takes, TakesOne       one token has been taken, and text behind it
--   Leaves .. need r      the area holds the pass's result and r its need, or the need exceeds the room; PassedIn: of the whole pass
--   Finishing ..          all tokens have been taken: what is open behind them
-- Assumes nothing.
use Rattle.std.specs.Prelude.{◌≡◌, ℕ, ◌+◌, ◌-◌, ◌*◌, ◌≤◌, ◌<◌, max, List, [], ◌∷◌, ◌++◌, length, take, drop, Option, Some, None}
use Rattle.text.specs.Bounds.{number_most}
use Rattle.text.specs.Cells.{Cell, cells, bytes, part}
use Rattle.text.specs.Writes.{Holds, Appends}
use Rattle.attribution_parts.specs.Attribution.{caption}
use Rattle.quote_tags.specs.Tags.{attribution_of}
use Rattle.quote_blocks.specs.Quotes.{Token, text, tokens, Quote, State, opening, close, step, finish, finish_need, quotes, quotes_need, quote_block}
use Rattle.quote_steps.specs.declared.stack.Opened.{Opened}
use Rattle.quote_steps.specs.declared.close.Areas.{Areas}
use Rattle.quote_steps.specs.declared.pass.Passed.{Passed}

-- a block's area is as long as the contents may get, and behind it there is room for as many bytes again; places fit in work numbers, four times over
abbrev pub LentWithin : (base end top : ℕ) (work numbers : List ℕ) → Type 0
LentWithin base end top work numbers =
    ((top + (top - end) ≤ length work) × (top ≤ length numbers)) × ((end ≤ base + (top - end)) × ((end ≤ top) × (4 * top ≤ number_most)))

abbrev pub Lent : Areas → (work numbers : List ℕ) → Type 0
Lent m work numbers = ((m.text.0 ≤ m.base.0) × (m.base.0 ≤ m.end.0)) × LentWithin m.base.0 m.end.0 m.top.0 work numbers

abbrev pub Content : Areas → (begin to : ℕ) → Type 0
Content m begin to = (m.base.0 ≤ begin) × ((begin ≤ to) × (to ≤ m.end.0))

-- the block of the quote whose opener stands at `tag`
abbrev pub block_of : (e : ℕ) (bs : List ℕ) (tag : ℕ) → List Cell → List Cell
block_of e bs tag = quote_block (caption (attribution_of (drop tag (take e bs))))

-- a text in the area from `end` up to `top`
pub record BuiltIn (bs ns : List ℕ) (end top : ℕ) (bs' ns' : List ℕ) (r : ℕ) (t : List Cell) : Type 0 where
  pub block : Appends (take top (cells bs ns)) end (take top (cells bs' ns')) r t
  pub bytes-kept : take end bs' ≡ take end bs
  pub numbers-kept : take end ns' ≡ take end ns

-- s: the text's bytes
unfoldable pub Stood : (s : List ℕ) (base : ℕ) → List Opened → List Quote → Type 0
Stood s base [] [] = Unit
Stood s base (o ∷ os) (q ∷ qs) =
    (o.start.0 ≡ base + length (opening (q ∷ qs)))
    × ((o.tag.0 ≤ length s) × (q.attribution ≡ attribution_of (drop o.tag.0 s)))
    × Stood s base os qs
Stood s base [] (q ∷ qs) = ⊥
Stood s base (o ∷ os) [] = ⊥

pub record Stands (e : ℕ) (P v : List Cell) (to : ℕ) (os : List Opened) (s : State) : Type 0 where
  pub text : Holds v to (P ++ (opening s.opened ++ s.now))
  pub stood : Stood (bytes (take e P)) (length P) os s.opened

-- from v, where it stands from `start` up to `to`, to v'; `block` gives the other text
pub record Closes (v : List Cell) (start to : ℕ) (v' : List Cell) (to' : ℕ) (block : List Cell → List Cell) : Type 0 where
  pub step : (p c : List Cell) → Holds v to (p ++ c) → length p ≡ start → Holds v' to' (p ++ block c)
  pub keeps : take start v' ≡ take start v

-- the same in the area of a pair of slices
pub record ClosesIn (bs ns : List ℕ) (end start to : ℕ) (bs' ns' : List ℕ) (to' : ℕ) (block : List Cell → List Cell) : Type 0 where
  pub closes : Closes (take end (cells bs ns)) start to (take end (cells bs' ns')) to' block

unfoldable pub texts : List Cell → List Token → List Token
texts [] r = r
texts (c ∷ x) r = text c ∷ texts x r

unfoldable pub more : State → List Cell → State
more s [] = s
more s (c ∷ x) = more (record { now = s.now ++ c ∷ []; opened = s.opened }) x

-- from place i to place i' of the text
pub record Takes (caption : List ℕ → List ℕ) (e : ℕ) (P v : List Cell) (to : ℕ) (os : List Opened) (i : ℕ) (v' : List Cell) (to' : ℕ) (os' : List Opened) (i' : ℕ) (s : State) : Type 0 where
  pub token : Token
  pub behind : List Cell
  pub reads : tokens 0 (drop i (take e P)) ≡ token ∷ texts behind (tokens 0 (drop i' (take e P)))
  pub stands : Stands e P v' to' os' (more (step caption token s) behind)

-- in the area of a pair of slices, from whatever may be open
pub record TakesOne (caption : List ℕ → List ℕ) (e base end : ℕ) (bs ns : List ℕ) (to : ℕ) (os : List Opened) (i : ℕ) (bs' ns' : List ℕ) (to' : ℕ) (os' : List Opened) (i' : ℕ) : Type 0 where
  pub each : (P : List Cell) (s : State) → length P ≡ base → Stands e P (take end (cells bs ns)) to os s → Takes caption e P (take end (cells bs ns)) to os i (take end (cells bs' ns')) to' os' i' s

-- the innermost open quote o has been closed, whatever else is open
pub record ClosesLast (caption : List ℕ → List ℕ) (e base end : ℕ) (bs ns : List ℕ) (to : ℕ) (o : Opened) (bs' ns' : List ℕ) (to' : ℕ) : Type 0 where
  pub each : (P now : List Cell) (q : Quote) (qs : List Quote) (os : List Opened) → length P ≡ base → Stands e P (take end (cells bs ns)) to (o ∷ os) (record { now = now; opened = q ∷ qs })
      → Stands e P (take end (cells bs' ns')) to' os (record { now = close caption q now; opened = qs })

-- v holds the text `result` from `base` on, in the room up to `end`
abbrev pub Leaves : (base end : ℕ) (v result : List Cell) (need : ℕ) → Option Passed → Type 0
Leaves base end v result need (Some p) = ((base + need ≤ end) × (p.need ≡ need)) × ((p.end.0 ≡ base + length result) × (part base p.end.0 v ≡ result))
Leaves base end v result need None = end < base + need

abbrev pub PassedIn : (m : Areas) (bs ns bs' ns' : List ℕ) → Option Passed → Type 0
PassedIn m bs ns bs' ns' =
    Leaves m.base.0 m.end.0 (take m.end.0 (cells bs' ns')) (quotes caption (take m.text.0 (cells bs ns))) (quotes_need caption (take m.text.0 (cells bs ns)))

-- what is open is left to be closed
pub record Finishing (caption : List ℕ → List ℕ) (e end : ℕ) (P v : List Cell) (to : ℕ) (os : List Opened) (seen : ℕ) : Type 0 where
  pub now : List Cell
  pub opened : List Quote
  pub stands : Stands e P v to os (record { now = now; opened = opened })
  pub same : quotes caption (take e P) ≡ finish caption now opened
  pub need : quotes_need caption (take e P) ≡ max seen (finish_need caption now opened)
  pub short : length P + seen ≤ end
