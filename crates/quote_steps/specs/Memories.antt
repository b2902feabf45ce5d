-- What the steps of the quote pass leave of its memory m, as m'.
--   Same m m'          the same pair of slices as before, of the same lengths, with the same areas
--   Built ..           the block of a quote stands in its area, and the contents are as they were
--   ClosesQuote ..     the content of a quote has been replaced by its block
--   ClosesInner ..     the innermost open quote has been closed; the text stays
--   Ready ..           there is a token to take
--   TakesToken ..      one token has been taken, and text behind it; the text stays
--   RunsAll ..         all tokens have been taken, as far as they fit
--   ClosesAll ..       all open quotes have been closed, as far as they fit
-- Assumes nothing.
use Rattle.std.specs.Prelude.{◌≡◌, ℕ, ◌+◌, ◌≤◌, ◌<◌, max, List, length, take, drop, Option, Some, None}
use Rattle.text.specs.Bounds.{deep_most}
use Rattle.text.specs.Cells.{Cell, cells, part}
use Rattle.attribution_parts.specs.Attribution.{caption}
use Rattle.quote_tags.specs.Tags.{NextBracket, opener_size}
use Rattle.quote_blocks.specs.Quotes.{Quote, finish, finish_need, quotes_need}
use Rattle.quote_steps.specs.Passes.{block_of, BuiltIn, ClosesIn, ClosesLast, TakesOne, Stands, Leaves, Finishing}
use Rattle.quote_steps.specs.declared.stack.Opened.{Opened}
use Rattle.quote_steps.specs.declared.close.Memory.{Memory}
use Rattle.quote_steps.specs.declared.pass.Taken.{Taken}
use Rattle.quote_steps.specs.declared.pass.Reached.{Reached}
use Rattle.quote_steps.specs.declared.pass.Passed.{Passed}

pub record Same (m m' : Memory) : Type 0 where
  pub work : m'.work.ghost_name ≡ m.work.ghost_name
  pub numbers : m'.numbers.ghost_name ≡ m.numbers.ghost_name
  pub work-size : length m'.work.now ≡ length m.work.now
  pub numbers-size : length m'.numbers.now ≡ length m.numbers.now
  pub areas : m'.areas ≡ m.areas

abbrev pub Built : (m : Memory) (tag begin to : ℕ) (m' : Memory) (r : ℕ) → Type 0
Built m tag begin to m' r =
    BuiltIn m.work.now m.numbers.now m.areas.end.0 m.areas.top.0 m'.work.now m'.numbers.now r (block_of m.areas.text.0 m.work.now tag (part begin to (cells m.work.now m.numbers.now)))

abbrev pub ClosesQuote : (m : Memory) (tag start to : ℕ) (m' : Memory) (to' : ℕ) → Type 0
ClosesQuote m tag start to m' to' = ClosesIn m.work.now m.numbers.now m.areas.end.0 start to m'.work.now m'.numbers.now to' (block_of m.areas.text.0 m.work.now tag)

pub record ClosesInner (m : Memory) (o : Opened) (to : ℕ) (m' : Memory) (to' : ℕ) : Type 0 where
  pub place : m.areas.base.0 ≤ to'
  pub text : take m.areas.text.0 m'.work.now ≡ take m.areas.text.0 m.work.now
  pub closes : ClosesLast caption m.areas.text.0 m.areas.base.0 m.areas.end.0 m.work.now m.numbers.now to o m'.work.now m'.numbers.now to'

pub record Ready (m : Memory) (os : List Opened) (t : Taken) : Type 0 where
  pub at : t.at.0 < m.areas.text.0
  pub to : (m.areas.base.0 ≤ t.to.0) × (t.to.0 ≤ m.areas.end.0)
  pub bracket : NextBracket (take m.areas.text.0 m.work.now) t.at.0 t.bracket.0
  pub room : (opener_size (drop t.at.0 (take m.areas.text.0 m.work.now)) ≡ 0 → ⊥) → length os < deep_most

pub record TakesToken (m : Memory) (os : List Opened) (t : Taken) (m' : Memory) (os' : List Opened) (t' : Taken) : Type 0 where
  pub on : (t.at.0 < t'.at.0) × (t'.at.0 ≤ m.areas.text.0)
  pub place : m.areas.base.0 ≤ t'.to.0
  pub text : take m.areas.text.0 m'.work.now ≡ take m.areas.text.0 m.work.now
  pub bracket : NextBracket (take m.areas.text.0 m'.work.now) t'.at.0 t'.bracket.0
  pub takes : TakesOne caption m.areas.text.0 m.areas.base.0 m.areas.end.0 m.work.now m.numbers.now t.to.0 os t.at.0 m'.work.now m'.numbers.now t'.to.0 os' t'.at.0

-- whatever is open at r
abbrev pub ClosesAll : (m : Memory) (os : List Opened) (r : Reached) (m' : Memory) → Option Passed → Type 0
ClosesAll m os r m' answer =
    (P now : List Cell) (qs : List Quote) → length P ≡ m.areas.base.0 → m.areas.base.0 + r.seen ≤ m.areas.end.0
    → Stands m.areas.text.0 P (take m.areas.end.0 (cells m.work.now m.numbers.now)) r.to.0 os (record { now = now; opened = qs })
    → Leaves m.areas.base.0 m.areas.end.0 (take m.areas.end.0 (cells m'.work.now m'.numbers.now)) (finish caption now qs) (max r.seen (finish_need caption now qs)) answer

abbrev pub RunsAll : (m m' : Memory) (os : List Opened) → Option Reached → Type 0
RunsAll m m' os (Some r) =
    ((m.areas.base.0 ≤ r.to.0) × (r.to.0 ≤ m.areas.end.0))
    × Finishing caption m.areas.text.0 m.areas.end.0 (take m.areas.base.0 (cells m.work.now m.numbers.now)) (take m.areas.end.0 (cells m'.work.now m'.numbers.now)) r.to.0 os r.seen
RunsAll m m' os None = m.areas.end.0 < m.areas.base.0 + quotes_need caption (take m.areas.text.0 (cells m.work.now m.numbers.now))
