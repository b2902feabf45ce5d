-- Writing into a writer's area.
--   Behind end ..            nothing from place `end` on has changed
--   area w                   the cells of a writer's area
--   Kept w w'                the writer holds the same pair of slices as before, and nothing behind its area has changed
--   Rewrote g p w w'         the cells from place p on have become others by g
--   FinishedIn w .. w' ..    a mark has been finished whose body ended at the writer's place
--   escaped_part escape a e x the cells of x from a up to e, with a backslash before the last or without
-- Assumes nothing.
use Rattle.std.specs.Prelude.{◌≡◌, Bool, List, ◌++◌, ℕ, ◌-◌, take, drop}
use Rattle.text.specs.Cells.{Cell, cells, part}
use Rattle.text.specs.Writers.{Same}
use Rattle.text.specs.declared.writer.Writer.{Writer}
use Rattle.mark_tags.specs.Marks.{backslash}
use Rattle.mark_tags.specs.Flat.{Becomes}
use Rattle.mark_pieces.specs.Spans.{Finished}

pub record Behind (end : ℕ) (bs ns bs' ns' : List ℕ) : Type 0 where
  pub bytes : drop end bs' ≡ drop end bs
  pub numbers : drop end ns' ≡ drop end ns

abbrev pub area : Writer → List Cell
area w = cells (take w.end w.bytes.now) (take w.end w.numbers.now)

pub record Kept (w w' : Writer) : Type 0 where
  pub behind : Behind w.end w.bytes.now w.numbers.now w'.bytes.now w'.numbers.now
  pub same : Same w w'

pub record Rewrote (g : List Cell → List Cell) (p : ℕ) (w w' : Writer) : Type 0 where
  pub text : Becomes g (area w) p w.at.0 (area w') w'.at.0
  pub kept : Kept w w'

pub record FinishedIn (w : Writer) (p : ℕ) (ss : List ℕ) (c e d before next : ℕ) (w' : Writer) (ss' : List ℕ) (braces : Bool) : Type 0 where
  pub finished : Finished (take w.end w.bytes.now) (take w.end w.numbers.now) p w.at.0 ss c e d before next (take w'.end w'.bytes.now) (take w'.end w'.numbers.now) w'.at.0 ss' braces
  pub kept : Kept w w'

abbrev pub escaped_part : (escape : Bool) → (a e : ℕ) → List Cell → List Cell
escaped_part escape a e x = part a (e - 1) x ++ (backslash escape ++ part (e - 1) e x)
