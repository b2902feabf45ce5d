-- A slot that is written at once.
--   SomeText ..  item i is a text that is not empty
--   OneText ..   the slot that starts at item `from` is one text that is not empty, and ends
-- Assumes nothing.
use Rattle.std.specs.Prelude.{◌≡◌, List, ℕ, ◌+◌, ◌*◌, ◌≤◌, ◌<◌, length, get_or}
use Rattle.text.specs.Cells.{cells, part}
use Rattle.mark_tags.specs.Marks.{end, text, closed}
use Rattle.mark_tags.specs.Flat.{slot_at}

pub record SomeText (src ns : List ℕ) (i : ℕ) : Type 0 where
  pub code : get_or ns (2 * length src + 2 + i) 0 ≡ 0
  pub some : get_or ns (length src + i) 0 < get_or ns (length src + (i + 1)) 0

pub record OneText (src ns : List ℕ) (k from : ℕ) : Type 0 where
  pub inside : from + 2 ≤ k
  pub some : get_or ns (length src + from) 0 < get_or ns (length src + (from + 1)) 0
  pub slot : slot_at src ns k from ≡ closed (text (part (get_or ns (length src + from) 0) (get_or ns (length src + (from + 1)) 0) (cells src ns)) end) (slot_at src ns k (from + 2))
