-- An attribution and its joined texts in the slice that its caption is written into.
--   date_and_id ps          what a caption has behind its name
--   Spoken s at end w     the words w stand in s, outside of the area from `at` up to `end`
--   NameAt s w .. i j     the name stands in s from i up to j, in one of the two places of w
-- Assumes nothing.
use Rattle.std.specs.Prelude.{◌≡◌, ℕ, ◌≤◌, List, [], length}
use Rattle.text.specs.Ascii.{ascii}
use Rattle.text.specs.Writes.{Apart, cut}
use Rattle.attribution_parts.specs.Parts.{Part}
use Rattle.attribution_parts.specs.Attribution.{spaced, within, date, id}
use Rattle.attribution_losses.specs.Captions.{named, name_texts}
use Rattle.attribution.specs.declared.caption.Words.{Words}

-- the attribution's bytes
abbrev pub said : Words → List ℕ → List ℕ
said w s = cut w.from.0 w.to.0 s

-- the date and the id of a caption
abbrev pub date_and_id : List Part → List ℕ
date_and_id ps = spaced (within (ascii "(") (date ps) (ascii ")")) (within (ascii "#") (id ps) [])

pub record Spoken (s : List ℕ) (at end : ℕ) (w : Words) : Type 0 where
  pub order : w.from.0 ≤ w.to.0
  pub inside : w.to.0 ≤ length s
  pub apart : Apart w.from.0 w.to.0 at end
  pub joined-order : w.joined.0 ≤ w.past.0
  pub joined-inside : w.past.0 ≤ length s
  pub joined-apart : Apart w.joined.0 w.past.0 at end
  pub joins : cut w.joined.0 w.past.0 s ≡ name_texts (said w s)

pub record NameAt (s : List ℕ) (w : Words) (from size i j : ℕ) : Type 0 where
  pub words : cut i j s ≡ named (said w s) (cut w.joined.0 w.past.0 s) from size
  pub order : i ≤ j
  pub inside : j ≤ length s
  pub apart : (at end : ℕ) → Apart w.from.0 w.to.0 at end → Apart w.joined.0 w.past.0 at end → Apart i j at end
