-- Document 01, "Program `thread`": what its listing says of a converted post.
--   escaped s       "LF prints as `\n`, backslash as `\\`"
--   copied os       "copied (non-zero origins)": how many of the origins are not 0
--   line k v        one of the "key=value lines", where k ends with `=`
--   loss ..         "four lines a loss"
--   loss_lines ws r  these of the loss records r, whose fields stand in the loss bytes ws
--   sizes ..        the lines of a text's length, and of how many of its bytes are copied and written
--   counts ..       the lines before the losses
--   listing ..      the listing of a converted post: its text, origins, loss records and loss bytes
--   Adds .. s       the bytes s have been appended to a pair of slices, with no origins
--   Lists w w' s    the same by a writer w, which is w' then
-- Assumes nothing.
use Rattle.std.specs.Prelude.{ℕ, ◌+◌, ◌-◌, cond, List, [], ◌∷◌, ◌++◌, map, length, take, drop, eqb}
use Rattle.text.specs.Ascii.{ascii, is}
use Rattle.text.specs.Cells.{cells, sign}
use Rattle.text.specs.Decimal.{decimal}
use Rattle.text.specs.Writes.{Appends}
use Rattle.text.specs.Writers.{Wrote}
use Rattle.text.specs.declared.writer.Writer.{Writer}
use Rattle.losses.specs.declared.Loss.{Loss}

-- one byte of it
unfoldable pub escaped_byte : ℕ → List ℕ
escaped_byte b = cond (is "\n" b) (ascii "\\n") (cond (is "\\" b) (ascii "\\\\") (b ∷ []))

unfoldable pub escaped : List ℕ → List ℕ
escaped [] = []
escaped (b ∷ s) = escaped_byte b ++ escaped s

unfoldable pub copied : List ℕ → ℕ
copied [] = 0
copied (o ∷ os) = cond (eqb o 0) 0 1 + copied os

unfoldable pub line : (key value : List ℕ) → List ℕ
line key value = key ++ value ++ ascii "\n"

-- `size` bytes of the loss bytes ws, from place `start` on
unfoldable pub field : (start size : ℕ) → (ws : List ℕ) → List ℕ
field start size ws = take size (drop start ws)

unfoldable pub loss : (quote line_number unnamed : ℕ) → (name : List ℕ) → List ℕ
loss quote line_number unnamed name =
    line (ascii "quote=") (decimal quote) ++ line (ascii "line=") (decimal line_number) ++ line (ascii "unnamed=") (decimal unnamed) ++ line (ascii "field=") (escaped name)

unfoldable pub loss_lines : (ws : List ℕ) → (records : List Loss) → List ℕ
loss_lines ws [] = []
loss_lines ws (x ∷ records) = loss x.quote x.line x.unnamed (field x.start x.length ws) ++ loss_lines ws records

-- "length, copied (non-zero origins), written (length less copied)"
unfoldable pub sizes : (size origin : ℕ) → List ℕ
sizes size origin = line (ascii "length=") (decimal size) ++ line (ascii "copied=") (decimal origin) ++ line (ascii "written=") (decimal (size - origin))

unfoldable pub counts : (size origin losses : ℕ) → List ℕ
counts size origin losses = line (ascii "result=") (decimal 0) ++ sizes size origin ++ line (ascii "losses=") (decimal losses)

unfoldable pub listing : (text os : List ℕ) → (records : List Loss) → (ws : List ℕ) → List ℕ
listing text os records ws =
    counts (length text) (copied os) (length records) ++ loss_lines ws records ++ line (ascii "text=") (escaped text)

abbrev pub Adds : (bs ns : List ℕ) (at : ℕ) (bs' ns' : List ℕ) (at' : ℕ) (s : List ℕ) → Type 0
Adds bs ns at bs' ns' at' s = Appends (cells bs ns) at (cells bs' ns') at' (map sign s)

abbrev pub Lists : (w w' : Writer) (s : List ℕ) → Type 0
Lists w w' s = Wrote w w' (map sign s)

-- all of this module, for `unfolding` where a closed text is to be computed
unfoldable pub computes : Unit {0}
unfolding escaped_byte escaped copied line field loss loss_lines sizes counts listing
computes = tt
