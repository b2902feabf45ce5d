-- Laws of the writers of an item's lines. Assumes nothing.
use mathlib.Core.Path.{◌≡◌, refl, ◌∙◌}
use mathlib.Core.Bool.{Bool, true, false, true≢false}
use mathlib.Core.List.{List, [], ◌∷◌, ◌++◌, map}
use Prim.Native.Nat.{ℕ, ◌+◌, ◌≤◌, ◌<◌}
use lib.ListN.{length, get_or, replicate}
use Rattle.text.specs.Ascii.{is_empty}
use Rattle.text.specs.Cells.{Cell, cell, cells, part, feed}
use Rattle.text.specs.Lines.{trim_end, line_onto, lines, is_feed, followed, joined}
use Rattle.text.proofs.Writing.{part_end, part-cons}
use Rattle.list_blocks.specs.Blocks.{space, later_line, indented, marked, trimmed}

-- ---- a line after the first

later-some : (width : ℕ) (t : List Cell) → is_empty t ≡ false → later_line width t ≡ replicate width space ++ t
later-some width [] e = absurd (true≢false e)
later-some width (c ∷ t) e = refl

pub later-empty : (width a r : ℕ) (w : List Cell) → r ≤ a → feed ∷ [] ≡ feed ∷ later_line width (part a r w)
later-empty width a r w q = rw (part_end a r w q)

pub later-line : (width a r : ℕ) (bs ns : List ℕ) → a < r → r ≤ length bs → r ≤ length ns
    → feed ∷ replicate width space ++ part a r (cells bs ns) ≡ feed ∷ later_line width (part a r (cells bs ns))
later-line width a r bs ns lt hb hn =
    let n : is_empty (part a r (cells bs ns)) ≡ false = rw (part-cons bs ns a r lt hb hn) in
    rw (later-some width (part a r (cells bs ns)) n)

-- ---- lines

pub trimmed-next : (w : List Cell) (a r e : ℕ) → lines (part a e w) ≡ part a r w ∷ lines (part (r + 1) e w)
    → trimmed (part a e w) ≡ trim_end (part a r w) ∷ trimmed (part (r + 1) e w)
unfolding trimmed
trimmed-next w a r e q = rw q

-- all lines from a place on, each behind a line feed
abbrev pub later_from : (width i e : ℕ) → List Cell → List Cell
later_from width i e w = followed (map (later_line width) (trimmed (part i e w)))

pub lines-first : (width a j e y : ℕ) (w : List Cell) → lines (part a e w) ≡ part a j w ∷ lines (part (j + 1) e w) → part a y w ≡ trim_end (part a j w)
    → part a y w ++ later_from width (j + 1) e w ≡ joined (indented width (trimmed (part a e w)))
unfolding joined
lines-first width a j e y w q t = rw (trimmed-next w a j e q, ← t)

-- ---- an item

line-some : (t : Bool) (c : Cell) (ls : List (List Cell)) → is_empty (line_onto t c ls) ≡ false
line-some true c ls = refl
line-some false c [] = refl
line-some false c (l ∷ ls) = refl

map-some : (ls : List (List Cell)) → is_empty (map trim_end ls) ≡ is_empty ls
map-some [] = refl
map-some (l ∷ ls) = refl

cons-some : (c : Cell) (x : List Cell) → is_empty (trimmed (c ∷ x)) ≡ false
unfolding trimmed lines
cons-some c x = map-some (line_onto (is_feed c) c (lines x)) ∙ line-some (is_feed c) c (lines x)

pub trimmed-some : (bs ns : List ℕ) (a e : ℕ) → a < e → e ≤ length bs → e ≤ length ns → is_empty (trimmed (part a e (cells bs ns))) ≡ false
trimmed-some bs ns a e lt hb hn = rw (part-cons bs ns a e lt hb hn) (cons-some (cell (get_or bs a 0) (get_or ns a 0)) (part (a + 1) e (cells bs ns)))

pub marked-some : (mark : List Cell) (ls : List (List Cell)) → is_empty ls ≡ false → marked mark ls ≡ mark ++ joined (indented (length mark) ls)
marked-some mark [] e = absurd (true≢false e)
marked-some mark (l ∷ ls) e = refl

pub item_by : (mark : List Cell) (width a e : ℕ) (bs ns : List ℕ) → width ≡ length mark → a < e → e ≤ length bs → e ≤ length ns
    → mark ++ joined (indented width (trimmed (part a e (cells bs ns)))) ≡ marked mark (trimmed (part a e (cells bs ns)))
item_by mark width a e bs ns q lt hb hn = rw (marked-some mark (trimmed (part a e (cells bs ns))) (trimmed-some bs ns a e lt hb hn), ← q)
