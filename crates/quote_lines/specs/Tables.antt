-- The table of the quote tags of a text s in code, from place t of a slice of numbers on: for each tag three numbers, its line, the place and
-- the length of its attribution in s; and behind these, for each tag what its attribution weighs without backslashes.
--   weight s              256 for each byte, and the bytes' sum: what has different weights is different
--   words_at s ns p        the attribution of the tag whose numbers stand at p
--   WordsIn s ns p        it stands in s
--   TagAt s ns p tag      the numbers at p are those of a tag
--   Weighed s ns t count  behind the numbers of so many tags stand the weights of their attributions
--   Table s ns t count    the table holds the tags of s, so many
--   LinesRead text bs ns size count  bs begins with the masked text, so many bytes, and ns with its table
--   line_in ns t count next  the line of tag `next`, at most the last; 1 if there are none
--   Tabled s ns t i line count  it holds those that begin before place i, where this line is
--   Untagged s i p        no tag begins from place i up to p
--   NextOpener s i p b k  the first tag from place i on: at p, k bytes, its `]` at b; k is 0 and p the end where there is none
--   lines_behind line s    the line behind s, where it begins in this line
--   PastBackslashes s i r   r is the first place from i on with another byte than a backslash, or the end
-- Assumes nothing.
use Rattle.std.specs.Prelude.{◌≡◌, ℕ, ◌+◌, ◌-◌, ◌*◌, ◌≤◌, ◌<◌, min, false, cond, List, [], ◌∷◌, length, take, drop, get_or, eqb}
use Rattle.text.specs.Ascii.{is, to_bracket}
use Rattle.quote_tags.specs.Tags.{NextBracket, opener_size}
use Rattle.quote_tags.specs.Masks.{visible}
use Rattle.quote_lines.specs.Lines.{Tag, bare, line_after, tags}

unfoldable pub weight : List ℕ → ℕ
weight [] = 0
weight (b ∷ s) = 256 + b + weight s

unfoldable pub words_at : (s ns : List ℕ) → ℕ → List ℕ
words_at s ns p = take (get_or ns (p + 2) 0) (drop (get_or ns (p + 1) 0) s)

abbrev pub WordsIn : (s ns : List ℕ) (p : ℕ) → Type 0
WordsIn s ns p = get_or ns (p + 1) 0 + get_or ns (p + 2) 0 ≤ length s

pub record TagAt (s ns : List ℕ) (p line : ℕ) (attribution : List ℕ) : Type 0 where
  pub inside : WordsIn s ns p
  pub line-is : get_or ns p 0 ≡ line
  pub words_are : words_at s ns p ≡ attribution

abbrev pub no_tag : Tag
no_tag = record { line = 1; attribution = [] }

abbrev pub TagsAt : (s ns : List ℕ) (t count : ℕ) → Type 0
TagsAt s ns t count = (k : ℕ) → k < count → TagAt s ns (t + 3 * k) (get_or (tags 1 0 s) k no_tag).line (get_or (tags 1 0 s) k no_tag).attribution

abbrev pub Weighed : (s ns : List ℕ) (t count : ℕ) → Type 0
Weighed s ns t count = (k : ℕ) → k < count → get_or ns (t + 3 * count + k) 0 ≡ weight (bare (words_at s ns (t + 3 * k)))

pub record Table (s ns : List ℕ) (t count : ℕ) : Type 0 where
  pub all : count ≡ length (tags 1 0 s)
  pub room : t + 4 * count ≤ length ns
  pub each : TagsAt s ns t count
  pub weighed : Weighed s ns t count

pub record LinesRead (text bs ns : List ℕ) (size count : ℕ) : Type 0 where
  pub short : size ≤ length text
  pub masked : take size bs ≡ visible text
  pub table : Table (take size bs) ns 0 count

unfoldable pub line_in : (ns : List ℕ) (t count next : ℕ) → ℕ
line_in ns t count next = cond (eqb count 0) 1 (get_or ns (t + 3 * min next (count - 1)) 0)

pub record Tabled (s ns : List ℕ) (t i line count : ℕ) : Type 0 where
  pub rest : drop count (tags 1 0 s) ≡ tags line 0 (drop i s)
  pub some : count ≤ length (tags 1 0 s)
  pub few : 7 * count ≤ i
  pub line-most : line ≤ i + 1
  pub each : TagsAt s ns t count

pub record Untagged (s : List ℕ) (i p : ℕ) : Type 0 where
  pub order : i ≤ p
  pub inside : p ≤ length s
  pub skip : (line : ℕ) → tags line 0 (drop i s) ≡ tags line (p - i) (drop i s)

pub record NextOpener (s : List ℕ) (i p b k : ℕ) : Type 0 where
  pub before : Untagged s i p
  pub size : k ≡ opener_size (drop p s)
  pub bracket : NextBracket s p b
  pub closed : (k ≡ 0 → ⊥) → b ≡ p + to_bracket (drop p s)
  pub none : k ≡ 0 → p ≡ length s

unfoldable pub lines_behind : (line : ℕ) → List ℕ → ℕ
lines_behind line [] = line
lines_behind line (b ∷ s) = lines_behind (line_after b line) s

pub record PastBackslashes (s : List ℕ) (i r : ℕ) : Type 0 where
  pub inside : r ≤ length s
  pub later : i ≤ r
  pub same : bare (drop r s) ≡ bare (drop i s)
  pub stops : r < length s → is "\\" (get_or s r 0) ≡ false
