-- What the functions that write into lent slices say.
--   Holds v at s              the first `at` cells of v are s, where s fits; where it does not, `at` is past v's end
--   Appends v at v' at' t     from v at `at` to v' at `at'`, t has been appended
--   AppendsIn .. end ..       the same in the area before `end` of a longer pair of slices; nothing before `at` and nothing behind `end` changes
--   Apart a e at end          the part from a up to e stands outside of the area from `at` up to `end`: before it or behind it
--   cut a e s                 the elements of s from a up to e
--   Pasted xs at xs' t        t stands in xs' from `at` on, behind what xs has there; up to 15 elements behind t may be others than in xs
--   BlocksFit .., BlocksPasted ..   the cells from a up to e can be, and have been, copied in blocks to place `at` on of the pair that they stand in
--   cleared from xs           xs with a 0 for each element from place `from` on
--   padded m xs               a slice of m elements that holds xs and then zeros
--   LaidOut x m k out plain   the text x stands in out and its origins in plain, slices of m and k elements, with zeros behind
-- Assumes nothing.
use Rattle.std.specs.Prelude.{◌≡◌, ℕ, ◌+◌, ◌-◌, ◌≤◌, ◌<◌, List, ◌++◌, length, take, drop, replicate}
use Rattle.text.specs.Cells.{Cell, cells, bytes, origins}

pub record Holds (v : List Cell) (at : ℕ) (s : List Cell) : Type 0 where
  pub end : length s ≤ length v → at ≡ length s
  pub text : length s ≤ length v → take at v ≡ s
  pub full : length v < length s → length v < at

pub record Appends (v : List Cell) (at : ℕ) (v' : List Cell) (at' : ℕ) (t : List Cell) : Type 0 where
  pub step : (s : List Cell) → Holds v at s → Holds v' at' (s ++ t)
  pub keeps : take at v' ≡ take at v
  pub grows : at ≤ at'

pub record AppendsIn (bs ns : List ℕ) (end at : ℕ) (bs' ns' : List ℕ) (at' : ℕ) (t : List Cell) : Type 0 where
  pub appends : Appends (take end (cells bs ns)) at (take end (cells bs' ns')) at' t
  pub bytes-before : take at bs' ≡ take at bs
  pub numbers-before : take at ns' ≡ take at ns
  pub bytes-behind : drop end bs' ≡ drop end bs
  pub numbers-behind : drop end ns' ≡ drop end ns

abbrev pub Apart : (a e at end : ℕ) → Type 0
Apart a e at end = at < e → end ≤ a

abbrev pub cut : (a e : ℕ) → List ℕ → List ℕ
cut a e s = take (e - a) (drop a s)

pub record Pasted {A : Type 0} (xs : List A) (at : ℕ) (xs' t : List A) : Type 0 where
  pub text : take (at + length t) xs' ≡ take at xs ++ t
  pub behind : drop (at + length t + 15) xs' ≡ drop (at + length t + 15) xs

abbrev pub BlocksFit : (bs ns : List ℕ) (a e at : ℕ) → Type 0
BlocksFit bs ns a e at =
    ((a ≤ e) × ((e + 15 ≤ length bs) × (e + 15 ≤ length ns))) × (((at + (e - a) + 15 ≤ length bs) × (at + (e - a) + 15 ≤ length ns)) × Apart a (e + 15) at (at + (e - a) + 15))

abbrev pub BlocksPasted : (bs ns : List ℕ) (a e at : ℕ) (bs' ns' : List ℕ) → Type 0
BlocksPasted bs ns a e at bs' ns' = Pasted bs at bs' (take (e - a) (drop a bs)) × Pasted ns at ns' (take (e - a) (drop a ns))

unfoldable pub cleared : (from : ℕ) → List ℕ → List ℕ
cleared from xs = take from xs ++ replicate (length xs - from) 0

unfoldable pub padded : (m : ℕ) → List ℕ → List ℕ
padded m xs = xs ++ replicate (m - length xs) 0

pub record LaidOut (x : List Cell) (m k : ℕ) (out plain : List ℕ) : Type 0 where
  pub text : out ≡ padded m (bytes x)
  pub from : plain ≡ padded k (origins x)
