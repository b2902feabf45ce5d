-- What the code's places in an attribution stand for.
--   bytes s a n       the n bytes of s from a on
--   part_of s p        the part that stands at a place
--   Inside s p         its key and its value stand in s
--   Stands s i at     the scanner stands at `at`, where part i begins; at the end behind the last one
--   ValueAt, PartAt   the value and the part that s has at a place
--   Scanned s at p    the part at `at` stands at p, and the next one begins at `p.next`
-- Assumes nothing.
use Rattle.std.specs.Prelude.{◌≡◌, ℕ, zero, suc, ◌+◌, ◌≤◌, ◌<◌, false, not, List, ◌∷◌, length, take, drop, get_or, eqb}
use Rattle.text.specs.Ascii.{to_first}
use Rattle.attribution_reading.specs.declared.scan.Place.{Place}
use Rattle.attribution_reading.specs.declared.scan.Value.{Value}
use Rattle.attribution_parts.specs.Parts.{is_space, Part, field, text, parts, value, in_quotes, value_size, part_at, part_size}

unfoldable pub bytes : List ℕ → ℕ → ℕ → List ℕ
bytes s a n = take n (drop a s)

abbrev pub part_with : ℕ → List ℕ → Place → Part
part_with zero s p = text (bytes s p.value.from p.value.size) (not (eqb p.value.from p.key.from))
part_with (suc k) s p = field (bytes s p.key.from p.key.size) (bytes s p.value.from p.value.size)

unfoldable pub part_of : List ℕ → Place → Part
part_of s p = part_with p.key.size s p

abbrev pub Inside : List ℕ → Place → Type 0
Inside s p = (p.key.from + p.key.size ≤ length s) × (p.value.from + p.value.size ≤ length s)

-- the run that s has at `at`
pub record RunAt (s : List ℕ) (at : ℕ) (v : Value) : Type 0 where
  pub from : v.words.from ≡ at
  pub size : v.words.size ≡ to_first is_space (drop at s)
  pub next : v.next ≡ at + to_first is_space (drop at s)
  pub inside : v.next ≤ length s

pub record ValueAt (s : List ℕ) (at : ℕ) (v : Value) : Type 0 where
  pub words : bytes s v.words.from v.words.size ≡ value (drop at s)
  pub quoted : not (eqb v.words.from at) ≡ in_quotes (drop at s)
  pub next : v.next ≡ at + value_size (drop at s)
  pub starts : at ≤ v.words.from
  pub ends : v.words.from + v.words.size ≤ v.next
  pub inside : v.next ≤ length s

pub record PartAt (s : List ℕ) (at : ℕ) (p : Place) : Type 0 where
  pub part : part_of s p ≡ part_at (drop at s)
  pub next : p.next ≡ at + part_size (drop at s)
  pub key : at ≤ p.key.from
  pub key-ends : p.key.from + p.key.size ≤ p.next
  pub starts : at ≤ p.value.from
  pub ends : p.value.from + p.value.size ≤ p.next
  pub inside : p.next ≤ length s

pub record Stands (s : List ℕ) (i at : ℕ) : Type 0 where
  pub inside : at ≤ length s
  pub begins : at < length s → is_space (get_or s at 0) ≡ false
  pub rest : drop i (parts 0 s) ≡ parts 0 (drop at s)

pub record Scanned (s : List ℕ) (at : ℕ) (p : Place) : Type 0 where
  pub part : parts 0 (drop at s) ≡ part_of s p ∷ parts 0 (drop p.next s)
  pub key : at ≤ p.key.from
  pub key-ends : p.key.from + p.key.size ≤ p.next
  pub starts : at ≤ p.value.from
  pub ends : p.value.from + p.value.size ≤ p.next
  pub grows : at < p.next
  pub inside : p.next ≤ length s
  pub begins : p.next < length s → is_space (get_or s p.next 0) ≡ false
