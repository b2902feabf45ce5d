-- The caption of an attribution with no `]` has none: it is made of pieces of the attribution, of digits and of a few signs. Assumes nothing.
use mathlib.Core.Path.{◌≡◌, refl, ◌∙◌}
use mathlib.Core.Bool.{Bool, true, false, cond}
use mathlib.Core.List.{List, [], ◌∷◌, ◌++◌}
use Prim.Native.Nat.{ℕ, zero, suc, ◌+◌, ◌-◌, ◌*◌, ◌/◌, ◌%◌, ◌≤◌, ◌<◌}
use native.Mathlib.Omega.{arith}
use lib.ListN.{length, take, drop, get_or}
use lib.Dec.{eqb}
use borrow.Author.Tests.{ne_eqb}
use Rattle.text.specs.Ascii.{ascii, is_digit, all_digits, to_first}
use Rattle.text.specs.Origins.{count}
use Rattle.text.proofs.Bytes.{both, inside-true}
use Rattle.text.proofs.Bracketing.{brackets, brackets-none, brackets-append, brackets-take, brackets-drop}
use Rattle.day.specs.Day.{number_after, number, two, iso, date_after, is_seconds, day_of}
use Rattle.day.specs.declared.Date.{Date as Day}
use Rattle.day.proofs.Laws.{tens, tens-top, seconds-are, Small, date-small}
use Rattle.attribution_parts.specs.declared.Kind.{Kind}
use Rattle.attribution_parts.specs.declared.Kind.TheVariants.{Name, PostId, Id, Date, Time}
use Rattle.attribution_parts.specs.Parts.{Part, field, text, is_space, in_quotes, value, key_size, read_at, part_at, here, more, parts}
use Rattle.attribution_parts.specs.Attribution.{first, value_of, part_no, field_of, is_leading, leading, leading_id, spaced, joined, texts_of, texts, or_else, id, name, is_day, date, within, caption_of, caption}

-- ---- a day

-- a byte below `]` is none
small-byte : (b : ℕ) (s : List ℕ) → b < 93 → brackets (b ∷ s) ≡ brackets s
unfolding count
small-byte b s lt = rw (ne_eqb b 93 (λ e. omega arith)) (omega arith)

-- two digits before a text
two_digits : (n : ℕ) (s : List ℕ) → n < 100 → brackets (two n ++ s) ≡ brackets s
two_digits n s lt = small-byte (48 + n / 10) ((48 + n % 10) ∷ s) (omega arith) ∙ small-byte (48 + n % 10) s (omega arith)

-- a date of four digits, two and two
date-brackets : (t : Day) → Small t → brackets (iso t) ≡ 0
unfolding iso
date-brackets t h =
    let d = two t.day in
    let m = two t.month ++ (ascii "-" ++ d) in
    let y = two (t.year % 100) ++ (ascii "-" ++ m) in
    two_digits (t.year / 100) y (omega arith)
    ∙ two_digits (t.year % 100) (ascii "-" ++ m) (omega arith)
    ∙ small-byte 45 m (omega arith)
    ∙ two_digits t.month (ascii "-" ++ d) h.month
    ∙ small-byte 45 d (omega arith)
    ∙ two_digits t.day [] h.day
    ∙ brackets-none

-- i digits spell n, and s are the rest of eleven at most
number_small : (s : List ℕ) (i n : ℕ) → n < tens i → i + length s < 12 → all_digits s ≡ true → number_after n s < 100000000000
unfolding number_after all_digits
number_small [] i n lt h e = omega (arith, tens-top i (omega arith))
number_small (b ∷ s) i n lt h e =
    let d = both (is_digit b) (all_digits s) e in
    let r = inside-true 48 57 b d.0 in
    number_small s (suc i) (10 * n + (b - 48)) (omega arith) (omega arith) d.1

-- the day of seconds has no `]`
day-brackets : (s : List ℕ) → is_seconds s ≡ true → brackets (day_of s) ≡ 0
unfolding day_of number
day-brackets s e =
    let p = seconds-are s e in
    let l = number_small s 0 0 (omega arith) (omega (arith, p.0)) p.1 in
    date-brackets (date_after (number s / 86400)) (date-small (number s / 86400) (omega arith))

-- ---- parts

-- how many `]` the values of the parts have
in_parts : List Part → ℕ
in_parts [] = 0
in_parts (p ∷ ps) = brackets (value_of p) + in_parts ps

-- a value is a piece of the text
value-brackets : (s : List ℕ) → brackets (value s) ≤ brackets s
unfolding value
value-brackets s = by (in_quotes s) (to_first (λ b. eqb b (get_or s 0 0)) (drop 1 s)) (to_first is_space s)
  where
    by : (t : Bool) (m n : ℕ) → brackets (cond t (take m (drop 1 s)) (take n s)) ≤ brackets s
    by true m n = omega (arith, brackets-take m (drop 1 s), brackets-drop 1 s)
    by false m n = brackets-take n s

-- and so is that of the part that a text begins with
read-brackets : (k : ℕ) (s : List ℕ) → brackets (value_of (read_at k s)) ≤ brackets s
read-brackets zero s = value-brackets s
read-brackets (suc k) s = omega (arith, value-brackets (drop (suc (suc k)) s), brackets-drop (suc (suc k)) s)

-- the parts of a text with no `]` have none
parts-brackets : (skip : ℕ) (s : List ℕ) → brackets s ≡ 0 → in_parts (parts skip s) ≡ 0
unfolding parts part_at in_parts
parts-brackets zero [] h = refl
parts-brackets (suc skip) [] h = refl
parts-brackets (suc skip) (b ∷ s) h = parts-brackets skip s (omega (arith, brackets-drop 1 (b ∷ s)))
parts-brackets zero (b ∷ s) h = by (is_space b) (parts-brackets (more (is_space b) (b ∷ s)) s (omega (arith, brackets-drop 1 (b ∷ s))))
  where
    by : (t : Bool) → in_parts (parts (more t (b ∷ s)) s) ≡ 0 → in_parts (here t (b ∷ s) ++ parts (more t (b ∷ s)) s) ≡ 0
    by true g = g
    by false g = omega (arith, read-brackets (key_size (b ∷ s)) (b ∷ s), g)

-- one of the parts
part-brackets : (i : ℕ) (ps : List Part) → brackets (value_of (part_no i ps)) ≤ in_parts ps
unfolding in_parts
part-brackets i [] = omega (arith, brackets-none)
part-brackets zero (p ∷ ps) = omega arith
part-brackets (suc i) (p ∷ ps) = omega (arith, part-brackets i ps)

-- the parts behind the first n
drop-parts : (n : ℕ) (ps : List Part) → in_parts (drop n ps) ≤ in_parts ps
unfolding in_parts
drop-parts zero ps = omega arith
drop-parts (suc n) [] = omega arith
drop-parts (suc n) (p ∷ ps) = omega (arith, drop-parts n ps)

-- ---- texts put together

-- two texts, with a space between them
spaced-brackets : (s t : List ℕ) → brackets (spaced s t) ≡ brackets s + brackets t
spaced-brackets [] t = omega (arith, brackets-none)
spaced-brackets (b ∷ s) [] = omega (arith, brackets-none)
spaced-brackets (b ∷ s) (c ∷ t) = omega (arith, brackets-append (b ∷ s) (32 ∷ c ∷ t), small-byte 32 (c ∷ t) (omega arith))

-- one of two texts
or_else-brackets : (s t : List ℕ) → brackets (or_else s t) ≤ brackets s + brackets t
or_else-brackets [] t = omega arith
or_else-brackets (b ∷ s) t = omega arith

-- a text between signs
within-brackets : (x s z : List ℕ) → brackets (within x s z) ≤ brackets x + (brackets s + brackets z)
within-brackets x [] z = omega (arith, brackets-none)
within-brackets x (b ∷ s) z = omega (arith, brackets-append x ((b ∷ s) ++ z), brackets-append (b ∷ s) z)

-- the texts of the parts, joined
texts-brackets : (ps : List Part) → brackets (texts_of ps) ≤ in_parts ps
unfolding texts_of joined in_parts
texts-brackets [] = omega (arith, brackets-none)
texts-brackets (field key v ∷ ps) = omega (arith, texts-brackets ps)
texts-brackets (text w quoted ∷ ps) = omega (arith, spaced-brackets w (texts_of ps), texts-brackets ps)

-- ---- the caption of parts that have none

module _ (ps : List Part) (h : in_parts ps ≡ 0) where
  -- a field
  field-none : (k : Kind) → brackets (field_of k ps) ≡ 0
  unfolding field_of
  field-none k = omega (arith, part-brackets (first k ps) ps)

  -- the texts but the leading id
  texts-none : brackets (texts ps) ≡ 0
  unfolding texts
  texts-none = omega (arith, texts-brackets (drop (leading ps) ps), drop-parts (leading ps) ps)

  -- the id
  id-none : brackets (id ps) ≡ 0
  unfolding id leading_id
  id-none =
      omega (arith, or_else-brackets (field_of PostId ps) (or_else (field_of Id ps) (leading_id ps)), or_else-brackets (field_of Id ps) (leading_id ps), field-none PostId, field-none Id, leading-id (is_leading (part_no 0 ps)))
    where
      leading-id : (t : Bool) → brackets (cond t (value_of (part_no 0 ps)) []) ≡ 0
      leading-id true = omega (arith, part-brackets 0 ps)
      leading-id false = brackets-none

  -- the name
  name-none : brackets (name ps) ≡ 0
  unfolding name
  name-none = omega (arith, or_else-brackets (field_of Name ps) (texts ps), field-none Name, texts-none)

  -- the date
  date-none : brackets (date ps) ≡ 0
  unfolding date
  date-none = by (is_day ps) refl
    where
      by : (t : Bool) → is_day ps ≡ t → brackets (cond t (day_of (field_of Time ps)) (spaced (field_of Date ps) (field_of Time ps))) ≡ 0
      by true e = day-brackets (field_of Time ps) e
      by false e = omega (arith, spaced-brackets (field_of Date ps) (field_of Time ps), field-none Date, field-none Time)

  -- all of them
  caption_of-none : brackets (caption_of ps) ≡ 0
  unfolding caption_of
  caption_of-none =
      simp spaced-brackets
      (omega (
        arith,
        within-brackets (ascii "(") (date ps) (ascii ")"),
        within-brackets (ascii "#") (id ps) [],
        name-none,
        date-none,
        id-none,
        small-byte 40 [] (omega arith),
        small-byte 41 [] (omega arith),
        small-byte 35 [] (omega arith),
        brackets-none,
      ))

-- the caption of an attribution with no `]` has none
pub caption-brackets : (s : List ℕ) → brackets s ≡ 0 → brackets (caption s) ≡ 0
unfolding caption
caption-brackets s h = caption_of-none (parts 0 s) (parts-brackets 0 s h)
