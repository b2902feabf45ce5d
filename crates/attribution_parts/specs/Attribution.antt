-- Document 01, "Attributions", as document 02's request 10/13 leaves it: the caption of an attribution and its losses, from its parts ps.
--   first k ps      the index of the first usable field of kind k; the number of parts where there is none
--   field_of k ps    its value; empty where there is none (a usable one is not empty)
--   leading ps      1 where part 0 is a leading id, else 0
--   leading_id ps    the leading id; empty where there is none
--   joined ws       the texts ws that are not empty, joined by single spaces
--   texts ps        the texts but the leading id, joined
--   name, date, id  what the caption has of each; empty where it has none
--   caption s       the caption of the attribution s
--   loss_at ..       the loss that one part makes, if any
--   losses s        the losses of the attribution s, by part index
-- Assumes nothing.
use Rattle.std.specs.Prelude.{ℕ, suc, Bool, true, false, cond, not, ◌&&◌, ◌||◌, List, [], ◌∷◌, ◌++◌, map, drop, get_or, eqb}
use Rattle.text.specs.Ascii.{ascii, spells, is_empty, digits}
use Rattle.day.specs.Day.{is_seconds, day_of}
use Rattle.attribution_parts.specs.declared.Kind.{Kind}
use Rattle.attribution_parts.specs.declared.Kind.TheVariants.{Name, PostId, Id, Date, Time}
use Rattle.attribution_parts.specs.Parts.{Part, field, text, parts}

-- ---- fields: the first usable one of each kind counts

abbrev pub is_kind : Kind → List ℕ → Bool
is_kind Name key = spells (ascii "name") key || spells (ascii "author") key
is_kind PostId key = spells (ascii "post_id") key
is_kind Id key = spells (ascii "id") key
is_kind Date key = spells (ascii "date") key
is_kind Time key = spells (ascii "time") key

-- non-empty, and all digits for the ids
abbrev pub is_usable : Kind → List ℕ → Bool
is_usable Name v = not (is_empty v)
is_usable PostId v = digits v
is_usable Id v = digits v
is_usable Date v = not (is_empty v)
is_usable Time v = not (is_empty v)

abbrev pub counts : Kind → Part → Bool
counts k (field key v) = is_kind k key && is_usable k v
counts k (text w quoted) = false

unfoldable pub first : Kind → List Part → ℕ
first k [] = 0
first k (p ∷ ps) = cond (counts k p) 0 (suc (first k ps))

abbrev pub value_of : Part → List ℕ
value_of (field key v) = v
value_of (text w quoted) = w

abbrev pub part_no : ℕ → List Part → Part
part_no i ps = get_or ps i (text [] false)

unfoldable pub field_of : Kind → List Part → List ℕ
field_of k ps = value_of (part_no (first k ps) ps)

-- ---- texts: all but a leading id are joined, empty ones ignored

abbrev pub is_leading : Part → Bool
is_leading (field key v) = false
is_leading (text w quoted) = quoted && digits w

unfoldable pub leading : List Part → ℕ
leading ps = cond (is_leading (part_no 0 ps)) 1 0

unfoldable pub leading_id : List Part → List ℕ
leading_id ps = cond (is_leading (part_no 0 ps)) (value_of (part_no 0 ps)) []

abbrev pub spaced : List ℕ → List ℕ → List ℕ
spaced [] t = t
spaced (b ∷ s) [] = b ∷ s
spaced (b ∷ s) (c ∷ t) = (b ∷ s) ++ (32 ∷ c ∷ t)

unfoldable pub joined : List (List ℕ) → List ℕ
joined [] = []
joined (w ∷ ws) = spaced w (joined ws)

abbrev pub words_of : Part → List ℕ
words_of (field key v) = []
words_of (text w quoted) = w

unfoldable pub texts_of : List Part → List ℕ
texts_of ps = joined (map words_of ps)

unfoldable pub texts : List Part → List ℕ
texts ps = texts_of (drop (leading ps) ps)

-- ---- id and name

abbrev pub or_else : List ℕ → List ℕ → List ℕ
or_else [] t = t
or_else (b ∷ s) t = b ∷ s

-- by a field, else the leading id
unfoldable pub id : List Part → List ℕ
id ps = or_else (field_of PostId ps) (or_else (field_of Id ps) (leading_id ps))

-- by a field, else the texts
unfoldable pub name : List Part → List ℕ
name ps = or_else (field_of Name ps) (texts ps)

-- ---- date and caption

abbrev pub is_day : List Part → Bool
is_day ps = is_seconds (field_of Time ps)

unfoldable pub date : List Part → List ℕ
date ps = cond (is_day ps) (day_of (field_of Time ps)) (spaced (field_of Date ps) (field_of Time ps))

-- x before and z behind a text that is not empty
abbrev pub within : List ℕ → List ℕ → List ℕ → List ℕ
within x [] z = []
within x (b ∷ s) z = x ++ ((b ∷ s) ++ z)

unfoldable pub caption_of : List Part → List ℕ
caption_of ps = spaced (name ps) (spaced (within (ascii "(") (date ps) (ascii ")")) (within (ascii "#") (id ps) []))

unfoldable pub caption : List ℕ → List ℕ
caption s = caption_of (parts 0 s)

-- ---- losses: a part makes one at most, so they stand by part index

pub record Loss : Type 0 where
  pub unnamed : Bool
  pub words : List ℕ

abbrev pub loss_of : Bool → List ℕ → List Loss
loss_of unnamed [] = []
loss_of unnamed (b ∷ s) = record { unnamed = unnamed; words = b ∷ s } ∷ []

-- the rest of a run of unquoted texts, each behind a space
unfoldable pub run_words : List Part → List ℕ
run_words [] = []
run_words (field key v ∷ ps) = []
run_words (text w true ∷ ps) = []
run_words (text w false ∷ ps) = 32 ∷ w ++ run_words ps

abbrev pub in_run : Part → Bool
in_run (field key v) = false
in_run (text w quoted) = not quoted

module _ (all : List Part) where
  -- the field at index i is in the caption
  unfoldable pub is_used : ℕ → Bool
  is_used i =
      eqb i (first Name all)
      || (eqb i (first PostId all)
      || (eqb i (first Time all)
      || ((eqb i (first Id all) && is_empty (field_of PostId all))
      || (eqb i (first Date all) && not (is_day all)))))

  -- with a name field, texts are lost
  unfoldable pub unnamed : List ℕ → List Loss
  unnamed w = cond (is_empty (field_of Name all)) [] (loss_of true w)

  -- part i, with the parts ps behind it; `run`: the part before it is of the same run
  unfoldable pub loss_at : ℕ → Bool → Part → List Part → List Loss
  loss_at i run (field key v) ps = cond (is_used i) [] (loss_of false key)
  loss_at i run (text w true) ps = unnamed w
  loss_at i true (text w false) ps = []
  loss_at i false (text w false) ps = unnamed (w ++ run_words ps)

  unfoldable pub losses_from : ℕ → Bool → List Part → List Loss
  losses_from i run [] = []
  losses_from i run (p ∷ ps) = loss_at i run p ps ++ losses_from (suc i) (in_run p) ps

  -- a leading id that an id field passes over is lost as `id`
  unfoldable pub passed_over : List Loss
  passed_over = cond (is_empty (leading_id all) || (is_empty (field_of PostId all) && is_empty (field_of Id all))) [] (loss_of false (ascii "id"))

  unfoldable pub losses_of : List Loss
  losses_of = passed_over ++ losses_from (leading all) false (drop (leading all) all)

unfoldable pub losses : List ℕ → List Loss
losses s = losses_of (parts 0 s)

-- all of this module, for `unfolding` where a closed text is to be computed
unfoldable pub computes : Unit {0}
unfolding first field_of leading leading_id joined texts_of texts id name date caption_of caption run_words is_used unnamed loss_at losses_from passed_over losses_of losses
computes = tt
