-- What the code reads off an attribution, by places in it.
--   Tells test kind   the test holds of this kind and of no other; of none where there is no kind
--   FieldAt s k f     the first usable field of kind k: where its value stands, and which part is it
--   FieldsAt s f      this for all five kinds
--   field_as k f       of five fields the one of kind k
--   FieldsStep        one part more for all five
--   Found s k i at f  of the i parts before `at`: the first usable field of kind k, or there is none among them
--   FoundAll s i at f this for all five kinds
--   LeadAt s l        the leading id, and where the part behind it begins
--   id_by f l          of the first usable fields and the leading id: where the caption's id stands
--   IdAt s p          the caption's id stands at p
-- Assumes nothing.
use Rattle.std.specs.Prelude.{◌≡◌, ℕ, ◌+◌, ◌≤◌, ◌<◌, Bool, true, cond, ◌&&◌, List, length, drop, eqb, ltb, Option, Some}
use Rattle.attribution_parts.specs.declared.Kind.{Kind}
use Rattle.attribution_parts.specs.declared.Kind.TheVariants.{Name, PostId, Id, Date, Time}
use Rattle.attribution_reading.specs.declared.facts.Field.{Field}
use Rattle.attribution_reading.specs.declared.facts.Fields.{Fields}
use Rattle.attribution_reading.specs.declared.facts.Lead.{Lead}
use Rattle.attribution_reading.specs.declared.scan.Extent.{Extent}
use Rattle.attribution_reading.specs.declared.scan.Place.{Place}
use Rattle.attribution_parts.specs.Parts.{parts}
use Rattle.attribution_parts.specs.Attribution.{counts, first, field_of, leading, leading_id, id}
use Rattle.attribution_reading.specs.Places.{bytes, part_of, Stands}

pub record Tells (test : Kind → Bool) (kind : Option Kind) : Type 0 where
  pub holds : (k : Kind) → kind ≡ Some k → test k ≡ true
  pub alone : (k : Kind) → test k ≡ true → kind ≡ Some k

pub record FieldAt (s : List ℕ) (k : Kind) (f : Field) : Type 0 where
  pub words : bytes s f.value.from f.value.size ≡ field_of k (parts 0 s)
  pub inside : f.value.from + f.value.size ≤ length s
  pub here : (i : ℕ) → i < length (parts 0 s) → (ltb 0 f.value.size && eqb i f.index) ≡ eqb i (first k (parts 0 s))

pub record FieldsAt (s : List ℕ) (f : Fields) : Type 0 where
  pub name : FieldAt s Name f.name
  pub post : FieldAt s PostId f.post
  pub id : FieldAt s Id f.id
  pub date : FieldAt s Date f.date
  pub time : FieldAt s Time f.time

abbrev pub field_as : Kind → Fields → Field
field_as Name f = f.name
field_as PostId f = f.post
field_as Id f = f.id
field_as Date f = f.date
field_as Time f = f.time

-- the field that was found before, else the one at the place p, which has the index i
abbrev pub earlier_of : Field → Place → ℕ → Field
earlier_of f p i = cond (eqb f.value.size 0) (record { value = p.value; index = i }) f

-- from f to r, the part at the place p, which has the index i, has been read
pub record FieldsStep (s : List ℕ) (f : Fields) (p : Place) (i : ℕ) (r : Fields) : Type 0 where
  pub step : (k : Kind) → field_as k r ≡ cond (counts k (part_of s p)) (earlier_of (field_as k f) p i) (field_as k f)

pub record Found (s : List ℕ) (k : Kind) (i at : ℕ) (f : Field) : Type 0 where
  pub inside : f.value.from + f.value.size ≤ length s
  pub no : f.value.size ≡ 0 → first k (parts 0 s) ≡ i + first k (parts 0 (drop at s))
  pub yes : (f.value.size ≡ 0 → ⊥) → FieldAt s k f

-- the scanner stands at `at`, behind i parts
pub record FoundAll (s : List ℕ) (i at : ℕ) (f : Fields) : Type 0 where
  pub stands : Stands s i at
  pub slow : i ≤ at
  pub found : (k : Kind) → Found s k i at (field_as k f)

pub record LeadAt (s : List ℕ) (l : Lead) : Type 0 where
  pub words : bytes s l.id.from l.id.size ≡ leading_id (parts 0 s)
  pub inside : l.id.from + l.id.size ≤ length s
  pub count : l.count ≡ leading (parts 0 s)
  pub slow : l.count ≤ l.next
  pub stands : Stands s l.count l.next

abbrev pub id_by : Fields → Lead → Extent
id_by f l = cond (ltb 0 f.post.value.size) f.post.value (cond (ltb 0 f.id.value.size) f.id.value l.id)

pub record IdAt (s : List ℕ) (p : Extent) : Type 0 where
  pub words : bytes s p.from p.size ≡ id (parts 0 s)
  pub inside : p.from + p.size ≤ length s
