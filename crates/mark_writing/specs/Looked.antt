-- One item of a slot, looked at.
--   as_next n   what code says is written next, as the definition has it
--   Answer ..   whether the slot that starts at item `at` has content: if not, the item behind it
--   Touches ..  a last byte b before item i touches a mark as `touches` says, as far as it touches one at all
--   Skips ..    nothing is written from item i up to item j: a tag that vanishes, an empty text, a mark without content
--   Piece ..    item i is a text that is not empty, from place a up to place e
--   Looked ..   item i is what was seen of it: the end of the slot, a text, nothing up to another item, a mark with content
-- Assumes nothing.
use Rattle.std.specs.Prelude.{◌≡◌, List, Bool, true, ℕ, Option, Some, None, ◌+◌, ◌-◌, ◌*◌, ◌≤◌, ◌<◌, length, get_or}
use Rattle.mark_tags.specs.Marks.{Next, nothing, a_byte, a-mark, content, next, marked, touching}
use Rattle.mark_tags.specs.Flat.{within, slot_at, Empty}
use Rattle.mark_writing.specs.declared.look.Next as N
use Rattle.mark_writing.specs.declared.look.Next.TheVariants.{Nothing, Byte, Mark}
use Rattle.mark_writing.specs.declared.look.Seen.{Seen}
use Rattle.mark_writing.specs.declared.look.Seen.TheVariants as S

abbrev pub as_next : N.Next → Next
as_next Nothing = nothing
as_next (Byte b) = a_byte b
as_next Mark = a-mark

abbrev pub Answer : (src ns : List ℕ) → (k at : ℕ) → Option ℕ → Type 0
Answer src ns k at None = content (within (slot_at src ns k at)) ≡ true
Answer src ns k at (Some j) = Empty src ns k at j

abbrev pub Touches : (src ns : List ℕ) → (k i : ℕ) → (touches : Bool) → (b : ℕ) → Type 0
Touches src ns k i touches b = touching touches b ≡ touching (marked (next (within (slot_at src ns k i)))) b

pub data Skips (src ns : List ℕ) (k i j : ℕ) : Type 0 where
  skips-gone : (get_or ns (2 * length src + 2 + i) 0 ≡ 0 → ⊥) → (get_or ns (2 * length src + 2 + i) 0 ≡ 2 → ⊥) → get_or ns (2 * length src + 2 + i) 0 < 4 → j ≡ i + 1 → Skips src ns k i j
  skips-nothing : get_or ns (2 * length src + 2 + i) 0 ≡ 0 → get_or ns (length src + (i + 1)) 0 ≤ get_or ns (length src + i) 0 → j ≡ i + 1 → Skips src ns k i j
  skips-empty : 4 ≤ get_or ns (2 * length src + 2 + i) 0 → Empty src ns k (i + 1) j → Skips src ns k i j

pub record Piece (src ns : List ℕ) (k i a e : ℕ) (touches : Bool) (last : ℕ) : Type 0 where
  pub code : get_or ns (2 * length src + 2 + i) 0 ≡ 0
  pub first : a ≡ get_or ns (length src + i) 0
  pub behind : e ≡ get_or ns (length src + (i + 1)) 0
  pub some : a < e
  pub touch : Touches src ns k (i + 1) touches last
  pub is : last ≡ get_or src (e - 1) 0
  pub small : last ≤ 256

abbrev pub Looked : (src ns : List ℕ) → (k i : ℕ) → Seen → Type 0
Looked src ns k i S.End = get_or ns (2 * length src + 2 + i) 0 ≡ 2
Looked src ns k i (S.Text a e touches last) = Piece src ns k i a.0 e.0 touches last
Looked src ns k i (S.Skip item) = Skips src ns k i item
Looked src ns k i S.Mark = (4 ≤ get_or ns (2 * length src + 2 + i) 0) × (content (within (slot_at src ns k (i + 1))) ≡ true)
