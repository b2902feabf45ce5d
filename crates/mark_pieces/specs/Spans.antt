-- What the functions that write a slot say of the text and of the lent spans.
--   raised by l      numbers raised by `by`
--   Raisable ss a e  the numbers of ss from a up to e can be raised
--   marks_in t        how many marks items hold, at every depth
--   Finishable ..    a mark starts at place p, its body ends at `at`, its span is to be listed at c, and the spans inside it end at e
--   Finished ..      such a mark's delimiters stand around its body, and its span before those inside it
--   Writes ..        a text and its spans have been written: from v at `at` and ss at c to v' at `at'` and ss' at c'
-- Assumes nothing.
use Rattle.std.specs.Prelude.{◌≡◌, List, ◌∷◌, ◌++◌, map, ℕ, suc, ◌+◌, ◌-◌, ◌*◌, ◌%◌, ◌≤◌, ◌<◌, length, take, drop, get_or, Bool, true, false, cond}
use Rattle.text.specs.Ascii.{is}
use Rattle.text.specs.Bounds.{text_most, out_most}
use Rattle.text.specs.Cells.{Cell, cells}
use Rattle.text.specs.Writes.{Holds, Appends}
use Rattle.mark_tags.specs.Marks.{Items, end, text, gone, mark, Written, shift, span_numbers, start, write, content, next, Step, mark_step, braced, escape_last}
use Rattle.mark_tags.specs.Flat.{within, beyond, slot_at, Held, Fresh, kind_numbered, kinds_of, behind_brace}

abbrev pub raised : (by : ℕ) → List ℕ → List ℕ
raised by = map (λ x. x + by)

abbrev pub Raisable : (ss : List ℕ) → (a e : ℕ) → Type 0
Raisable ss a e = (i : ℕ) → a ≤ i → i < e → get_or ss i 0 ≤ out_most

unfoldable pub marks_in : Items → ℕ
marks_in end = 0
marks_in (text p t) = marks_in t
marks_in (gone s t) = marks_in t
marks_in (mark k s a t) = suc (marks_in a + marks_in t)

-- The spans are those of the text where it fits and they do.
pub record Writes (v : List Cell) (at : ℕ) (ss : List ℕ) (c : ℕ) (v' : List Cell) (at' : ℕ) (ss' : List ℕ) (c' : ℕ) (w : Written) : Type 0 where
  pub text : Appends v at v' at' w.cells
  pub count : c' ≡ c + 2 * length w.spans
  pub spans : at' ≤ length v' → c' ≤ length ss' → take c' ss' ≡ take c ss ++ span_numbers (map (shift at) w.spans)

-- what writing the slot that starts at item `from` is asked: the kinds of a mask are open in it, and the spans of its marks can be counted
pub record Slot (src ns : List ℕ) (k from mask : ℕ) (out origins : List ℕ) (c : ℕ) : Type 0 where
  pub table : Held src ns k
  pub up_to : from ≤ k
  pub small : mask < 16
  pub fresh : Fresh (kinds_of mask) (within (slot_at src ns k from))
  pub short : length out ≤ out_most
  pub wide : length out ≤ length origins
  pub few : c + 2 * marks_in (within (slot_at src ns k from)) ≤ text_most

-- what finishing a mark is asked, with `before` before it and `next` behind it
abbrev pub Finishable : (out origins : List ℕ) → (p at : ℕ) → (ss : List ℕ) → (c e before next : ℕ) → Type 0
Finishable out origins p at ss c e before next =
    (((p + 1 < at) × (at ≤ length out)) × ((length out ≤ length origins) × (length out ≤ out_most)))
    × ((c + 2 ≤ e) × (((before ≤ 256) × (next ≤ 256)) × (e ≤ length ss → Raisable ss (c + 2) e)))

-- a mark that starts at place p with its opening delimiter, of which the body ends at `at` and the spans inside it at e, has been finished
pub record Finished (out origins : List ℕ) (p at : ℕ) (ss : List ℕ) (c e d before next : ℕ) (out' origins' : List ℕ) (to : ℕ) (ss' : List ℕ) (braces : Bool) : Type 0 where
  pub form : braces ≡ braced d (get_or out (p + 1) 0) (get_or out (at - 1) 0) before next
  pub step : (o : Cell) (s body : List Cell) → length s ≡ p → Holds (cells out origins) at (s ++ (o ∷ body)) → Holds (cells out' origins') to (s ++ behind_brace braces d (o ∷ escape_last (is "{") true body))
  pub keeps : take p (cells out' origins') ≡ take p (cells out origins)
  pub grows : at ≤ to
  pub spans : to ≤ length out → e ≤ length ss → take e ss' ≡ take c ss ++ (p ∷ to ∷ raised (cond braces 1 0) (drop (c + 2) (take e ss)))

-- what writing the mark that starts at item i is asked
pub record MarkReady (src ns : List ℕ) (k i mask before : ℕ) (out origins : List ℕ) (c : ℕ) : Type 0 where
  pub slot : Slot src ns k i mask out origins c
  pub inside : i < k
  pub mark : 4 ≤ get_or ns (2 * length src + 2 + i) 0
  pub some : content (within (slot_at src ns k (i + 1))) ≡ true
  pub small : before ≤ 256

pub record SlotWritten (src ns : List ℕ) (k from : ℕ) (v : List Cell) (at : ℕ) (ss : List ℕ) (c : ℕ) (v' : List Cell) (at' : ℕ) (ss' : List ℕ) (c' item : ℕ) : Type 0 where
  pub wrote : Writes v at ss c v' at' ss' c' (write (within (slot_at src ns k from)) start)
  pub behind : slot_at src ns k item ≡ beyond (slot_at src ns k from)
  pub up_to : item ≤ k
  pub forward : from ≤ item

-- the step of the mark that starts at item i, with `before` before it
abbrev pub mark_at : (src ns : List ℕ) → (k i before : ℕ) → Step
mark_at src ns k i before =
    mark_step true (kind_numbered (get_or ns (2 * length src + 2 + i) 0 % 4)) (write (within (slot_at src ns k (i + 1))) start) (next (within (beyond (slot_at src ns k (i + 1)))))
    (record { before = before; guarded = false })

pub record MarkWritten (src ns : List ℕ) (k i before : ℕ) (v : List Cell) (at : ℕ) (ss : List ℕ) (c : ℕ) (v' : List Cell) (at' : ℕ) (ss' : List ℕ) (c' item before' : ℕ) (guarded' : Bool) : Type 0 where
  pub wrote : Writes v at ss c v' at' ss' c' (mark_at src ns k i before).wrote
  pub state : at' ≤ length v' → (before' ≡ (mark_at src ns k i before).state.before) × (guarded' ≡ (mark_at src ns k i before).state.guarded)
  pub small : before' ≤ 256
  pub behind : slot_at src ns k item ≡ beyond (slot_at src ns k (i + 1))
  pub up_to : item ≤ k
  pub forward : i < item
