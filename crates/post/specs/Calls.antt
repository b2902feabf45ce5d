-- A whole call of `bbcode_to_carve`, which is lent m output bytes, k origins, j records and b loss bytes. Document 01,
-- "Whole post": 1 to 4 once, then marks 6, quotes 5, 7, 8, 6, lists 5, 6.
--   listing x m a w          the answer for what quotes hands on, with a losses and w loss bytes: lists 5, 6
--   quoting x m a w          the answer for a marks text within quotes' limits: quotes 6, then these
--   marked x m j b           the answer for a marks text: quotes 5, 7, 8, then these
--   converted post m j b     the answer for a post that is right: marks 6, then these
--   answered post lent j b   the answer of the call: document 01's refusals 1 to 4, then these
--   number_of_answer r, counts_of_answer r   document 01's number of an answer, 0 where the post is converted, and its values (lending's specs/Answer)
--   if_done r l               l, or nothing on a refusal (there too)
--   Called ..                what comes back from the call, and what the lent slices then hold
--   Copied ..                demand 3 of the bytes and origins that a call leaves
-- In code, where the losses are listed as plain numbers, and what is lent for the result is cleared at the end alone:
--   losses_by r               how many there are: none on a refusal (lending's specs/Answer)
--   Noted ..                 the numbers then begin with theirs, five each
--   Ends .. wanted r ..      r comes back, as is wanted, and leaves this: Left
--   Finishes ..              this of a marks text, with the losses noted
--   Numbered ..              this of a call, likewise
--   spaced x m               the length of the text that quotes and lists lay out of a marks text within quotes' limits: quotes 6, lists 5, 6
--   Lays ..                  what comes back for this length, and what output and origins then hold; ListsLay, QuotesLay: of what lists and quotes are given
--   Stays, Moved             what becomes of numbers; behind: where the list pass's areas end
--   Listable, Quotable, Marked   what lists, quotes, and both with the losses, ask for
--   ListsLaid, QuotesLaid    what lists and quotes lay out
--   LostIn ..                the losses have been listed
-- In code, where what is lent for the result is cleared at once (listed, quoted, leave):
--   EndsIn ..                what comes back, and what output, origins and loss bytes then hold; ListsEnd, UnquotedEnd, QuotesEnd: of what lists and quotes are given
--   Leaves, LaysText, ListsLeft, NotedLeft   what leaving, laying out, lists and quotes leave
-- Assumes nothing.
use Rattle.std.specs.Prelude.{◌≡◌, ℕ, ◌+◌, ◌*◌, ◌≤◌, false, cond, List, [], length, take, drop, ltb, None, Result, Ok, Err, OnOk}
use Rattle.text.specs.Bounds.{out_most, Room, number_most}
use Rattle.text.specs.Cells.{Cell, cells, part}
use Rattle.lending.specs.Lent.{checked}
pub use Rattle.lending.specs.Answer.{number_of_answer, counts_of_answer, losses_by, if_done, answer_by}
use Rattle.lending.specs.declared.answer.Converted.{Converted}
use Rattle.lending.specs.declared.lent.Refusal.{Refusal}
use Rattle.text.specs.Origins.{CopiedByOrigin}
use Rattle.lending.specs.declared.lent.Refusal.TheVariants.{TooDeep, NoSpace}
use Rattle.lending.specs.declared.lent.Lent.{Lent}
use Rattle.losses.specs.declared.Loss.{Loss}
use Rattle.losses.specs.Records.{records_lent}
use Rattle.attribution_parts.specs.Attribution.{caption}
use Rattle.quote_blocks.specs.Quotes as Quotes
use Rattle.attribution_losses.specs.declared.loss.Counts.{Counts}
use Rattle.quote_tags.specs.Masks.{visible}
use Rattle.quote_lines.specs.Lines.{tags}
use Rattle.quote_losses.specs.declared.loss.Listed.{Listed}
use Rattle.quote_losses.specs.Losses.{quote_losses, loss_bytes, loss_records, ListsLosses}
use Rattle.quotes.specs.Calls.{limited, Filled, Laid}
use Rattle.list_blocks.specs.Blocks.{between}
use Rattle.list_blocks.specs.Tags as ListTags
use Rattle.list_blocks.specs.Tags.{pushes}
use Rattle.list_blocks.specs.Lists.{lists, lists_need}
use Rattle.lists.specs.Calls as Lists
use Rattle.text.specs.Writes.{LaidOut, cleared}
use Rattle.chain.specs.Post.{marks_text, finished, Consumed}

unfoldable pub listing : (x : List Cell) → (m a w : ℕ) → Result Converted Refusal
listing x m a w = cond (ListTags.too_deep x) (Err TooDeep) (cond (ltb m (lists_need x)) (Err NoSpace) (Ok (record { size = length (lists x); losses = a; bytes = w })))

unfoldable pub quoting : (x : List Cell) → (m a w : ℕ) → Result Converted Refusal
quoting x m a w = cond (ltb m (Quotes.quotes_need caption x)) (Err NoSpace) (listing (Quotes.quotes caption x) m a w)

unfoldable pub marked : (x : List Cell) → (m j b : ℕ) → Result Converted Refusal
marked x m j b =
    answer_by (limited (Quotes.too_deep x) (ltb j (length (quote_losses x))) (ltb b (length (loss_bytes x)))) (quoting x m (length (quote_losses x)) (length (loss_bytes x)))

unfoldable pub converted : (post : List ℕ) → (m j b : ℕ) → Result Converted Refusal
converted post m j b = cond (ltb m (length (marks_text post))) (Err NoSpace) (marked (marks_text post) m j b)

unfoldable pub answered : (post : List ℕ) → Lent → (j b : ℕ) → Result Converted Refusal
answered post lent j b = answer_by (checked post lent) (converted post lent.out j b)

-- w work bytes and n work numbers are lent
pub record Called (post : List ℕ) (m k j b w n : ℕ) (r : Result Converted Refusal) (out plain : List ℕ) (records : List Loss) (words : List ℕ) : Type 0 where
  pub answer : r ≡ answered post (record { out = m; origins = k; work = w; numbers = n; spans = None }) j b
  pub filled : Filled (if_done r (finished post)) (if_done r (loss_bytes (marks_text post))) m k b out plain words
  pub listed : records ≡ records_lent j (if_done r (loss_records post (marks_text post)))

-- of every converted post: the bytes and origins that are left are copied by origin
abbrev pub Copied : (post : List ℕ) → Result Converted Refusal → (out plain : List ℕ) → Type 0
Copied post (Ok done) out plain = CopiedByOrigin post (Consumed post) (take done.size out) (take done.size plain)
Copied post (Err r) out plain = Unit

-- ---- in code

-- the losses of an answer, of which the records have the numbers rs, are no more than j
pub record Noted (rs : List ℕ) (j : ℕ) (r : Result Converted Refusal) (numbers : List ℕ) : Type 0 where
  pub room : 5 * losses_by r ≤ length numbers
  pub few : losses_by r ≤ j
  pub there : take (5 * losses_by r) numbers ≡ if_done r rs

-- what an answer leaves: a text, and the loss bytes in front of the lent ones; nothing is said on a refusal
abbrev pub Left : (t : List Cell) (ws : List ℕ) (m k : ℕ) → Result Converted Refusal → (out plain words : List ℕ) → Type 0
Left t ws m k (Ok done) out plain words = LaidOut t m k out plain × ((done.bytes ≤ length words) × (take done.bytes words ≡ ws))
Left t ws m k (Err r) out plain words = Unit

-- what comes back is r: what it has to be is `wanted`
pub record Ends (t : List Cell) (ws : List ℕ) (m k : ℕ) (wanted r : Result Converted Refusal) (out plain words : List ℕ) : Type 0 where
  pub answer : r ≡ wanted
  pub left : Left t ws m k r out plain words

abbrev pub Finishes : (post : List ℕ) (x : List Cell) (j : ℕ) (out plain words : List ℕ) → Result Converted Refusal → (out' plain' numbers' words' : List ℕ) → Type 0
Finishes post x j out plain words r out' plain' numbers' words' =
    Ends (lists (Quotes.quotes caption x)) (loss_bytes x) (length out) (length plain) (marked x (length out) j (length words)) r out' plain' words' × Noted (loss_records post x) j r numbers'

abbrev pub Numbered : (post : List ℕ) (m k j b w n : ℕ) (r : Result Converted Refusal) (out plain numbers words : List ℕ) → Type 0
Numbered post m k j b w n r out plain numbers words =
    Ends (finished post) (loss_bytes (marks_text post)) m k (answered post (record { out = m; origins = k; work = w; numbers = n; spans = None }) j b) r out plain words
    × Noted (loss_records post (marks_text post)) j r numbers

-- the length alone
unfoldable pub spaced : (x : List Cell) → (m : ℕ) → Result ℕ Refusal
spaced x m = cond (ltb m (Quotes.quotes_need caption x)) (Err NoSpace) (Lists.converted (Quotes.quotes caption x) m)

-- the length that comes back is r: what it has to be is `wanted`; where it is no refusal, the text t is left
pub record Lays (t : List Cell) (m k : ℕ) (wanted r : Result ℕ Refusal) (out plain : List ℕ) : Type 0 where
  pub answer : r ≡ wanted
  pub laid : OnOk r (LaidOut t m k out plain)

abbrev pub ListsLay : (x : List Cell) (out plain : List ℕ) → Result ℕ Refusal → (out' plain' : List ℕ) → Type 0
ListsLay x out plain = Lays (lists x) (length out) (length plain) (Lists.converted x (length out))

abbrev pub QuotesLay : (x : List Cell) (out plain : List ℕ) → Result ℕ Refusal → (out' plain' : List ℕ) → Type 0
QuotesLay x out plain = Lays (lists (Quotes.quotes caption x)) (length out) (length plain) (spaced x (length out))

-- ---- in work memory

-- the numbers from a up to e stay
abbrev pub Stays : (a e : ℕ) (ns ns' : List ℕ) → Type 0
Stays a e ns ns' = between a e ns' ≡ between a e ns

-- behind the areas of the list pass on cells up to e
abbrev pub behind : (e : ℕ) (out : List ℕ) → ℕ
behind e out = e + (length out + length out)

abbrev pub Lendable : (out plain : List ℕ) → Type 0
Lendable out plain = (length out ≤ out_most) × (length out ≤ length plain)

-- lists of the cells from a up to e, with the table from `table` on
pub record Listable (a e table : ℕ) (work numbers out plain : List ℕ) : Type 0 where
  pub order : (a ≤ e) × (e ≤ a + length out)
  pub lendable : Lendable out plain
  pub areas : (behind e out ≤ length work) × (behind e out ≤ table)
  pub room : table + pushes (ListTags.tokens 0 (part a e (cells work numbers))) ≤ length numbers
  pub small : length numbers ≤ number_most

abbrev pub ListsLaid : (a e table : ℕ) (work numbers out plain : List ℕ) → Result ℕ Refusal → (numbers' out' plain' : List ℕ) → Type 0
ListsLaid a e table work numbers out plain r numbers' out' plain' = ListsLay (part a e (cells work numbers)) out plain r out' plain' × Stays (behind e out) table numbers numbers'

-- quotes of the first k cells, where so many losses have their numbers from r on
pub record Quotable (k r losses : ℕ) (work numbers out plain : List ℕ) : Type 0 where
  pub near : k ≤ length out
  pub lendable : Lendable out plain
  pub areas : (k + 3 * length out ≤ length work) × (k + 3 * length out ≤ r)
  pub room : r + 5 * k ≤ length numbers
  pub small : length numbers ≤ number_most
  pub shallow : Quotes.too_deep (take k (cells work numbers)) ≡ false
  pub lost : losses ≡ length (quote_losses (take k (cells work numbers)))

abbrev pub QuotesLaid : (k r losses : ℕ) (work numbers out plain : List ℕ) → Result ℕ Refusal → (numbers' out' plain' : List ℕ) → Type 0
QuotesLaid k r losses work numbers out plain answer numbers' out' plain' =
    QuotesLay (take k (cells work numbers)) out plain answer out' plain' × Stays r (r + 5 * losses) numbers numbers'

-- the first k cells are the marks text of a post
pub record Marked (post : List ℕ) (k : ℕ) (work numbers out plain : List ℕ) : Type 0 where
  pub room : Room (length post) (length out) (length work) (length numbers)
  pub plainly : length out ≤ length plain
  pub small : length numbers ≤ number_most
  pub near : (k ≤ length out) × (k ≤ length post)

-- the losses of a marks text with the bytes s have been listed, with lines in the post
abbrev pub LostIn : (post s ns ws ns' ws' : List ℕ) → Listed → Type 0
LostIn post s ns ws ns' ws' r =
    ListsLosses s (tags 1 0 (visible post)) (take (5 * length post) ns) ws (take (5 * length post) ns') ws' r.counts.losses r.counts.bytes × Quotes.TooDeep s r.deep

-- ---- in lent slices: on a refusal output, origins and loss bytes are zero

-- what comes back is r: what it has to be is `wanted`; where it is done, the text t and the loss bytes ws are left, with zeros behind
abbrev pub EndsIn : (t : List Cell) (ws : List ℕ) (wanted : Result Converted Refusal) (out plain words : List ℕ) → Result Converted Refusal → (out' plain' words' : List ℕ) → Type 0
EndsIn t ws wanted out plain words r out' plain' words' = (r ≡ wanted) × Filled (if_done r t) (if_done r ws) (length out) (length plain) (length words) out' plain' words'

abbrev pub ListsEnd : (x : List Cell) → Counts → (out plain words : List ℕ) → Result Converted Refusal → (out' plain' words' : List ℕ) → Type 0
ListsEnd x c out plain words = EndsIn (lists x) (take c.bytes words) (listing x (length out) c.losses c.bytes) out plain words

abbrev pub UnquotedEnd : (x : List Cell) (out plain words : List ℕ) → Result Converted Refusal → (out' plain' words' : List ℕ) → Type 0
UnquotedEnd x out plain words = EndsIn (lists x) [] (listing x (length out) 0 0) out plain words

abbrev pub QuotesEnd : (x : List Cell) → Counts → (out plain words : List ℕ) → Result Converted Refusal → (out' plain' words' : List ℕ) → Type 0
QuotesEnd x c out plain words = EndsIn (lists (Quotes.quotes caption x)) (take c.bytes words) (quoting x (length out) c.losses c.bytes) out plain words

-- a text of this length that is laid out stays, with zeros behind the loss bytes
abbrev pub Leaves : (laid : Result ℕ Refusal) → Counts → (out plain words : List ℕ) → Result Converted Refusal → (out' plain' words' : List ℕ) → Type 0
Leaves (Ok n) c out plain words r out' plain' words' = (r ≡ Ok (record { size = n; losses = c.losses; bytes = c.bytes })) × ((out' ≡ out) × ((plain' ≡ plain) × (words' ≡ cleared c.bytes words)))
Leaves (Err e) c out plain words r out' plain' words' = (r ≡ Err e) × Filled [] [] (length out) (length plain) (length words) out' plain' words'

-- the text x of n cells is laid out, with the losses
abbrev pub LaysText : (x : List Cell) (n : ℕ) → Counts → (out plain words : List ℕ) → Result Converted Refusal → (out' plain' words' : List ℕ) → Type 0
LaysText x n c out plain words r out' plain' words' = (r ≡ Ok (record { size = n; losses = c.losses; bytes = c.bytes })) × Laid x c.bytes out plain words out' plain' words'

abbrev pub ListsLeft : (a e table : ℕ) → Counts → (work numbers out plain words : List ℕ) → Result Converted Refusal → (numbers' out' plain' words' : List ℕ) → Type 0
ListsLeft a e table c work numbers out plain words r numbers' out' plain' words' =
    ListsEnd (part a e (cells work numbers)) c out plain words r out' plain' words' × Stays (behind e out) table numbers numbers'

-- the n numbers from a on stand in front now
abbrev pub Moved : (a n : ℕ) (ns ns' : List ℕ) → Type 0
Moved a n ns ns' = take n ns' ≡ take n (drop a ns)

abbrev pub NotedLeft : (k r : ℕ) → Counts → (work numbers out plain words : List ℕ) → Result Converted Refusal → (numbers' out' plain' words' : List ℕ) → Type 0
NotedLeft k r c work numbers out plain words answer numbers' out' plain' words' =
    QuotesEnd (take k (cells work numbers)) c out plain words answer out' plain' words' × Moved r (5 * c.losses) numbers numbers'

-- all of this module, for `unfolding` where a closed call is to be computed
unfoldable pub computes : Unit {0}
unfolding listing quoting marked converted answered spaced
computes = tt
