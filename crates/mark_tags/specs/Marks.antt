-- The marks pass: `[b] [i] [u] [s]` and their closers become `* / _ ~` pairs (document 01, "Tags to marks" and "Writing").
--   tag_at s           the tag that the bytes s begin with
--   scan 0 x          the text pieces of x and the tags between them
--   parse ts ks       the items of the innermost slot and of those around it, where the kinds ks are open
--   items x           the items of a text: its pieces, the tags that vanish, the closed marks with their slots
--   merge m t         the same where a mark whose kind is open (m) is merged into the slot around it
--   content t         "a mark with content is one whose slot, at some depth, holds text"
--   next t            what is written next in a slot
--   braced ..         whether a mark takes the braced form
--   write t st        what the items t write, with the spans of the marks
--   marks x           the pass: the written text and its spans, outer first
--   taken_marks x      the cells of the tags that it takes out (consumed): every closer, and the openers of closed marks
--   span_numbers l     the numbers of spans, two a mark: its first byte, and the byte after its last
-- Assumes nothing.
use Rattle.std.specs.Prelude.{List, [], ◌∷◌, ◌++◌, map, Bool, true, false, not, ◌&&◌, ◌||◌, cond, ℕ, zero, suc, ◌+◌, eqb, length, take, get_or}
use Rattle.std.proofs.Math.Option.{Option, none, some}
use Rattle.text.specs.Ascii.{is, is_digit, is_letter, is_empty}
use Rattle.text.specs.Cells.{Cell, bytes, sign}

-- ---- Tags

pub data Kind : Type 0 where
  bold italic underline strike : Kind

pub data Tag : Type 0 where
  opener closer : Kind → Tag

abbrev pub same : Kind → Kind → Bool
same bold bold = true
same bold italic = false
same bold underline = false
same bold strike = false
same italic bold = false
same italic italic = true
same italic underline = false
same italic strike = false
same underline bold = false
same underline italic = false
same underline underline = true
same underline strike = false
same strike bold = false
same strike italic = false
same strike underline = false
same strike strike = true

-- The kind that a letter names: ASCII letters in either case.
unfoldable pub kind_of : ℕ → Option Kind
kind_of a =
    cond (is "b" a || is "B" a) (some bold)
    (cond (is "i" a || is "I" a) (some italic)
    (cond (is "u" a || is "U" a) (some underline)
    (cond (is "s" a || is "S" a) (some strike)
    none)))

abbrev pub tag_of : (Kind → Tag) → Option Kind → Option Tag
tag_of t none = none
tag_of t (some k) = some (t k)

-- The tag that starts with these four bytes: `[`, letter, `]`, or `[`, `/`, letter, `]`.
unfoldable pub tag_of_bytes : (a b c d : ℕ) → Option Tag
tag_of_bytes a b c d =
    cond (is "[" a)
    (cond (is "]" c) (tag_of opener (kind_of b))
    (cond (is "/" b && is "]" d) (tag_of closer (kind_of c)) none))
    none

-- past the end stands 0, which is in no tag
unfoldable pub tag_at : List ℕ → Option Tag
tag_at s = tag_of_bytes (get_or s 0 0) (get_or s 1 0) (get_or s 2 0) (get_or s 3 0)

-- How many bytes a tag has beyond its first one.
abbrev pub more : Option Tag → ℕ
more none = 0
more (some (opener k)) = 2
more (some (closer k)) = 3

-- Text pieces with the tags between them. Pieces remain separate, empty ones as well: n tags part n + 1 pieces.
-- A tag keeps the cells that spell it.
pub data Tokens : Type 0 where
  last : (piece : List Cell) → Tokens
  cut : (piece : List Cell) → Tag → (spelled : List Cell) → Tokens → Tokens

abbrev pub onto : Cell → Tokens → Tokens
onto c (last p) = last (c ∷ p)
onto c (cut p t s ts) = cut (c ∷ p) t s ts

abbrev pub token : Option Tag → Cell → List Cell → Tokens → Tokens
token none c x ts = onto c ts
token (some t) c x ts = cut [] t (take (suc (more (some t))) (c ∷ x)) ts

-- The tokens of a text from which `skip` cells of a tag are still to be passed over.
unfoldable pub scan : (skip : ℕ) → List Cell → Tokens
scan skip [] = last []
scan zero (c ∷ x) = let t = tag_at (bytes (c ∷ x)) in token t c x (scan (more t) x)
scan (suc skip) (c ∷ x) = scan skip x

-- ---- Which marks are closed

-- The items of a slot, in order: text; a tag that vanishes; a mark with the slot inside it.
pub data Items : Type 0 where
  end : Items
  text : (piece : List Cell) → Items → Items
  gone : (spelled : List Cell) → Items → Items
  mark : Kind → (spelled : List Cell) → (inside : Items) → Items → Items

-- What is still to come in the innermost open slot and, if it is closed, after that in the slots around it.
pub data Slots : Type 0 where
  open-end : Items → Slots
  closed : Items → Slots → Slots

abbrev pub front : (Items → Items) → Slots → Slots
front f (open-end t) = open-end (f t)
front f (closed t o) = closed (f t) o

-- The kinds open after a tag, innermost first. A closer ends the innermost open mark if the kinds are equal.
unfoldable pub after : Tag → List Kind → List Kind
after (opener k) ks = k ∷ ks
after (closer k) [] = []
after (closer k) (j ∷ ks) = cond (same j k) ks (j ∷ ks)

unfoldable pub ends : Tag → List Kind → Bool
ends (opener k) ks = false
ends (closer k) [] = false
ends (closer k) (j ∷ ks) = same j k

-- An opener, before what comes after it. Never closed: it stays as spelled text, and its contents belong to the surrounding slot.
abbrev pub opened : Kind → List Cell → Slots → Slots
opened k s (open-end t) = open-end (text s t)
opened k s (closed t o) = front (mark k s t) o

-- A closer vanishes, whether it ends a slot or not.
abbrev pub put : Tag → (ends : Bool) → List Cell → Slots → Slots
put (opener k) e s o = opened k s o
put (closer k) true s o = closed end (front (gone s) o)
put (closer k) false s o = front (gone s) o

unfoldable pub parse : Tokens → List Kind → Slots
parse (last p) ks = open-end (text p end)
parse (cut p t s ts) ks = front (text p) (put t (ends t ks) s (parse ts (after t ks)))

-- One list of items behind another.
infixr 65 ◌⧺◌
unfoldable pub ◌⧺◌ : Items → Items → Items
end ⧺ u = u
text p t ⧺ u = text p (t ⧺ u)
gone s t ⧺ u = gone s (t ⧺ u)
mark k s a t ⧺ u = mark k s a (t ⧺ u)

-- All that is to come. With nothing open at first, no slot is closed beyond it, and the second case does not arise.
unfoldable pub whole : Slots → Items
whole (open-end t) = t
whole (closed t o) = t ⧺ whole o

unfoldable pub items : List Cell → Items
items x = whole (parse (scan 0 x) [])

-- ---- Which marks get a slot

-- The kinds open in a slot.
pub data Kinds : Type 0 where
  kinds : (b i u s : Bool) → Kinds

abbrev pub no-kinds : Kinds
no-kinds = kinds false false false false

unfoldable pub has : Kind → Kinds → Bool
has bold (kinds b i u s) = b
has italic (kinds b i u s) = i
has underline (kinds b i u s) = u
has strike (kinds b i u s) = s

unfoldable pub add : Kind → Kinds → Kinds
add bold (kinds b i u s) = kinds true i u s
add italic (kinds b i u s) = kinds b true u s
add underline (kinds b i u s) = kinds b i true s
add strike (kinds b i u s) = kinds b i u true

-- A mark whose kind is open already merges its contents into the slot around it.
abbrev pub join : (merges : Bool) → Kind → List Cell → (inside rest : Items) → Items
join true k s a t = gone s (a ⧺ t)
join false k s a t = mark k s a t

unfoldable pub merge : Kinds → Items → Items
merge m end = end
merge m (text p t) = text p (merge m t)
merge m (gone s t) = gone s (merge m t)
merge m (mark k s a t) = join (has k m) k s (merge (add k m) a) (merge m t)

-- ---- Writing

-- A span is a mark in the written text: its kind, its first byte, and the byte after its last.
pub record Span : Type 0 where
  pub kind : Kind
  pub from : ℕ
  pub to : ℕ

pub record Written : Type 0 where
  pub cells : List Cell
  pub spans : List Span

abbrev pub shift : ℕ → Span → Span
shift n s = record { kind = s.kind; from = n + s.from; to = n + s.to }

abbrev pub plain : List Cell → Written
plain p = record { cells = p; spans = [] }

-- One text behind another.
infixr 65 ◌▹◌
abbrev pub ◌▹◌ : Written → Written → Written
u ▹ v = record { cells = u.cells ++ v.cells; spans = u.spans ++ map (shift (length u.cells)) v.spans }

abbrev pub delimiter : Kind → ℕ
delimiter bold = 42
delimiter italic = 47
delimiter underline = 95
delimiter strike = 126

-- The class of a byte.
pub data Class : Type 0 where
  word space other : Class

unfoldable pub class : ℕ → Class
class a =
    cond (is_letter a || is_digit a || is "_" a) word
    (cond (is " " a || eqb a 9 || eqb a 13 || eqb a 10) space
    other)

-- as the code's table has it
abbrev pub class_number : Class → ℕ
class_number other = 0
class_number word = 1
class_number space = 2

abbrev pub is_word : Class → Bool
is_word word = true
is_word space = false
is_word other = false

abbrev pub is_space : Class → Bool
is_space word = false
is_space space = true
is_space other = false

-- The first and the last byte of a text, or d if it has none.
abbrev pub first_or : ℕ → List Cell → ℕ
first_or d [] = d
first_or d (c ∷ p) = c.byte

unfoldable pub last_or : ℕ → List Cell → ℕ
last_or d [] = d
last_or d (c ∷ p) = last_or c.byte p

-- 256 stands where there is no character: it is no byte, and its class is other.
abbrev pub absent : ℕ
absent = 256

-- A mark with content is one whose slot, at some depth, holds text.
unfoldable pub content : Items → Bool
content end = false
content (text [] t) = content t
content (text (c ∷ p) t) = true
content (gone s t) = content t
content (mark k s a t) = content a || content t

-- What is written next in a slot.
pub data Next : Type 0 where
  nothing : Next
  a_byte : ℕ → Next
  a-mark : Next

unfoldable pub next : Items → Next
next end = nothing
next (text [] t) = next t
next (text (c ∷ p) t) = a_byte c.byte
next (gone s t) = next t
next (mark k s a t) = cond (content a) a-mark (next t)

abbrev pub next_byte : Next → ℕ
next_byte nothing = absent
next_byte (a_byte a) = a
next_byte a-mark = 123

abbrev pub marked : Next → Bool
marked nothing = false
marked (a_byte a) = false
marked a-mark = true

abbrev pub backslash : Bool → List Cell
backslash true = sign 92 ∷ []
backslash false = []

-- A backslash before the last byte, if that passes the test and an even number of backslashes precedes it.
-- `even` says so of what stands before the text.
unfoldable pub escape_last : (ℕ → Bool) → (even : Bool) → List Cell → List Cell
escape_last f even [] = []
escape_last f even (c ∷ p) = backslash (is_empty p && f c.byte && even) ++ (c ∷ escape_last f (not (eqb c.byte 92 && even)) p)

-- What writing goes by: the last character written in this slot, and whether a `}` written next is to be escaped.
pub record State : Type 0 where
  pub before : ℕ
  pub guarded : Bool

abbrev pub start : State
start = record { before = absent; guarded = false }

-- What one item writes, and the state after it.
pub record Step : Type 0 where
  pub wrote : Written
  pub state : State

-- A text piece as it is written: if a mark comes next (`touches`) and the piece ends in one of `* / _ ~ =`, that is escaped.
abbrev pub touching : (touches : Bool) → ℕ → Bool
touching m a = m && (is "*" a || is "/" a || is "_" a || is "~" a || is "=" a)

unfoldable pub piece_text : (guarded touches : Bool) → List Cell → List Cell
piece_text g m p = backslash (g && is "}" (first_or absent p)) ++ escape_last (touching m) true p

-- An empty piece is skipped.
unfoldable pub text_step : List Cell → Next → State → Step
text_step [] n st = record { wrote = plain []; state = st }
text_step (c ∷ p) n st =
    record {
      wrote = plain (piece_text st.guarded (marked n) (c ∷ p));
      state = record { before = last_or absent (c ∷ p); guarded = false };
    }

-- Whether a mark takes the braced form: its delimiter, the first and last byte of its body, the bytes before and next.
unfoldable pub braced : (d first final before next : ℕ) → Bool
braced d first final before next =
    is_space (class first) || is_space (class final) || eqb first d || eqb final d
    || is_word (class before) || is_word (class next)
    || eqb before d
    || (is "/" before && (is "/" d || is "_" d))
    || (is "_" d && (is "#" before || is "@" before || is ":" before))
    || (is "/" d && is "*" first && is "*" final)

abbrev pub opening : Bool → ℕ → List Cell
opening true d = sign 123 ∷ sign d ∷ []
opening false d = sign d ∷ []

abbrev pub closing : Bool → ℕ → List Cell
closing true d = sign d ∷ sign 125 ∷ []
closing false d = sign d ∷ []

-- The body in its delimiters.
unfoldable pub wrap_text : (d : ℕ) → (braces : Bool) → List Cell → List Cell
wrap_text d br body = opening br d ++ (escape_last (is "{") true body ++ closing br d)

-- Its own span stands before those inside it.
unfoldable pub wrap : Kind → (braces : Bool) → Written → Written
wrap k br body =
    let all = wrap_text (delimiter k) br body.cells in
    record { cells = all; spans = record { kind = k; from = 0; to = length all } ∷ map (shift (length (opening br (delimiter k)))) body.spans }

-- A mark. Without content it writes nothing.
unfoldable pub mark_step : (content : Bool) → Kind → (body : Written) → Next → State → Step
mark_step false k body n st = record { wrote = plain []; state = st }
mark_step true k body n st =
    let br = braced (delimiter k) (first_or absent body.cells) (last_or absent body.cells) st.before (next_byte n) in
    let w = wrap k br body in
    record { wrote = w; state = record { before = last_or absent w.cells; guarded = not br && is "{" st.before } }

unfoldable pub write : Items → State → Written
write end st = plain []
write (text p t) st = let q = text_step p (next t) st in q.wrote ▹ write t q.state
write (gone s t) st = write t st
write (mark k s a t) st = let q = mark_step (content a) k (write a start) (next t) st in q.wrote ▹ write t q.state

-- ---- The pass

unfoldable pub marks : List Cell → Written
marks x = write (merge no-kinds (items x)) start

-- The cells of the tags that are consumed: every closer, and the openers of closed marks.
unfoldable pub taken : Items → List Cell
taken end = []
taken (text p t) = taken t
taken (gone s t) = s ++ taken t
taken (mark k s a t) = s ++ (taken a ++ taken t)

unfoldable pub taken_marks : List Cell → List Cell
taken_marks x = taken (items x)

unfoldable pub span_numbers : List Span → List ℕ
span_numbers [] = []
span_numbers (s ∷ l) = s.from ∷ s.to ∷ span_numbers l

-- all of this module, for `unfolding` where a closed text is to be computed
unfoldable pub computes : Unit {0}
unfolding kind_of tag_of_bytes tag_at scan after ends parse ◌⧺◌ whole items has add merge class last_or content next escape_last piece_text text_step braced wrap_text wrap mark_step write marks taken taken_marks span_numbers
computes = tt
