-- Laws of an item's text: trimming each line's end and then the whole is trimming the whole and then each line's end. Assumes nothing.
use mathlib.Core.Path.{◌≡◌, refl, sym, ap, ◌∙◌}
use mathlib.Core.Bool.{Bool, true, false, cond, ◌&&◌, true≢false}
use mathlib.Core.List.{List, [], ◌∷◌, ◌++◌, map, append-nil, append_assoc}
use lib.Dec.{eqb}
use Rattle.text.specs.Ascii.{is_empty}
use Rattle.text.specs.Cells.{Cell, feed}
use Rattle.text.specs.Lines.{trim_start, trim_onto, trim_end, trim, is_feed, line_onto, lines, followed, joined}
use Rattle.list_blocks.specs.Blocks.{trim_item, trimmed}

-- ---- lines with their ends trimmed, cell by cell

-- c, a line feed or not, before a text that has these
abbrev before : (feeds : Bool) → Cell → List (List Cell) → List (List Cell)
before true c ls = [] ∷ ls
before false c [] = trim_onto c [] ∷ []
before false c (l ∷ ls) = trim_onto c l ∷ ls

trimmed-cons : (c : Cell) (x : List Cell) → trimmed (c ∷ x) ≡ before (is_feed c) c (trimmed x)
unfolding trimmed lines trim_end
trimmed-cons c x = by (is_feed c) (lines x)
  where
    by : (t : Bool) (ls : List (List Cell)) → map trim_end (line_onto t c ls) ≡ before t c (map trim_end ls)
    by true ls = refl
    by false [] = refl
    by false (l ∷ ls) = refl

onto-other : (c : Cell) → c.blank ≡ false → trim_onto c [] ≡ c ∷ []
onto-other c e = ap (λ (t : Bool). cond t [] (c ∷ [])) e

onto-blank : (c : Cell) → c.blank ≡ true → trim_onto c [] ≡ []
onto-blank c e = ap (λ (t : Bool). cond t [] (c ∷ [])) e

trimmed-none : trimmed [] ≡ []
unfolding trimmed lines
trimmed-none = refl

-- ---- the start

followed-start : (ls : List (List Cell)) → trim_start (followed ls) ≡ trim_start (joined ls)
unfolding followed joined trim_start
followed-start [] = refl
followed-start (l ∷ ls) = refl

feed-blank : (c : Cell) → c.blank ≡ false → is_feed c ≡ false
unfolding is_feed
feed-blank c e = by (eqb c.byte 10)
  where
    by : (t : Bool) → (t && c.blank) ≡ false
    by true = e
    by false = refl

-- a blank cell at the start makes no difference
start-blank : (t : Bool) (c : Cell) (ls : List (List Cell)) → c.blank ≡ true → trim_start (joined (before t c ls)) ≡ trim_start (joined ls)
unfolding joined trim_start followed
start-blank true c ls e = followed-start ls
start-blank false c [] e = rw e
start-blank false c ([] ∷ ls) e = rw e
start-blank false c ((d ∷ l) ∷ ls) e = rw e

start-other : (c : Cell) (ls : List (List Cell)) → c.blank ≡ false → joined (before false c ls) ≡ c ∷ joined ls
unfolding joined followed
start-other c [] e = rw e
start-other c ([] ∷ ls) e = rw e
start-other c ((d ∷ l) ∷ ls) e = refl

start : (x : List Cell) → trim_start (joined (trimmed x)) ≡ joined (trimmed (trim_start x))
unfolding trim_start joined trimmed lines
start [] = refl
start (c ∷ x) = by c.blank refl (start x)
  where
    by : (t : Bool) → c.blank ≡ t → trim_start (joined (trimmed x)) ≡ joined (trimmed (trim_start x))
        → trim_start (joined (trimmed (c ∷ x))) ≡ joined (trimmed (cond t (trim_start x) (c ∷ x)))
    by true e r = rw (trimmed-cons c x) (start-blank (is_feed c) c (trimmed x) e ∙ r)
    by false e r = rw (trimmed-cons c x, feed-blank c e, start-other c (trimmed x) e, e)

-- ---- the end

nil-cons : {A : Type 0} {a : A} {l : List A} → [] ≡ a ∷ l → ⊥
nil-cons {A} {a} {l} e = true≢false (ap (λ (m : List A). is_empty m) e)

-- a text that ends in a cell that is not blank
pub data Solid : List Cell → Type 0 where
  one : (c : Cell) → c.blank ≡ false → Solid (c ∷ [])
  more : (c d : Cell) (x : List Cell) → Solid (d ∷ x) → Solid (c ∷ d ∷ x)

pub solid-same : {x : List Cell} → Solid x → trim_end x ≡ x
unfolding trim_end
solid-same (one c e) = rw e
solid-same (more c d x s) = ap (trim_onto c) (solid-same s)

pub solid-some : {x : List Cell} → Solid x → is_empty x ≡ false
solid-some (one c e) = refl
solid-some (more c d x s) = refl

-- what is left of a text, and the blanks that are not
pub data Ended (x : List Cell) : Type 0 where
  nothing : trim_end x ≡ [] → Ended x
  something : Solid (trim_end x) → Ended x

pub ended : (x : List Cell) → Ended x
unfolding trim_end
ended [] = nothing refl
ended (c ∷ x) = by c.blank (trim_end x) refl refl (ended x)
  where
    by : (t : Bool) (y : List Cell) → c.blank ≡ t → trim_end x ≡ y → Ended x → Ended (c ∷ x)
    by t [] e q (something s) = absurd (true≢false (sym (ap (λ (m : List Cell). is_empty m) q) ∙ solid-some s))
    by true [] e q (nothing _) = nothing (rw (q, e))
    by false [] e q (nothing _) = something (rw (q, onto-other c e) (one c e))
    by t (d ∷ y) e q (nothing p) = absurd (nil-cons (sym p ∙ q))
    by t (d ∷ y) e q (something s) = something (rw q (more c d y (rw q at s)))

-- lines with their ends trimmed, none with a line feed inside, the last not empty
pub data Plain : List Cell → Type 0 where
  none : Plain []
  also : (c : Cell) (l : List Cell) → is_feed c ≡ false → Plain l → Plain (c ∷ l)

pub data Good : List (List Cell) → Type 0 where
  last : (l : List Cell) → Plain l → Solid l → Good (l ∷ [])
  next : (l : List Cell) (ls : List (List Cell)) → Plain l → Good ls → Good (l ∷ ls)

plain-onto : (c : Cell) (l : List Cell) → is_feed c ≡ false → Plain l → Plain (trim_onto c l)
plain-onto c [] f p = by c.blank
  where
    by : (t : Bool) → Plain (cond t [] (c ∷ []))
    by true = none
    by false = also c [] f none
plain-onto c (d ∷ l) f p = also c (d ∷ l) f p

solid-onto : (c : Cell) (l : List Cell) → Solid l → Solid (trim_onto c l)
solid-onto c [] s = absurd (true≢false (solid-some s))
solid-onto c (d ∷ l) s = more c d l s

good-onto : (t : Bool) (c : Cell) (ls : List (List Cell)) → is_feed c ≡ t → Good ls → Good (before t c ls)
good-onto true c ls f g = next [] ls none g
good-onto false c _ f (last l p s) = last (trim_onto c l) (plain-onto c l f p) (solid-onto c l s)
good-onto false c _ f (next l ls p g) = next (trim_onto c l) ls (plain-onto c l f p) g

pub good : {x : List Cell} → Solid x → Good (trimmed x)
good (one c e) = rw (trimmed-cons c [], feed-blank c e, trimmed-none, onto-other c e) (last (c ∷ []) (also c [] (feed-blank c e) none) (one c e))
good (more c d x s) = rw (trimmed-cons c (d ∷ x)) (good-onto (is_feed c) c (trimmed (d ∷ x)) refl (good s))

-- lines that are joined and parted again
followed-joined : (ls : List (List Cell)) → Good ls → followed ls ≡ feed ∷ joined ls
unfolding followed joined
followed-joined _ (last l p s) = refl
followed-joined _ (next l ls p g) = refl

plain-last : (c : Cell) (l : List Cell) → Plain (c ∷ l) → lines (c ∷ l) ≡ (c ∷ l) ∷ []
unfolding lines
plain-last c [] (also _ _ f p) = rw f
plain-last c (d ∷ l) (also _ _ f p) = rw (plain-last d l p, f)

plain-next : (l y : List Cell) → Plain l → lines (l ++ feed ∷ y) ≡ l ∷ lines y
unfolding lines is_feed
plain-next [] y p = refl
plain-next (c ∷ l) y (also _ _ f p) = rw (plain-next l y p, f)

pub lines-joined : (ls : List (List Cell)) → Good ls → lines (joined ls) ≡ ls
unfolding joined followed
lines-joined _ (last [] p s) = absurd (true≢false (solid-some s))
lines-joined _ (last (c ∷ l) p s) = rw append-nil (plain-last c l p)
lines-joined _ (next l ls p g) = rw (followed-joined ls g, plain-next l (joined ls) p, lines-joined ls g)

pub solid-append : (l : List Cell) {x : List Cell} → Solid x → Solid (l ++ x)
solid-append [] s = s
solid-append (c ∷ []) (one d e) = more c d [] (one d e)
solid-append (c ∷ []) (more d e x s) = more c d (e ∷ x) (more d e x s)
solid-append (c ∷ d ∷ l) s = more c d _ (solid-append (d ∷ l) s)

pub solid-joined : (ls : List (List Cell)) → Good ls → Solid (joined ls)
unfolding joined followed
solid-joined _ (last l p s) = rw append-nil s
solid-joined _ (next l ls p g) = rw (followed-joined ls g) (solid-append l (solid-append (feed ∷ []) (solid-joined ls g)))

-- a blank cell at the end makes at most an empty line at the end
data Grown (ls : List (List Cell)) : List (List Cell) → Type 0 where
  same : Grown ls ls
  empty : Grown ls (ls ++ [] ∷ [])

grown-onto : (t : Bool) (c : Cell) (ls ms : List (List Cell)) → Grown ls ms → Grown (before t c ls) (before t c ms)
grown-onto t c ls _ same = same
grown-onto true c ls _ empty = empty
grown-onto false c [] _ empty = same
grown-onto false c (l ∷ ls) _ empty = empty

grown : (x : List Cell) (c : Cell) → c.blank ≡ true → Grown (trimmed x) (trimmed (x ++ c ∷ []))
grown [] c e = rw (trimmed-cons c [], trimmed-none) (by (is_feed c))
  where
    by : (t : Bool) → Grown [] (before t c [])
    by true = empty
    by false = rw (onto-blank c e) empty
grown (d ∷ x) c e = rw (trimmed-cons d x, trimmed-cons d (x ++ c ∷ [])) (grown-onto (is_feed d) d (trimmed x) (trimmed (x ++ c ∷ [])) (grown x c e))

end_snoc : (x : List Cell) (c : Cell) → c.blank ≡ true → trim_end (x ++ c ∷ []) ≡ trim_end x
unfolding trim_end
end_snoc [] c e = onto-blank c e
end_snoc (d ∷ x) c e = ap (trim_onto d) (end_snoc x c e)

followed-snoc : (ls : List (List Cell)) → followed (ls ++ [] ∷ []) ≡ followed ls ++ feed ∷ []
unfolding followed
followed-snoc [] = refl
followed-snoc (l ∷ ls) = ap (λ (y : List Cell). feed ∷ y) (ap (λ (y : List Cell). l ++ y) (followed-snoc ls) ∙ sym (append_assoc l (followed ls) (feed ∷ [])))

grown-end : (ls ms : List (List Cell)) → Grown ls ms → trim_end (joined ms) ≡ trim_end (joined ls)
unfolding joined trim_end followed
grown-end ls _ same = refl
grown-end [] _ empty = refl
grown-end (l ∷ ls) _ empty = rw (followed-snoc ls, ← append_assoc l (followed ls) (feed ∷ [])) (end_snoc (l ++ followed ls) feed refl)

-- a text is what is left of it, and blanks
data Blanks : List Cell → Type 0 where
  none : Blanks []
  also : (c : Cell) (x : List Cell) → c.blank ≡ true → Blanks x → Blanks (c ∷ x)

record Parted (x : List Cell) : Type 0 where
  tail : List Cell
  blanks : Blanks tail
  parts : trim_end x ++ tail ≡ x

parted : (x : List Cell) → Parted x
unfolding trim_end
parted [] = record { tail = []; blanks = none; parts = refl }
parted (c ∷ x) = by c.blank (trim_end x) refl refl (parted x)
  where
    by : (t : Bool) (y : List Cell) → c.blank ≡ t → trim_end x ≡ y → Parted x → Parted (c ∷ x)
    by true [] e q p = record { tail = c ∷ p.tail; blanks = also c p.tail e p.blanks; parts = rw (q, onto-blank c e) (ap (λ (z : List Cell). c ∷ z) (sym (ap (λ (z : List Cell). z ++ p.tail) q) ∙ p.parts)) }
    by false [] e q p = record { tail = p.tail; blanks = p.blanks; parts = rw (q, onto-other c e) (ap (λ (z : List Cell). c ∷ z) (sym (ap (λ (z : List Cell). z ++ p.tail) q) ∙ p.parts)) }
    by t (d ∷ y) e q p = record { tail = p.tail; blanks = p.blanks; parts = rw q (ap (λ (z : List Cell). c ∷ z) (sym (ap (λ (z : List Cell). z ++ p.tail) q) ∙ p.parts)) }

blanks-end : (x y : List Cell) → Blanks y → trim_end (joined (trimmed (x ++ y))) ≡ trim_end (joined (trimmed x))
blanks-end x _ none = rw append-nil
blanks-end x _ (also c y e b) =
    ap (λ (z : List Cell). trim_end (joined (trimmed z))) (sym (append_assoc x (c ∷ []) y)) ∙ blanks-end (x ++ c ∷ []) y b
    ∙ grown-end (trimmed x) (trimmed (x ++ c ∷ [])) (grown x c e)

end : (x : List Cell) → trim_end (joined (trimmed x)) ≡ joined (trimmed (trim_end x))
unfolding joined trim_end
end x =
    ap (λ (z : List Cell). trim_end (joined (trimmed z))) (sym (parted x).parts) ∙ blanks-end (trim_end x) (parted x).tail (parted x).blanks ∙ by (ended x)
  where
    by : Ended x → trim_end (joined (trimmed (trim_end x))) ≡ joined (trimmed (trim_end x))
    by (nothing e) = rw (e, trimmed-none)
    by (something s) = solid-same (solid-joined (trimmed (trim_end x)) (good s))

-- ---- an item's lines

pub trim_item-lines : (x : List Cell) → trim_item x ≡ joined (trimmed (trim x))
unfolding trim_item trim trimmed
trim_item-lines x = ap trim_end (start x) ∙ end (trim_start x)

pub lines-item : (x : List Cell) → lines (trim_item x) ≡ trimmed (trim x)
unfolding trim joined lines
lines-item x = ap lines (trim_item-lines x) ∙ by (ended (trim_start x))
  where
    by : Ended (trim_start x) → lines (joined (trimmed (trim_end (trim_start x)))) ≡ trimmed (trim_end (trim_start x))
    by (nothing e) = rw (e, trimmed-none)
    by (something s) = lines-joined (trimmed (trim_end (trim_start x))) (good s)
