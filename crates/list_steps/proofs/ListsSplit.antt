-- The list pass splits its text: what it writes, what it takes. Assumes nothing.
use mathlib.Core.Path.{◌≡◌, refl, sym, ap, ◌∙◌}
use mathlib.Core.Bool.{Bool, true, false, cond, ◌||◌}
use mathlib.Core.List.{List, [], ◌∷◌, ◌++◌, map, append_assoc, append-nil}
use Prim.Native.Nat.{ℕ, zero, suc}
use lib.ListN.{length, drop, take-append-drop, replicate}
use Rattle.text.specs.Ascii.{is_empty}
use Rattle.text.specs.Cells.{Cell, feed, sign}
use Rattle.text.specs.Lines.{trim_end, lines, joined}
use Rattle.text.specs.Decimal.{decimal}
use Rattle.text.specs.Split.{Split, done, wrote, Keeps}
use Rattle.text.proofs.SplitLaws.{append, keeps-all, after, behind, taking, copying, trim_end-keeps, trim-keeps, lines-keeps, Each, none, each, each_map, joined_keeps}
use Rattle.text.proofs.SplitLaws as T
use Rattle.list_blocks.specs.declared.tag.Tag.{Tag}
use Rattle.list_blocks.specs.declared.tag.Tag.TheVariants.{Opener, Item, Closer, Plain}
use Rattle.list_blocks.specs.Tags.{tag_at, Token, text, opens, starts, closes, token_of, rest_of, tokens, taken_by, depth_after, taken, taken_lists}
use Rattle.list_blocks.specs.Blocks.{space, marker, trim_item, later_line, indented, marked, item_text, item_texts, lead_onto, block}
use Rattle.list_blocks.specs.Lists.{Open, State, nothing, ends_in_feed, feed_before, placed, closing, close, started, closed, step, finish, run, lists}
use Rattle.list_steps.specs.Standing.{strung, outers, contents}

-- ---- tokens spell the text

abbrev pub spelling : Token → List Cell
spelling (text c) = c ∷ []
spelling (opens tag o) = tag
spelling (starts tag) = tag
spelling (closes tag) = tag

unfoldable pub spelled : List Token → List Cell
spelled [] = []
spelled (t ∷ r) = spelling t ++ spelled r

token-spelled : (t : Tag) (c : Cell) (x : List Cell) → spelling (token_of t c x) ++ drop (rest_of t) x ≡ c ∷ x
token-spelled (Opener n o) c x = ap (λ (y : List Cell). c ∷ y) (take-append-drop n x)
token-spelled Item c x = ap (λ (y : List Cell). c ∷ y) (take-append-drop 2 x)
token-spelled Closer c x = ap (λ (y : List Cell). c ∷ y) (take-append-drop 6 x)
token-spelled Plain c x = refl

tokens-spelled : (skip : ℕ) (x : List Cell) → spelled (tokens skip x) ≡ drop skip x
unfolding spelled tokens
tokens-spelled zero [] = refl
tokens-spelled (suc skip) [] = refl
tokens-spelled (suc skip) (c ∷ x) = tokens-spelled skip x
tokens-spelled zero (c ∷ x) =
    ap (λ (y : List Cell). spelling (token_of (tag_at (c ∷ x)) c x) ++ y) (tokens-spelled (rest_of (tag_at (c ∷ x))) x) ∙ token-spelled (tag_at (c ∷ x)) c x

-- ---- a block keeps its parts

trim_item-keeps : (x : List Cell) → Keeps (trim_item x) x
unfolding trim_item
trim_item-keeps x =
    after (after (lines-keeps x) (joined_keeps (each_map trim_end trim_end-keeps (lines x)))) (trim-keeps (joined (map trim_end (lines x))))

spaces-keep : (width : ℕ) {x : List Cell} → Keeps x x → Keeps (replicate width space ++ x) x
spaces-keep zero k = k
spaces-keep (suc width) k = wrote space refl (spaces-keep width k)

signs-keep : (s : List ℕ) {w : List Cell} → Keeps w [] → Keeps (map sign s ++ w) []
signs-keep [] k = k
signs-keep (b ∷ s) k = wrote (sign b) refl (signs-keep s k)

marker-keeps : (o s : Bool) (n : ℕ) → Keeps (marker o s n) []
unfolding marker
marker-keeps false s n = wrote _ refl (wrote space refl done)
marker-keeps true s n = signs-keep (decimal n) (wrote _ refl (wrote space refl done))

later_line-keeps : (width : ℕ) (l : List Cell) → Keeps (later_line width l) l
later_line-keeps width [] = done
later_line-keeps width (c ∷ l) = spaces-keep width (keeps-all (c ∷ l))

indented-each : (width : ℕ) (ls : List (List Cell)) → Each (indented width ls) ls
indented-each width [] = none
indented-each width (l ∷ ls) = each (keeps-all l) (each_map (later_line width) (later_line-keeps width) ls)

marked-keeps : (mark : List Cell) → Keeps mark [] → (ls : List (List Cell)) → Keeps (marked mark ls) (T.strung ls)
unfolding T.strung
marked-keeps mark k [] = done
marked-keeps mark k (l ∷ ls) = append k (joined_keeps (indented-each (length mark) (l ∷ ls)))

item_text-keeps : (mark : List Cell) → Keeps mark [] → (x : List Cell) → Keeps (item_text mark x) x
unfolding item_text
item_text-keeps mark k x = after (trim_item-keeps x) (after (lines-keeps (trim_item x)) (marked-keeps mark k (lines (trim_item x))))

item_texts-each : (o s : Bool) (n : ℕ) (items : List (List Cell)) → Each (item_texts o s n items) items
unfolding item_texts
item_texts-each o s n [] = none
item_texts-each o s n (x ∷ items) = each (item_text-keeps (marker o s n) (marker-keeps o s n) x) (item_texts-each o s (suc n) items)

lead_onto-keeps : (y : List Cell) {x z w : List Cell} → Keeps y x → Keeps z w → Keeps (lead_onto y z) (x ++ w)
lead_onto-keeps [] k h = append k h
lead_onto-keeps (c ∷ y) k h = append k (wrote feed refl h)

strung-same : (xs : List (List Cell)) → T.strung xs ≡ strung xs
unfolding T.strung strung
strung-same [] = refl
strung-same (x ∷ xs) = ap (λ (y : List Cell). x ++ y) (strung-same xs)

block-keeps : (o s : Bool) (parts : List (List Cell)) → Keeps (block o s parts) (strung parts)
unfolding block strung
block-keeps o s [] = done
block-keeps o s (lead ∷ items) =
    rw (← strung-same items)
    (after (lead_onto-keeps (trim_item lead) (trim_item-keeps lead) (joined_keeps (item_texts-each o s 1 items)))
    (trim_end-keeps (lead_onto (trim_item lead) (joined (item_texts o s 1 items)))))

feed-if : (b : Bool) → Keeps (cond b [] (feed ∷ [])) []
feed-if true = done
feed-if false = wrote feed refl done

feed_before-keeps : (parts : List (List Cell)) (outer : List Cell) → Keeps (feed_before parts outer) []
feed_before-keeps [] outer = done
feed_before-keeps (lead ∷ items) outer = feed-if (is_empty outer || ends_in_feed outer)

placed-keeps : (ls : List Open) (outer : List Cell) {b x : List Cell} → Keeps b x → Keeps (placed ls outer b) x
placed-keeps [] outer k = wrote feed refl (wrote feed refl (behind k (wrote feed refl (wrote feed refl done))))
placed-keeps (p ∷ ps) outer k = append (feed_before-keeps p.parts outer) (behind k (wrote feed refl done))

-- ---- the machine

pub strung-snoc : (xs : List (List Cell)) (x : List Cell) → strung (xs ++ x ∷ []) ≡ strung xs ++ x
unfolding strung
strung-snoc [] x = append-nil x
strung-snoc (y ∷ xs) x = ap (λ (z : List Cell). y ++ z) (strung-snoc xs x) ∙ sym (append_assoc y (strung xs) x)

close-keeps : (l : Open) (ls : List Open) (now : List Cell) → Keeps (outers ls ++ close l ls now) (outers (l ∷ ls) ++ now)
unfolding outers closing
close-keeps l ls now =
    rw (append_assoc (outers ls ++ l.outer) (strung l.parts) now, ← strung-snoc l.parts now, ← append_assoc (outers ls) l.outer (closing l ls now))
    (append (keeps-all (outers ls ++ l.outer)) (placed-keeps ls l.outer (block-keeps l.ordered l.second (l.parts ++ now ∷ []))))

started-splits : (tag : List Cell) (s : State) (ls : List Open) {t i : List Cell} → Split (outers ls ++ s.now) t i
    → Split (contents (started tag s ls)) (t ++ taken_by (length ls) (starts tag)) (i ++ tag)
unfolding outers taken_by
started-splits tag s [] {t} r = rw (append-nil t) (copying r tag)
started-splits tag s (l ∷ ls) r =
    rw (append-nil ((outers ls ++ l.outer) ++ strung (l.parts ++ s.now ∷ [])), strung-snoc l.parts s.now, ← append_assoc (outers ls ++ l.outer) (strung l.parts) s.now)
    (taking r tag)

closed-splits : (tag : List Cell) (s : State) (ls : List Open) {t i : List Cell} → Split (outers ls ++ s.now) t i
    → Split (contents (closed tag s ls)) (t ++ taken_by (length ls) (closes tag)) (i ++ tag)
unfolding taken_by outers
closed-splits tag s [] {t} r = rw (append-nil t) (copying r tag)
closed-splits tag s (l ∷ ls) r = after (taking r tag) (close-keeps l ls s.now)

step-splits : (k : Token) (s : State) {t i : List Cell} → Split (contents s) t i
    → Split (contents (step k s)) (t ++ taken_by (length s.lists) k) (i ++ spelling k)
unfolding step taken_by outers strung
step-splits (text c) s {t} r = rw (append-nil t, ← append_assoc (outers s.lists) s.now (c ∷ [])) (copying r (c ∷ []))
step-splits (opens tag o) s r = rw (append-nil (outers s.lists ++ s.now), append-nil (outers s.lists ++ s.now)) (taking r tag)
step-splits (starts tag) s r = started-splits tag s s.lists r
step-splits (closes tag) s r = closed-splits tag s s.lists r

started-depth : (tag : List Cell) (s : State) (ls : List Open) → length (started tag s ls).lists ≡ length ls
started-depth tag s [] = refl
started-depth tag s (l ∷ ls) = refl

closed-depth : (tag : List Cell) (s : State) (ls : List Open) → length (closed tag s ls).lists ≡ depth_after (length ls) (closes tag)
unfolding depth_after
closed-depth tag s [] = refl
closed-depth tag s (l ∷ ls) = refl

pub step-depth : (k : Token) (s : State) → length (step k s).lists ≡ depth_after (length s.lists) k
unfolding step depth_after
step-depth (text c) s = refl
step-depth (opens tag o) s = refl
step-depth (starts tag) s = started-depth tag s s.lists
step-depth (closes tag) s = closed-depth tag s s.lists

finish-splits : (now : List Cell) (ls : List Open) {t i : List Cell} → Split (outers ls ++ now) t i → Split (finish now ls) t i
unfolding finish outers
finish-splits now [] r = r
finish-splits now (l ∷ ls) r = finish-splits (close l ls now) ls (after r (close-keeps l ls now))

run-splits : (ks : List Token) (s : State) {t i : List Cell} → Split (contents s) t i
    → Split (run ks s) (t ++ taken (length s.lists) ks) (i ++ spelled ks)
unfolding run taken spelled
run-splits [] s {t} {i} r = rw (append-nil t, append-nil i) (finish-splits s.now s.lists r)
run-splits (k ∷ ks) s {t} {i} r =
    rw (← step-depth k s, ← append_assoc t (taken_by (length s.lists) k) (taken (length (step k s).lists) ks), ← append_assoc i (spelling k) (spelled ks))
    (run-splits ks (step k s) (step-splits k s r))

-- what the pass writes, what it takes out, what it reads
pub lists-splits : (x : List Cell) → Split (lists x) (taken_lists x) x
unfolding lists taken_lists outers
lists-splits x = rw (tokens-spelled 0 x) at (run-splits (tokens 0 x) nothing done)
