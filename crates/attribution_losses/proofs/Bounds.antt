-- The losses of an attribution are no more than its bytes and one, and their fields no longer than two times that. Assumes nothing.
--   weight p    the most that a part adds to the loss bytes
use mathlib.Core.Path.{◌≡◌}
use mathlib.Core.Bool.{Bool, true, false, cond, ◌||◌, ◌&&◌}
use mathlib.Core.List.{List, [], ◌∷◌, ◌++◌}
use Prim.Native.Nat.{ℕ, zero, suc, ◌+◌, ◌-◌, ◌*◌, ◌≤◌}
use native.Mathlib.Omega.{arith}
use lib.ListN.{length, take, drop, get_or, length-append}
use lib.Dec.{eqb}
use Rattle.text.specs.Ascii.{ascii, is_empty, to_first}
use Rattle.attribution_parts.specs.Parts.{Part, field, text, is_space, in_quotes, value, value_size, key_size, read_at, part_at, size_at, part_size, here, more, parts}
use Rattle.attribution_parts.specs.Attribution.{Loss, loss_of, run_words, is_used, unnamed, loss_at, losses_from, passed_over, losses_of, losses, leading, leading_id, field_of}
use Rattle.attribution_parts.specs.declared.Kind.TheVariants.{Name, PostId, Id}
use Rattle.attribution_losses.specs.Lists.{loss_words}

abbrev weight : Part → ℕ
weight (field key v) = length key
weight (text w quoted) = suc (length w)

-- and the most that parts add
unfoldable weights : List Part → ℕ
weights [] = 0
weights (p ∷ ps) = weight p + weights ps

-- ---- lists

-- the start of a list has no more than so many elements, and no more than the list
take_short : {A : Type 0} (n : ℕ) (s : List A) → (length (take n s) ≤ n) × (length (take n s) ≤ length s)
take_short zero s = (omega arith, omega arith)
take_short (suc n) [] = (omega arith, omega arith)
take_short (suc n) (b ∷ s) = let h = take_short n s in (omega (arith, h.0), omega (arith, h.1))

-- the rest of a list has no more than the list
drop-short : {A : Type 0} (n : ℕ) (s : List A) → length (drop n s) ≤ length s
drop-short zero s = omega arith
drop-short (suc n) [] = omega arith
drop-short (suc n) (b ∷ s) = omega (arith, drop-short n s)

-- the fields of two lists of losses are counted apart
words_append : (a b : List Loss) → length (loss_words (a ++ b)) ≡ length (loss_words a) + length (loss_words b)
unfolding loss_words
words_append [] b = omega arith
words_append (x ∷ a) b = omega (arith, words_append a b, length-append x.words (loss_words a ++ loss_words b), length-append x.words (loss_words (a ++ b)), length-append x.words (loss_words a))

-- ---- one loss

-- so many losses at most, with so many loss bytes
pub record Small (ls : List Loss) (n b : ℕ) : Type 0 where
  pub few : length ls ≤ n
  pub short : length (loss_words ls) ≤ b

-- a text makes a loss at most, no longer than the text
loss_of-small : (u : Bool) (w : List ℕ) → Small (loss_of u w) 1 (length w)
unfolding loss_words
loss_of-small u [] = record { few = omega arith; short = omega arith }
loss_of-small u (b ∷ w) = record { few = omega arith; short = omega (arith, length-append (b ∷ w) []) }

-- losses that may be left out
cond_small : (t : Bool) (ls : List Loss) (n b : ℕ) → Small ls n b → Small (cond t [] ls) n b
unfolding loss_words
cond_small true ls n b h = record { few = omega arith; short = omega arith }
cond_small false ls n b h = h

-- a text without a name
unnamed-small : (all : List Part) (w : List ℕ) → Small (unnamed all w) 1 (length w)
unfolding unnamed
unnamed-small all w = cond_small (is_empty (field_of Name all)) (loss_of true w) 1 (length w) (loss_of-small true w)

-- two lists of losses
pub append-small : (a b : List Loss) {n k m l t u : ℕ} → Small a n k → Small b m l → n + m ≤ t → k + l ≤ u → Small (a ++ b) t u
append-small a b p q h g = record { few = omega (arith, length-append a b, p.few, q.few); short = omega (arith, words_append a b, p.short, q.short) }

-- ---- the losses of parts

-- how much a run adds before the parts ps
abbrev runs : Bool → List Part → ℕ
runs true ps = length (run_words ps)
runs false ps = 0

-- a part that makes the losses ls, with no run behind it
ends-small : (all : List Part) (i : ℕ) (ls : List Loss) (b : ℕ) (ps : List Part) → Small ls 1 b
    → (length (losses_from all i false ps) ≤ length ps) × (runs false ps + length (loss_words (losses_from all i false ps)) ≤ weights ps)
    → (length (ls ++ losses_from all i false ps) ≤ suc (length ps)) × (length (loss_words (ls ++ losses_from all i false ps)) ≤ b + weights ps)
ends-small all i ls b ps p h =
    (omega (arith, h.0, p.few, length-append ls (losses_from all i false ps)), omega (arith, h.1, p.short, words_append ls (losses_from all i false ps)))

-- no more losses than parts
from-small : (all : List Part) (i : ℕ) (run : Bool) (ps : List Part) → (length (losses_from all i run ps) ≤ length ps) × (runs run ps + length (loss_words (losses_from all i run ps)) ≤ weights ps)
unfolding losses_from loss_at weights run_words loss_words
from-small all i true [] = (omega arith, omega arith)
from-small all i false [] = (omega arith, omega arith)
from-small all i true (field key v ∷ ps) =
    let h = ends-small all (suc i) (cond (is_used all i) [] (loss_of false key)) (length key) ps (cond_small (is_used all i) (loss_of false key) 1 (length key) (loss_of-small false key)) (from-small all (suc i) false ps) in
    (h.0, omega (arith, h.1))
from-small all i false (field key v ∷ ps) =
    let h = ends-small all (suc i) (cond (is_used all i) [] (loss_of false key)) (length key) ps (cond_small (is_used all i) (loss_of false key) 1 (length key) (loss_of-small false key)) (from-small all (suc i) false ps) in
    (h.0, omega (arith, h.1))
from-small all i true (text w true ∷ ps) =
    let h = ends-small all (suc i) (unnamed all w) (length w) ps (unnamed-small all w) (from-small all (suc i) false ps) in
    (h.0, omega (arith, h.1))
from-small all i false (text w true ∷ ps) =
    let h = ends-small all (suc i) (unnamed all w) (length w) ps (unnamed-small all w) (from-small all (suc i) false ps) in
    (h.0, omega (arith, h.1))
from-small all i true (text w false ∷ ps) =
    let h = from-small all (suc i) true ps in
    (omega (arith, h.0), omega (arith, h.1, length-append w (run_words ps)))
from-small all i false (text w false ∷ ps) =
    let h = from-small all (suc i) true ps in
    let g = unnamed-small all (w ++ run_words ps) in
    let l = length-append w (run_words ps) in (
      omega (arith, h.0, g.few, length-append (unnamed all (w ++ run_words ps)) (losses_from all (suc i) true ps)),
      omega (arith, h.1, g.short, l, words_append (unnamed all (w ++ run_words ps)) (losses_from all (suc i) true ps)),
    )

-- ---- the parts that are left

-- the parts behind the first n
drop-weights : (n : ℕ) (ps : List Part) → weights (drop n ps) ≤ weights ps
unfolding weights
drop-weights zero ps = omega arith
drop-weights (suc n) [] = omega arith
drop-weights (suc n) (p ∷ ps) = omega (arith, drop-weights n ps)

-- a leading id that is passed over is two bytes more
losses-of : (ps : List Part) → Small (losses_of ps) (suc (length ps)) (2 + weights ps)
unfolding losses_of passed_over
losses-of ps =
    let rest = drop (leading ps) ps in
    let f = from-small ps (leading ps) false rest in
    let d = drop-short (leading ps) ps in
    let e = drop-weights (leading ps) ps in
    let r : Small (losses_from ps (leading ps) false rest) (length rest) (weights rest) = record { few = f.0; short = omega (arith, f.1) } in
    append-small (passed_over ps) (losses_from ps (leading ps) false rest)
    (cond_small (is_empty (leading_id ps) || (is_empty (field_of PostId ps) && is_empty (field_of Id ps))) (loss_of false (ascii "id")) 1 2 (loss_of-small false (ascii "id")))
    r (omega (arith, d)) (omega (arith, e))

-- ---- the parts of an attribution

-- a value in quotes, or up to a space
value-by : (t : Bool) (n k : ℕ) (s : List ℕ) → (length (cond t (take n (drop 1 s)) (take k s)) ≤ cond t (n + 2) k) × (length (cond t (take n (drop 1 s)) (take k s)) ≤ length s)
value-by true n k s = let h = take_short n (drop 1 s) in (omega (arith, h.0), omega (arith, h.1, drop-short 1 s))
value-by false n k s = take_short k s

-- a value is no longer than its place and the text
value-short : (s : List ℕ) → (length (value s) ≤ value_size s) × (length (value s) ≤ length s)
unfolding value value_size
value-short s = value-by (in_quotes s) (to_first (λ b. eqb b (get_or s 0 0)) (drop 1 s)) (to_first is_space s) s

-- and so is what a part adds, but for one
read_short : (k : ℕ) (s : List ℕ) → (weight (read_at k s) ≤ suc (size_at k s)) × (weight (read_at k s) ≤ suc (length s))
read_short zero s = let h = value-short s in (omega (arith, h.0), omega (arith, h.1))
read_short (suc k) s = let h = take_short (suc k) s in (omega (arith, h.0), omega (arith, h.1))

-- and what the part adds that a text begins with
part-short : (s : List ℕ) → (weight (part_at s) ≤ suc (part_size s)) × (weight (part_at s) ≤ suc (length s))
unfolding part_at part_size
part-short s = read_short (key_size s) s

-- what is read at the start of b ∷ s, where the rest is within its bounds
here-short : (space : Bool) (b : ℕ) (s : List ℕ) (ps : List Part) → length ps ≤ length s → weights ps ≤ 2 * (length s - more space (b ∷ s))
    → (length (here space (b ∷ s) ++ ps) ≤ suc (length s)) × (weights (here space (b ∷ s) ++ ps) ≤ 2 * suc (length s))
unfolding weights
here-short true b s ps h g = (omega arith, omega arith)
here-short false b s ps h g = let p = part-short (b ∷ s) in (omega arith, omega (arith, p.0, p.1, g))

-- no more parts than bytes
parts-short : (skip : ℕ) (s : List ℕ) → (length (parts skip s) ≤ length s) × (weights (parts skip s) ≤ 2 * (length s - skip))
unfolding parts weights
parts-short zero [] = (omega arith, omega arith)
parts-short (suc skip) [] = (omega arith, omega arith)
parts-short (suc skip) (b ∷ s) = let h = parts-short skip s in (omega (arith, h.0), omega (arith, h.1))
parts-short zero (b ∷ s) =
    let h = parts-short (more (is_space b) (b ∷ s)) s in
    let r = here-short (is_space b) b s (parts (more (is_space b) (b ∷ s)) s) h.0 h.1 in
    (r.0, omega (arith, r.1))

-- the losses of an attribution
pub losses-small : (s : List ℕ) → Small (losses s) (suc (length s)) (2 + 2 * length s)
unfolding losses
losses-small s =
    let h = parts-short 0 s in
    let l = losses-of (parts 0 s) in
    record { few = omega (arith, l.few, h.0); short = omega (arith, l.short, h.1) }
