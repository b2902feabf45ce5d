-- Laws of `Split`: texts put together, and what the passes are made of keeps a text. Assumes nothing.
use mathlib.Core.Path.{◌≡◌, refl}
use mathlib.Core.Bool.{Bool, true, false, cond, ◌&&◌}
use mathlib.Core.List.{List, [], ◌∷◌, ◌++◌, map}
use Prim.Native.Nat.{ℕ}
use lib.Dec.{eqb}
use Rattle.text.specs.Cells.{Cell, more_after, cells_from, written, feed}
use Rattle.text.specs.Lines.{trim_start, trim_onto, trim_end, trim, is_feed, line_onto, lines, followed, joined}
use Rattle.text.specs.Split.{Split, done, copied, consumed, lost, wrote, Keeps}

pub append : {o t i p u j : List Cell} → Split o t i → Split p u j → Split (o ++ p) (t ++ u) (i ++ j)
append done s = s
append (copied c r) s = copied c (append r s)
append (consumed c r) s = consumed c (append r s)
append (lost c h r) s = lost c h (append r s)
append (wrote c h r) s = wrote c h (append r s)

pub keeps-all : (x : List Cell) → Keeps x x
keeps-all [] = done
keeps-all (c ∷ x) = copied c (keeps-all x)

pub takes_all : (x : List Cell) → Split [] x x
takes_all [] = done
takes_all (c ∷ x) = consumed c (takes_all x)

after-copied : (c : Cell) {o t i : List Cell} → ((p : List Cell) → Keeps p o → Split p t i) → {p : List Cell} → Keeps p (c ∷ o) → Split p t (c ∷ i)
after-copied c f (copied _ k) = copied c (f _ k)
after-copied c f (lost _ h k) = lost c h (f _ k)
after-copied c f (wrote d h k) = wrote d h (after-copied c f k)

after-wrote : (c : Cell) → c.origin ≡ 0 → {o t i : List Cell} → ((p : List Cell) → Keeps p o → Split p t i) → {p : List Cell} → Keeps p (c ∷ o) → Split p t i
after-wrote c z f (copied _ k) = wrote c z (f _ k)
after-wrote c z f (lost _ h k) = f _ k
after-wrote c z f (wrote d h k) = wrote d h (after-wrote c z f k)

-- a text that keeps what another one is split into
pub after : {o t i p : List Cell} → Split o t i → Keeps p o → Split p t i
after done k = k
after (copied c r) k = after-copied c (λ p h. after r h) k
after (consumed c r) k = consumed c (after r k)
after (lost c h r) k = lost c h (after r k)
after (wrote c h r) k = after-wrote c h (λ p h. after r h) k

-- written cells behind a text
pub behind : {o t i w : List Cell} → Split o t i → Keeps w [] → Split (o ++ w) t i
behind done w = w
behind (copied c r) w = copied c (behind r w)
behind (consumed c r) w = consumed c (behind r w)
behind (lost c h r) w = lost c h (behind r w)
behind (wrote c h r) w = wrote c h (behind r w)

-- a tag consumed behind a text
pub taking : {o t i : List Cell} → Split o t i → (tag : List Cell) → Split o (t ++ tag) (i ++ tag)
taking done tag = takes_all tag
taking (copied c r) tag = copied c (taking r tag)
taking (consumed c r) tag = consumed c (taking r tag)
taking (lost c h r) tag = lost c h (taking r tag)
taking (wrote c h r) tag = wrote c h (taking r tag)

-- cells copied behind a text
pub copying : {o t i : List Cell} → Split o t i → (x : List Cell) → Split (o ++ x) t (i ++ x)
copying done x = keeps-all x
copying (copied c r) x = copied c (copying r x)
copying (consumed c r) x = consumed c (copying r x)
copying (lost c h r) x = lost c h (copying r x)
copying (wrote c h r) x = wrote c h (copying r x)

-- ---- what the passes are made of keeps a text

from_zero : (more : ℕ) (s : List ℕ) → Keeps (cells_from (λ o. o) 0 more s) []
unfolding cells_from
from_zero more [] = done
from_zero more (b ∷ s) = wrote _ refl (from_zero (more_after more (b ∷ s)) s)

pub written_keeps : (s : List ℕ) → Keeps (written s) []
unfolding written
written_keeps s = from_zero 0 s

drop-if : (b : Bool) (c : Cell) {x y : List Cell} → c.blank ≡ b → Keeps y x → Keeps (cond b y (c ∷ x)) (c ∷ x)
drop-if true c h k = lost c h k
drop-if false c {x} h k = keeps-all (c ∷ x)

pub trim_start-keeps : (x : List Cell) → Keeps (trim_start x) x
unfolding trim_start
trim_start-keeps [] = done
trim_start-keeps (c ∷ x) = drop-if c.blank c refl (trim_start-keeps x)

trim_onto-keeps : (c : Cell) (x : List Cell) → Keeps (trim_onto c x) (c ∷ x)
trim_onto-keeps c [] = drop-if c.blank c refl done
trim_onto-keeps c (d ∷ x) = keeps-all (c ∷ d ∷ x)

pub trim_end-keeps : (x : List Cell) → Keeps (trim_end x) x
unfolding trim_end
trim_end-keeps [] = done
trim_end-keeps (c ∷ x) = after (copied c (trim_end-keeps x)) (trim_onto-keeps c (trim_end x))

pub trim-keeps : (x : List Cell) → Keeps (trim x) x
unfolding trim
trim-keeps x = after (trim_start-keeps x) (trim_end-keeps (trim_start x))

-- lines without anything between
unfoldable pub strung : List (List Cell) → List Cell
strung [] = []
strung (l ∷ ls) = l ++ strung ls

and_right : (a b : Bool) → (a && b) ≡ true → b ≡ true
and_right true b h = h
and_right false true h = refl
and_right false false h = h

line_onto-keeps : (b : Bool) (c : Cell) (ls : List (List Cell)) → is_feed c ≡ b → Keeps (strung (line_onto b c ls)) (c ∷ strung ls)
unfolding strung is_feed
line_onto-keeps true c ls h = lost c (and_right (eqb c.byte 10) c.blank h) (keeps-all (strung ls))
line_onto-keeps false c [] h = keeps-all (c ∷ [])
line_onto-keeps false c (l ∷ ls) h = keeps-all (c ∷ l ++ strung ls)

pub lines-keeps : (x : List Cell) → Keeps (strung (lines x)) x
unfolding strung lines
lines-keeps [] = done
lines-keeps (c ∷ x) = after (copied c (lines-keeps x)) (line_onto-keeps (is_feed c) c (lines x) refl)

-- each text keeps the text at its place
pub data Each : List (List Cell) → List (List Cell) → Type 0 where
  none : Each [] []
  each : {o l : List Cell} {os ls : List (List Cell)} → Keeps o l → Each os ls → Each (o ∷ os) (l ∷ ls)

pub each_map : (f : List Cell → List Cell) → ((l : List Cell) → Keeps (f l) l) → (ls : List (List Cell)) → Each (map f ls) ls
each_map f h [] = none
each_map f h (l ∷ ls) = each (h l) (each_map f h ls)

followed-keeps : {os ls : List (List Cell)} → Each os ls → Keeps (followed os) (strung ls)
unfolding followed strung
followed-keeps none = done
followed-keeps (each k r) = wrote feed refl (append k (followed-keeps r))

pub joined_keeps : {os ls : List (List Cell)} → Each os ls → Keeps (joined os) (strung ls)
unfolding joined strung
joined_keeps none = done
joined_keeps (each k r) = append k (followed-keeps r)
