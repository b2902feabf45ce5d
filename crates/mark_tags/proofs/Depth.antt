-- The written tree is at most four deep: `merge` leaves no mark inside one of its own kind. Assumes nothing.
use mathlib.Core.Path.{◌≡◌, refl, ap}
use mathlib.Core.List.{List}
use mathlib.Core.Bool.{Bool, true, false}
use Prim.Native.Nat.{ℕ, suc, ◌+◌, ◌≤◌}
use native.Mathlib.Omega.{arith}
use Rattle.text.specs.Cells.{Cell}
use Rattle.mark_tags.specs.Flat.{Fresh, depth_of}
use Rattle.mark_tags.specs.Marks.{Kind, bold, italic, underline, strike, Kinds, kinds, no-kinds, has, add, Items, end, text, gone, mark, items, ◌⧺◌, join, merge}

-- ---- Sets of kinds

abbrev bit : Bool → ℕ
bit true = 1
bit false = 0

-- How many kinds are open: the depth of a slot.
unfoldable pub count : Kinds → ℕ
count (kinds b i u s) = bit b + bit i + bit u + bit s

bit_le : (b : Bool) → bit b ≤ 1
bit_le true = omega arith
bit_le false = omega arith

pub count-le : (m : Kinds) → count m ≤ 4
unfolding count
count-le (kinds b i u s) = omega (arith, bit_le b, bit_le i, bit_le u, bit_le s)

pub count_add : (k : Kind) (m : Kinds) → has k m ≡ false → count (add k m) ≡ suc (count m)
unfolding count has add
count_add bold (kinds b i u s) e = omega (arith, ap bit e)
count_add italic (kinds b i u s) e = omega (arith, ap bit e)
count_add underline (kinds b i u s) e = omega (arith, ap bit e)
count_add strike (kinds b i u s) e = omega (arith, ap bit e)

pub add-has : (k : Kind) (m : Kinds) → has k m ≡ true → add k m ≡ m
unfolding has add
add-has bold (kinds b i u s) e = rw e
add-has italic (kinds b i u s) e = rw e
add-has underline (kinds b i u s) e = rw e
add-has strike (kinds b i u s) e = rw e

-- ---- No mark inside one of its own kind is left by `merge`

fresh-⧺ : (m : Kinds) (t u : Items) → Fresh m t → Fresh m u → Fresh m (t ⧺ u)
unfolding ◌⧺◌
fresh-⧺ m end u f g = g
fresh-⧺ m (text p t) u f g = fresh-⧺ m t u f g
fresh-⧺ m (gone s t) u f g = fresh-⧺ m t u f g
fresh-⧺ m (mark k s a t) u f g = (f.0, f.1, fresh-⧺ m t u f.2 g)

fresh-join : (b : Bool) (m : Kinds) (k : Kind) (s : List Cell) (a t : Items) → has k m ≡ b → Fresh (add k m) a → Fresh m t → Fresh m (join b k s a t)
fresh-join true m k s a t e f g = fresh-⧺ m a t (rw (add-has k m e) at f) g
fresh-join false m k s a t e f g = (e, f, g)

pub fresh-merge : (m : Kinds) (t : Items) → Fresh m (merge m t)
unfolding merge
fresh-merge m end = tt
fresh-merge m (text p t) = fresh-merge m t
fresh-merge m (gone s t) = fresh-merge m t
fresh-merge m (mark k s a t) =
    fresh-join (has k m) m k s (merge (add k m) a) (merge m t) refl (fresh-merge (add k m) a) (fresh-merge m t)

-- The depth of a slot is at most the number of kinds that are not open around it.
pub fresh-depth : (m : Kinds) (t : Items) → Fresh m t → count m + depth_of t ≤ 4
unfolding depth_of
fresh-depth m end f = omega (arith, count-le m)
fresh-depth m (text p t) f = fresh-depth m t f
fresh-depth m (gone s t) f = fresh-depth m t f
fresh-depth m (mark k s a t) f = omega (arith, count_add k m f.0, fresh-depth (add k m) a f.1, fresh-depth m t f.2)

pub merged-depth : (x : List Cell) → depth_of (merge no-kinds (items x)) ≤ 4
merged-depth x = omega (arith, fresh-depth no-kinds (merge no-kinds (items x)) (fresh-merge no-kinds (items x)))
