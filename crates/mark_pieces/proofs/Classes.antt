-- Laws of the classes of bytes: the code's test for the braced form is the definition's. Assumes nothing.
use mathlib.Core.Path.{◌≡◌, refl}
use mathlib.Core.Bool.{◌&&◌, ◌||◌}
use Prim.Native.Nat.{ℕ}
use lib.Dec.{eqb}
use Rattle.mark_tags.specs.Marks.{Class, word, space, other, is_word, is_space, class, class_number, braced}

pub is-space : (c : Class) → eqb (class_number c) 2 ≡ is_space c
is-space word = refl
is-space space = refl
is-space other = refl

pub is_word_lem : (c : Class) → eqb (class_number c) 1 ≡ is_word c
is_word_lem word = refl
is_word_lem space = refl
is_word_lem other = refl

-- The definition's test as the code makes it.
pub braced-by : (d first final before next a b c e : ℕ) → a ≡ class_number (class first) → b ≡ class_number (class final) → c ≡ class_number (class before) → e ≡ class_number (class next)
    → (eqb a 2 || eqb b 2 || eqb first d || eqb final d || eqb c 1 || eqb e 1 || eqb before d
    || (eqb before 47 && (eqb d 47 || eqb d 95))
    || (eqb d 95 && (eqb before 35 || eqb before 64 || eqb before 58))
    || (eqb d 47 && eqb first 42 && eqb final 42))
    ≡ braced d first final before next
unfolding braced
braced-by d first final before next a b c e p q r s =
    rw (p, q, r, s, is-space (class first), is-space (class final), is_word_lem (class before), is_word_lem (class next))
