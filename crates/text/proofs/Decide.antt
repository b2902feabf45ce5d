-- Code that decides by tests equals its definition: `search decide`, with the answer on the right. One law for each way to decide, and one
-- for each kind of test. Assumes nothing.
use mathlib.Core.Path.{◌≡◌, sym, ◌∙◌}
use mathlib.Core.Bool.{Bool, true, false, cond, ◌&&◌, ◌||◌}
use borrow.Author.Tests.{lt-ltb, le-ltb, le-leb, lt-leb, eq-eqb, ne_eqb}

pub cond_yes : {A : Type 0} (t : Bool) (x y r : A) → t ≡ true → x ≡ r → cond t x y ≡ r
cond_yes t x y r p e = rw p e

pub cond_no : {A : Type 0} (t : Bool) (x y r : A) → t ≡ false → y ≡ r → cond t x y ≡ r
cond_no t x y r p e = rw p e

pub and_yes : (a b r : Bool) → a ≡ true → b ≡ r → (a && b) ≡ r
and_yes a b r p e = rw p e

pub and_no : (a b r : Bool) → a ≡ false → false ≡ r → (a && b) ≡ r
and_no a b r p e = rw p e

pub or_yes : (a b r : Bool) → a ≡ true → true ≡ r → (a || b) ≡ r
or_yes a b r p e = rw p e

pub or_no : (a b r : Bool) → a ≡ false → b ≡ r → (a || b) ≡ r
or_no a b r p e = rw p e

-- a test that a function answered
pub by_call : (s t r : Bool) → s ≡ t → s ≡ r → t ≡ r
by_call s t r q p = sym q ∙ p

pub ruleset decide = (cond_yes, cond_no, and_yes, and_no, or_yes, or_no, lt-ltb, le-ltb, le-leb, lt-leb, eq-eqb, ne_eqb, by_call)

-- `search asked`, with the answer on the left: tests that functions answered, one after the other
pub asked-yes : {A : Type 0} (s t : Bool) (x y r : A) → s ≡ t → s ≡ true → r ≡ x → r ≡ cond t x y
asked-yes s t x y r q p e = sym (cond_yes t x y r (sym q ∙ p) (sym e))

pub asked-no : {A : Type 0} (s t : Bool) (x y r : A) → s ≡ t → s ≡ false → r ≡ y → r ≡ cond t x y
asked-no s t x y r q p e = sym (cond_no t x y r (sym q ∙ p) (sym e))

pub asked-or-yes : (s a b r : Bool) → s ≡ a → s ≡ true → r ≡ true → r ≡ (a || b)
asked-or-yes s a b r q p e = sym (or_yes a b r (sym q ∙ p) (sym e))

pub asked-or-no : (s a b r : Bool) → s ≡ a → s ≡ false → r ≡ b → r ≡ (a || b)
asked-or-no s a b r q p e = sym (or_no a b r (sym q ∙ p) (sym e))

pub ruleset asked = (asked-yes, asked-no, asked-or-yes, asked-or-no)
