-- Laws of the stack of open kinds, held in numbers. Assumes nothing.
use mathlib.Core.Path.{◌≡◌, refl, sym, ap, ap₂, ◌∙◌}
use mathlib.Core.Bool.{Bool, true, false, cond, false≢true}
use mathlib.Core.List.{List, [], ◌∷◌}
use Prim.Native.Nat.{ℕ, zero, suc, ◌+◌, ◌-◌, ◌*◌, ◌%◌, ◌≤◌, ◌<◌}
use native.Mathlib.Numerals.{add-one, sub-one}
use native.Mathlib.Omega.{arith}
use native.Mathlib.Decide.{dec_le}
use lib.Dec.{eqb}
use lib.ListN.{length, get_or, set}
use lib.Seq.{get_or-set_same, get_or-set_other, take-set-le}
use borrow.Author.Tests.{lt-ltb, le-ltb, eq-eqb, ne_eqb}
use Rattle.mark_tags.specs.Marks.{Kind, same, opener, closer, ends, after}
use Rattle.mark_tags.specs.Flat.{kind_numbered, numbered_tag, code_of, stack_of, Stacked}

abbrev tail_of : List Kind → List Kind
tail_of [] = []
tail_of (k ∷ ks) = ks

-- ---- the stack of open kinds

same-small : (a b : ℕ) → a < 4 → b < 4 → same (kind_numbered a) (kind_numbered b) ≡ eqb a b
unfolding kind_numbered
same-small zero zero h k = refl
same-small zero (suc zero) h k = refl
same-small zero (suc (suc zero)) h k = refl
same-small zero (suc (suc (suc zero))) h k = refl
same-small zero (suc (suc (suc (suc b)))) h k = absurd (omega arith)
same-small (suc zero) zero h k = refl
same-small (suc zero) (suc zero) h k = refl
same-small (suc zero) (suc (suc zero)) h k = refl
same-small (suc zero) (suc (suc (suc zero))) h k = refl
same-small (suc zero) (suc (suc (suc (suc b)))) h k = absurd (omega arith)
same-small (suc (suc zero)) zero h k = refl
same-small (suc (suc zero)) (suc zero) h k = refl
same-small (suc (suc zero)) (suc (suc zero)) h k = refl
same-small (suc (suc zero)) (suc (suc (suc zero))) h k = refl
same-small (suc (suc zero)) (suc (suc (suc (suc b)))) h k = absurd (omega arith)
same-small (suc (suc (suc zero))) zero h k = refl
same-small (suc (suc (suc zero))) (suc zero) h k = refl
same-small (suc (suc (suc zero))) (suc (suc zero)) h k = refl
same-small (suc (suc (suc zero))) (suc (suc (suc zero))) h k = refl
same-small (suc (suc (suc zero))) (suc (suc (suc (suc b)))) h k = absurd (omega arith)
same-small (suc (suc (suc (suc a)))) b h k = absurd (omega arith)

pub same_numbers : (a b : ℕ) → same (kind_numbered (a % 4)) (kind_numbered (b % 4)) ≡ eqb (a % 4) (b % 4)
same_numbers a b = same-small (a % 4) (b % 4) (omega arith) (omega arith)

pub numbered-opener : (r : ℕ) → r < 12 → numbered_tag r ≡ opener (kind_numbered (r % 4))
unfolding numbered_tag
numbered-opener r h = rw (lt-ltb r 12 h)

pub numbered-closer : (r : ℕ) → 12 ≤ r → numbered_tag r ≡ closer (kind_numbered (r % 4))
unfolding numbered_tag
numbered-closer r h = rw (le-ltb r 12 h)

pub code-closer : (r : ℕ) (e : Bool) → 12 ≤ r → code_of r e ≡ cond e 2 1
unfolding code_of
code-closer r e h = rw (le-ltb r 12 h)

ends-stack : (ns : List ℕ) (n m r : ℕ) → (m ≡ 0 → ⊥) → ends (closer (kind_numbered (r % 4))) (stack_of ns n m) ≡ eqb (get_or ns (3 * n + 3 + (m - 1)) 0 % 4) (r % 4)
unfolding stack_of ends
ends-stack ns n zero r w = absurd (w refl)
ends-stack ns n (suc m) r w = rw sub-one (same_numbers (get_or ns (3 * n + 3 + m) 0) r)

module _ (ns : List ℕ) (n depth r : ℕ) where
  ends-top : 12 ≤ r → (depth ≡ 0 → ⊥) → ends (numbered_tag r) (stack_of ns n depth) ≡ eqb (get_or ns (3 * n + 3 + (depth - 1)) 0 % 4) (r % 4)
  ends-top h z = rw (numbered-closer r h) (ends-stack ns n depth r z)

  pub code-none : 12 ≤ r → depth ≡ 0 → 1 ≡ code_of r (ends (numbered_tag r) (stack_of ns n depth))
  unfolding stack_of ends
  code-none h z = sym (code-closer r _ h ∙ rw (numbered-closer r h, z))

  pub code-ends : 12 ≤ r → (depth ≡ 0 → ⊥) → get_or ns (3 * n + 3 + (depth - 1)) 0 % 4 ≡ r % 4 → 2 ≡ code_of r (ends (numbered_tag r) (stack_of ns n depth))
  code-ends h z e = sym (code-closer r _ h ∙ rw (ends-top h z, eq-eqb (get_or ns (3 * n + 3 + (depth - 1)) 0 % 4) (r % 4) e))

  pub code_other : 12 ≤ r → (depth ≡ 0 → ⊥) → (get_or ns (3 * n + 3 + (depth - 1)) 0 % 4 ≡ r % 4 → ⊥) → 1 ≡ code_of r (ends (numbered_tag r) (stack_of ns n depth))
  code_other h z e = sym (code-closer r _ h ∙ rw (ends-top h z, ne_eqb (get_or ns (3 * n + 3 + (depth - 1)) 0 % 4) (r % 4) e))

-- ---- and what becomes of it

stack_same : (ns ns' : List ℕ) (n depth : ℕ) → ((i : ℕ) → i < 3 * n + 3 + depth → get_or ns' i 0 ≡ get_or ns i 0) → stack_of ns' n depth ≡ stack_of ns n depth
unfolding stack_of
stack_same ns ns' n zero h = refl
stack_same ns ns' n (suc depth) h = ap₂ (λ (a : ℕ) (l : List Kind). kind_numbered (a % 4) ∷ l) (h (3 * n + 3 + depth) (omega arith)) (stack_same ns ns' n depth (λ i l. h i (omega arith)))

pub stacked-open : (ns : List ℕ) (n depth r : ℕ) → r < 12 → 3 * n + 3 + depth < length ns → Stacked ns (set ns (3 * n + 3 + depth) r) n depth r (depth + 1)
unfolding stack_of after
stacked-open ns n depth r h k = record {
  is = rw (add-one, numbered-opener r h, get_or-set_same ns (3 * n + 3 + depth) r 0 k)
      (ap (λ (l : List Kind). kind_numbered (r % 4) ∷ l) (stack_same ns (set ns (3 * n + 3 + depth) r) n depth (λ i l. get_or-set_other ns (3 * n + 3 + depth) i r 0 (λ z. omega arith))));
  items = take-set-le (3 * n + 3) ns (3 * n + 3 + depth) r (omega arith);
  deep = omega arith;
}

abbrev two : Bool → ℕ
two e = cond e 2 1

not-two : (e : Bool) → two e ≡ 2 → e ≡ true
not-two true h = refl
not-two false h = absurd (omega arith)

is-two : (e : Bool) → (two e ≡ 2 → ⊥) → e ≡ false
is-two true h = absurd (h refl)
is-two false h = refl

after-end : (k : Kind) (ks : List Kind) → ends (closer k) ks ≡ true → after (closer k) ks ≡ tail_of ks
unfolding ends after
after-end k [] e = absurd (false≢true e)
after-end k (j ∷ ks) e = rw e

after-other : (k : Kind) (ks : List Kind) → ends (closer k) ks ≡ false → after (closer k) ks ≡ ks
unfolding ends after
after-other k [] e = refl
after-other k (j ∷ ks) e = rw e

stack-tail : (ns : List ℕ) (n depth : ℕ) → tail_of (stack_of ns n depth) ≡ stack_of ns n (depth - 1)
unfolding stack_of
stack-tail ns n zero = refl
stack-tail ns n (suc depth) = rw sub-one

module _ (ns : List ℕ) (n depth r code : ℕ) (h : 12 ≤ r) (e : code ≡ code_of r (ends (numbered_tag r) (stack_of ns n depth))) where
  ended-by-it : cond (ends (closer (kind_numbered (r % 4))) (stack_of ns n depth)) 2 1 ≡ code
  ended-by-it = sym (e ∙ code-closer r _ h ∙ rw (numbered-closer r h))

  pub ended-deep : code ≡ 2 → 1 ≤ depth
  ended-deep z = elim (dec_le 1 depth) [ yes p ↦ p | no q ↦ absurd (let w = code-none ns n depth r h (omega arith) in omega arith) ]

  pub stacked-end : code ≡ 2 → Stacked ns ns n depth r (depth - 1)
  stacked-end z = record {
    is = sym (rw (numbered-closer r h) (after-end (kind_numbered (r % 4)) (stack_of ns n depth) (not-two (ends (closer (kind_numbered (r % 4))) (stack_of ns n depth)) (ended-by-it ∙ z)) ∙ stack-tail ns n depth));
    items = refl;
    deep = omega arith;
  }

  pub stacked-other : (code ≡ 2 → ⊥) → Stacked ns ns n depth r depth
  stacked-other z = record {
    is = sym (rw (numbered-closer r h) (after-other (kind_numbered (r % 4)) (stack_of ns n depth) (is-two (ends (closer (kind_numbered (r % 4))) (stack_of ns n depth)) (λ y. z (sym ended-by-it ∙ y)))));
    items = refl;
    deep = omega arith;
  }
