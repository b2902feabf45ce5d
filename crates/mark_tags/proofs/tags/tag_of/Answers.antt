use borrow.Author.Rules.{rules}
use mathlib.Core.Path.{ap, ◌∙◌}
use Prim.Native.Nat.{ℕ}
use mathlib.Core.Bool.{◌&&◌}
use Rattle.text.specs.Ascii.{is}
use Rattle.mark_tags.specs.Marks.{kind_of, tag_of_bytes}
use Rattle.mark_tags.specs.Flat.{letter_number}
use Rattle.mark_tags.proofs.TagNumbers.{bit-cond, letter-most, tag-number, no-tag-number}
use Rattle.mark_tags.proofs.tags.tag_of.Goals as goal

pub overflow_add-result : goal.overflow_add-result
overflow_add-result c = let k = letter-most (kind_of c.select_unpredictable.result) in search rules

pub returns-then-a-whole : goal.returns-then-a-whole
unfolding tag_of_bytes
returns-then-a-whole c = let a = c.args in
    let k = c.kind_of-k in
    rw (c.from.ensures, bit-cond (is "]" a.c))
    (tag-number (is "[" a.a) (is "]" a.c) (is "/" a.b && is "]" a.d) a.b a.c _ (k.ensures ∙ ap (λ (x : ℕ). letter_number (kind_of x)) c.select_unpredictable.ensures) c.if-a-whole.true)

pub returns : goal.returns
unfolding tag_of_bytes
returns c = let a = c.args in
    let k = c.kind_of-k in
    no-tag-number (is "[" a.a) (is "]" a.c) (is "/" a.b && is "]" a.d) a.b a.c _ (k.ensures ∙ ap (λ (x : ℕ). letter_number (kind_of x)) c.select_unpredictable.ensures) c.if-a-whole.false
