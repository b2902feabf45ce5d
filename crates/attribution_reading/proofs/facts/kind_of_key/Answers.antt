use mathlib.Core.Path.{refl, sym, ◌∙◌}
use mathlib.Core.Bool.{true≢false}
use Rattle.text.specs.Ascii.{ascii}
use Rattle.text.proofs.Decide.{or_yes, or_no}
use Rattle.attribution_parts.specs.declared.Kind.TheVariants.{Name, PostId, Id, Date, Time}
use Rattle.attribution_reading.proofs.Fielding.{word-is, tells-kind, tells-none}
use Rattle.attribution_reading.proofs.facts.kind_of_key.Goals as goal
use Rattle.attribution_reading.proofs.facts.kind_of_key.Goals.{then-eq_ignore_ascii_case-5, else-eq_ignore_ascii_case-5}

pub returns-then-eq_ignore_ascii_case : goal.returns-then-eq_ignore_ascii_case
returns-then-eq_ignore_ascii_case c = tells-kind PostId _ (sym (word-is (ascii "post_id") _ _ refl c.eq_ignore_ascii_case.ensures.test) ∙ c.if-eq_ignore_ascii_case.true)

pub returns-then-eq_ignore_ascii_case-2 : goal.returns-then-eq_ignore_ascii_case-2
returns-then-eq_ignore_ascii_case-2 c = tells-kind Id _ (sym (word-is (ascii "id") _ _ refl c.eq_ignore_ascii_case-else-eq_ignore_ascii_case.ensures.test) ∙ c.if-eq_ignore_ascii_case-2.true)

pub returns-then-eq_ignore_ascii_case-3 : goal.returns-then-eq_ignore_ascii_case-3
returns-then-eq_ignore_ascii_case-3 c = tells-kind Date _ (sym (word-is (ascii "date") _ _ refl c.eq_ignore_ascii_case-else-eq_ignore_ascii_case-2.ensures.test) ∙ c.if-eq_ignore_ascii_case-3.true)

pub returns-then-eq_ignore_ascii_case-4 : goal.returns-then-eq_ignore_ascii_case-4
returns-then-eq_ignore_ascii_case-4 c = tells-kind Time _ (sym (word-is (ascii "time") _ _ refl c.eq_ignore_ascii_case-else-eq_ignore_ascii_case-3.ensures.test) ∙ c.if-eq_ignore_ascii_case-4.true)

pub returns-then-eq_ignore_ascii_case-6 : goal.returns-then-eq_ignore_ascii_case-6
returns-then-eq_ignore_ascii_case-6 c = tells-kind Name _ (elim c.if-eq_ignore_ascii_case-5.branch [
  | then-eq_ignore_ascii_case-5 w ↦ or_yes _ _ _ (sym (word-is (ascii "name") _ _ refl c.eq_ignore_ascii_case-else-eq_ignore_ascii_case-4.ensures.test) ∙ w.if-eq_ignore_ascii_case-5.true) refl
  | else-eq_ignore_ascii_case-5 w ↦ or_no _ _ _ (sym (word-is (ascii "name") _ _ refl c.eq_ignore_ascii_case-else-eq_ignore_ascii_case-4.ensures.test) ∙ w.if-eq_ignore_ascii_case-5.false)
      (sym (word-is (ascii "author") _ _ refl w.eq_ignore_ascii_case-else-eq_ignore_ascii_case-5.ensures.test) ∙ sym w.value-is ∙ c.if-eq_ignore_ascii_case-6.true)
])

pub returns-else-eq_ignore_ascii_case-6 : goal.returns-else-eq_ignore_ascii_case-6
returns-else-eq_ignore_ascii_case-6 c = tells-none _
    (elim c.if-eq_ignore_ascii_case-5.branch [
      | then-eq_ignore_ascii_case-5 w ↦ absurd (true≢false (sym (w.value-is ∙ w.if-eq_ignore_ascii_case-5.true) ∙ c.if-eq_ignore_ascii_case-6.false))
      | else-eq_ignore_ascii_case-5 w ↦ or_no _ _ _ (sym (word-is (ascii "name") _ _ refl c.eq_ignore_ascii_case-else-eq_ignore_ascii_case-4.ensures.test) ∙ w.if-eq_ignore_ascii_case-5.false)
          (sym (word-is (ascii "author") _ _ refl w.eq_ignore_ascii_case-else-eq_ignore_ascii_case-5.ensures.test) ∙ sym w.value-is ∙ c.if-eq_ignore_ascii_case-6.false)
    ])
    (sym (word-is (ascii "post_id") _ _ refl c.eq_ignore_ascii_case.ensures.test) ∙ c.if-eq_ignore_ascii_case.false)
    (sym (word-is (ascii "id") _ _ refl c.eq_ignore_ascii_case-else-eq_ignore_ascii_case.ensures.test) ∙ c.if-eq_ignore_ascii_case-2.false)
    (sym (word-is (ascii "date") _ _ refl c.eq_ignore_ascii_case-else-eq_ignore_ascii_case-2.ensures.test) ∙ c.if-eq_ignore_ascii_case-3.false)
    (sym (word-is (ascii "time") _ _ refl c.eq_ignore_ascii_case-else-eq_ignore_ascii_case-3.ensures.test) ∙ c.if-eq_ignore_ascii_case-4.false)
