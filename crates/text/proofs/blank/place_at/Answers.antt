use mathlib.Core.Path.{◌≡◌, refl, sym, ◌∙◌}
use mathlib.Core.Bool.{Bool, true, false, cond}
use lib.Dec.{ltb}
use mir.Val.{bool_byte}
use borrow.Author.Tests.{le-ltb}
use Rattle.text.proofs.Decide.{decide}
use Rattle.text.specs.Cells.{blank_at, more_after}
use Rattle.text.proofs.Characters.{ascii-place}
use Rattle.text.proofs.blank.place_at.Goals as goal

byte-cond : (t : Bool) → bool_byte t ≡ cond t 1 0
byte-cond true = refl
byte-cond false = refl

pub returns-then-more-gt0 : goal.returns-then-more-gt0
unfolding blank_at more_after
returns-then-more-gt0 c = (sym (search decide), sym (search decide))

pub returns-then-b-lt128 : goal.returns-then-b-lt128
returns-then-b-lt128 c = let a = c.args in
    let z = ascii-place a.more a.s.now a.at.0 c.if-more-gt0.false c.if-b-lt128.true in
    (c.from.ensures ∙ c.ascii_blank.ensures ∙ z.0, z.1)

pub returns : goal.returns
unfolding blank_at more_after
returns c = let e = c.blank_size-n.ensures in
    (sym (rw (le-ltb 0 _ c.if-more-gt0.false, ← e) (sym (c.from-2.ensures ∙ byte-cond (ltb 0 c.blank_size-n.result)))), c.saturating_sub.ensures ∙ rw (le-ltb 0 _ c.if-more-gt0.false) (rw e))
