use mathlib.Core.Path.{sym, ◌∙◌}
use borrow.Author.Tests.{eq-eqb, ne_eqb}
use Rattle.mark_pieces.proofs.Areal.{brace-yes, brace-no}
use Rattle.mark_pieces.proofs.mark.escape_brace.Goals as goal
use Rattle.mark_pieces.proofs.mark.escape_brace.Goals.{else-source-last-eq123-via-then-source-last-eq123+else-is_even, else-source-last-eq123-via-else-source-last-eq123}

pub returns-then-is_even : goal.returns-then-is_even
returns-then-is_even c = brace-yes c.args.w.now c.source.ensures c.args.p.0 c.requires.0 c.requires.1 c.if-source-last-eq123.true
    (sym c.if-is_even.true ∙ (rw (c.source-then-source-last-eq123.ensures, ← c.source.ensures) at c.is_even.ensures)) c.insert.ensures.0 c.insert.ensures.1

pub returns-else-source-last-eq123 : goal.returns-else-source-last-eq123
returns-else-source-last-eq123 c = brace-no c.args.w.now c.source.ensures c.args.p.0 c.requires.0 c.requires.1
    (elim c.else-source-last-eq123.branch [
      | else-source-last-eq123-via-then-source-last-eq123+else-is_even w ↦ rw (c.source.ensures, ← w.source-then-source-last-eq123.ensures, ← w.is_even.ensures, w.if-is_even.false, w.source-then-source-last-eq123.ensures, ← c.source.ensures, eq-eqb _ 123 w.if-source-last-eq123.true)
      | else-source-last-eq123-via-else-source-last-eq123 w ↦ rw (ne_eqb _ 123 w.if-source-last-eq123.false)
    ])
