use native.Mathlib.Omega.{arith}
use mathlib.Core.Bool.{true, false}
use mathlib.Core.Path.{sym, ◌∙◌}
use Rattle.attribution_losses.proofs.Losing.{run-here, no-loss, one-loss, run-loss, used-field, lost-field, silent-text, lost-quoted, lost-run, as-quoted, as-run, text-either}
use Rattle.attribution_losses.proofs.loss.put_group.Goals as goal

pub returns-then-is_used : goal.returns-then-is_used
returns-then-is_used c = let a = c.args in let r = c.requires.1 in let h = c.read_part-p.ensures in no-loss a.s.now a.i a.at a.buf.now a.to r.1 _ h (used-field a.s.now a.i a.at _ r.1.stands h a.fields a.day r.0 c.if-p-ne0.true (sym c.is_used.ensures ∙ c.if-is_used.true))

pub put-to-requires : goal.put-to-requires
put-to-requires c = let r = c.requires.1.1 in let h = c.read_part-p.ensures in omega (arith, c.of.ensures.size, r.room, h.key, h.key-ends, h.inside)

pub returns-then-p-ne0 : goal.returns-then-p-ne0
returns-then-p-ne0 c = let a = c.args in let r = c.requires.1 in let h = c.read_part-p.ensures in one-loss a.s.now a.i a.at a.buf.now a.to r.1 _ h _ _ false _ _ (omega (arith, h.key-ends, h.inside)) (omega (arith, h.key, h.key-ends)) (rw c.of.ensures.words at c.put-to.ensures) (lost-field a.s.now a.i a.at _ r.1.stands h a.fields a.day r.0 c.if-p-ne0.true (sym c.is_used.ensures ∙ c.if-is_used.false))

pub returns-then-fields-eq0 : goal.returns-then-fields-eq0
returns-then-fields-eq0 c = let a = c.args in let r = c.requires.1 in let h = c.read_part-p.ensures in no-loss a.s.now a.i a.at a.buf.now a.to r.1 _ h (silent-text a.s.now a.i a.at _ r.1.stands h a.fields a.day r.0 _ (text-either a.s.now _ c.if-p-ne0.false) c.if-fields-eq0.true)

pub put-to-requires-2 : goal.put-to-requires-2
put-to-requires-2 c = let r = c.requires.1.1 in let h = c.read_part-p.ensures in omega (arith, c.of-2.ensures.size, r.room, h.starts, h.ends, h.inside)

pub put_run-requires : goal.put_run-requires
put_run-requires c = let a = c.args in let r = c.requires.1 in let h = c.read_part-p.ensures in run-here a.s.now a.i a.at a.buf.now a.to r.1 _ h _ _ _ _ (omega (arith, h.ends, h.inside)) (omega (arith, h.starts, h.ends)) (rw c.of-2.ensures.words at c.put-to-2.ensures)

pub returns-then-p : goal.returns-then-p
returns-then-p c = let a = c.args in let r = c.requires.1 in let h = c.read_part-p.ensures in run-loss a.s.now a.i a.at a.buf.now a.to r.1 _ h _ _ _ _ _ _ (omega (arith, h.ends, h.inside)) (omega (arith, h.starts, h.ends)) (rw c.of-2.ensures.words at c.put-to-2.ensures) c.put_run.ensures (lost-run a.s.now a.i a.at _ r.1.stands h a.fields a.day r.0 (as-run a.s.now _ c.if-p-ne0.false c.if-p.true) c.if-fields-eq0.false)

pub returns : goal.returns
returns c = let a = c.args in let r = c.requires.1 in let h = c.read_part-p.ensures in one-loss a.s.now a.i a.at a.buf.now a.to r.1 _ h _ _ true _ _ (omega (arith, h.ends, h.inside)) (omega (arith, h.starts, h.ends)) (rw c.of-2.ensures.words at c.put-to-2.ensures) (lost-quoted a.s.now a.i a.at _ r.1.stands h a.fields a.day r.0 (as-quoted a.s.now _ c.if-p-ne0.false c.if-p.false) c.if-fields-eq0.false)
