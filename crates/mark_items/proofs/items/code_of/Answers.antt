use native.Mathlib.Omega.{arith}
use mathlib.Core.Path.{sym}
use Rattle.mark_items.proofs.Stack.{code-none, code-ends, code_other}
use Rattle.mark_tags.specs.Flat.{code_of}
use Rattle.text.proofs.Decide.{decide}
use Rattle.mark_items.proofs.items.code_of.Goals as goal

pub returns-then-tag-lt12 : goal.returns-then-tag-lt12
unfolding code_of
returns-then-tag-lt12 c = sym (search decide depth 12)

pub returns-then-depth-eq0 : goal.returns-then-depth-eq0
returns-then-depth-eq0 c = let a = c.args in code-none a.nums.now a.n a.depth a.tag (omega arith) c.if-depth-eq0.true

pub returns-then-nums-n : goal.returns-then-nums-n
returns-then-nums-n c = let a = c.args in code-ends a.nums.now a.n a.depth a.tag (omega arith) c.if-depth-eq0.false c.if-nums-n.true

pub returns-else-nums-n : goal.returns-else-nums-n
returns-else-nums-n c = let a = c.args in code_other a.nums.now a.n a.depth a.tag (omega arith) c.if-depth-eq0.false c.if-nums-n.false
