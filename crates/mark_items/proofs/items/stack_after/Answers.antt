use native.Mathlib.Omega.{arith}
use Rattle.mark_items.proofs.Stack.{ended-deep}
use Rattle.mark_items.proofs.Stack.{stacked-open, stacked-end, stacked-other}
use Rattle.mark_items.proofs.items.stack_after.Goals as goal

pub returns-then-tag-lt12 : goal.returns-then-tag-lt12
returns-then-tag-lt12 c = let a = c.args in stacked-open a.nums.now a.n a.depth a.tag (omega arith) (omega arith)

pub overflow_sub-result : goal.overflow_sub-result
overflow_sub-result c = let a = c.args in let pre = c.requires in let d = ended-deep a.nums.now a.n a.depth a.tag a.code (omega arith) pre.0.1 c.if-code-eq2.true in omega arith

pub returns-then-code-eq2 : goal.returns-then-code-eq2
returns-then-code-eq2 c = let a = c.args in let pre = c.requires in stacked-end a.nums.now a.n a.depth a.tag a.code (omega arith) pre.0.1 c.if-code-eq2.true

pub returns-else-code-eq2 : goal.returns-else-code-eq2
returns-else-code-eq2 c = let a = c.args in let pre = c.requires in stacked-other a.nums.now a.n a.depth a.tag a.code (omega arith) pre.0.1 c.if-code-eq2.false
