use native.Mathlib.Omega.{arith}
use Rattle.mark_items.proofs.Settling.{settled-leave, settled-kept, settled-text, settled-mark}
use Rattle.mark_items.proofs.items.settle_item.Goals as goal

pub returns-then-code-eq2 : goal.returns-then-code-eq2
returns-then-code-eq2 c = let a = c.args in settled-leave a.nums.now a.n a.j a.closes (omega arith) (omega arith) c.if-code-eq2.true

pub returns-then-code-lt8 : goal.returns-then-code-lt8
returns-then-code-lt8 c = let a = c.args in settled-kept a.nums.now a.n a.j a.closes (omega arith) (omega arith) c.if-code-eq2.false c.if-code-lt8.true

pub returns-then-closes-eq0 : goal.returns-then-closes-eq0
returns-then-closes-eq0 c = let a = c.args in settled-text a.nums.now a.n a.j a.closes (omega arith) (omega arith) c.if-code-lt8.false c.if-closes-eq0.true

pub returns-else-closes-eq0 : goal.returns-else-closes-eq0
returns-else-closes-eq0 c = let a = c.args in settled-mark a.nums.now a.n a.j a.closes (omega arith) (omega arith) c.if-code-lt8.false c.if-closes-eq0.false
