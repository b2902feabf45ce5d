use native.Mathlib.Omega.{arith}
use Prim.Native.Nat.{◌+◌}
use Prim.Native.Nat.{◌*◌}
use lib.ListN.{length-set}
use mathlib.Core.Path.{◌∙◌}
use Rattle.mark_tags.proofs.TagNumbers.{bit-numbered}
use Rattle.mark_items.proofs.Merging.{merged-stray, merged-out, merged-left, merged-same, merged-open, merged-fresh, merged-again}
use Rattle.mark_items.proofs.items.merge_item.Goals as goal

pub returns-then-depth-eq0 : goal.returns-then-depth-eq0
returns-then-depth-eq0 c = let a = c.args in merged-stray a.nums.now a.n a.j a.state.mask a.state.depth (omega arith) (omega arith) (omega arith) (omega arith) c.if-code-eq2.true c.if-depth-eq0.true

pub returns-then-outer-ge16 : goal.returns-then-outer-ge16
returns-then-outer-ge16 c = let a = c.args in merged-out a.nums.now a.n a.j a.state.mask a.state.depth (omega arith) (omega arith) (omega arith) (omega arith) c.if-code-eq2.true c.if-depth-eq0.false c.if-outer-ge16.true

pub returns-then-code-eq2 : goal.returns-then-code-eq2
returns-then-code-eq2 c = let a = c.args in merged-left a.nums.now a.n a.j a.state.mask a.state.depth (omega arith) (omega arith) (omega arith) (omega arith) c.if-code-eq2.true c.if-depth-eq0.false c.if-outer-ge16.false

pub returns-then-code-lt4 : goal.returns-then-code-lt4
returns-then-code-lt4 c = let a = c.args in merged-same a.nums.now a.n a.j a.state.mask a.state.depth (omega arith) (omega arith) (omega arith) (omega arith) c.if-code-eq2.false c.if-code-lt4.true

pub returns-then-code-ge8 : goal.returns-then-code-ge8
returns-then-code-ge8 c = let a = c.args in merged-open a.nums.now a.n a.j a.state.mask a.state.depth (omega arith) (omega arith) (omega arith) (omega arith) c.if-code-ge8.true

pub returns-then-mask-bit-eq0 : goal.returns-then-mask-bit-eq0
returns-then-mask-bit-eq0 c = let a = c.args in merged-fresh a.nums.now a.n a.j a.state.mask a.state.depth (omega arith) (omega arith) (omega arith) (omega arith) c.if-code-lt4.false c.if-code-ge8.false _ (c.bit-bit.ensures ∙ bit-numbered _ _ c.of_code.ensures) c.if-mask-bit-eq0.true

pub bounds-nums-n-3 : goal.bounds-nums-n-3
bounds-nums-n-3 c = let a = c.args in omega (arith, length-set a.nums.now (3 * a.n + 3 + a.state.depth) (a.state.mask + 16))

pub returns : goal.returns
returns c = let a = c.args in merged-again a.nums.now a.n a.j a.state.mask a.state.depth (omega arith) (omega arith) (omega arith) (omega arith) c.if-code-lt4.false c.if-code-ge8.false _ (c.bit-bit.ensures ∙ bit-numbered _ _ c.of_code.ensures) c.if-mask-bit-eq0.false
