use native.Mathlib.Omega.{arith}
use Rattle.list_blocks.proofs.Kept.{blocked-none, blocked-some}
use Rattle.list_blocks.proofs.block.put_next.Goals as goal

pub returns-then-x-y : goal.returns-then-x-y
returns-then-x-y c = blocked-none _ _ _ _ _ _ _ c.trim.ensures.text (omega arith)

pub returns : goal.returns
returns c = let o = c.trim.ensures.order in
    blocked-some c.args.w.now _ _ _ _ _ c.trim.ensures.text (omega arith) (omega arith) (omega arith) c.put_blanks.ensures c.put_item.ensures
