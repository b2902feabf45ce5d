use Prim.Native.Nat.{◌-◌}
use Rattle.list_blocks.proofs.ItemWriting.{later_from}
use Rattle.text.proofs.Writers.{Writing}
use Rattle.list_blocks.proofs.Kept.{seen}
use Rattle.list_blocks.proofs.item.put_later_lines.Given as goal

abbrev pub invariant-loop-i : goal.invariant-loop-i
invariant-loop-i l = Writing l.initial.w l.w (later_from l.width l.i l.e.0 (seen l.initial.w)) (later_from l.width l.initial.i l.e.0 (seen l.initial.w))

abbrev pub decreases-loop-i : goal.decreases-loop-i
decreases-loop-i l = l.e.0 - l.i
