use Prim.Native.Nat.{◌+◌, ◌-◌, ◌*◌}
use lib.Count.{ones}
use Rattle.mark_pieces.specs.Behind.{area, Kept}
use Rattle.mark_writing.specs.Laid.{source, table}
use Rattle.mark_writing.proofs.SlotWriting.{Drawing}
use Rattle.mark_writing.proofs.slot.+write_mark_write_slot.Given as goal

-- each mark that is entered opens a kind that was not open
abbrev pub decreases-write_mark : goal.decreases-write_mark
decreases-write_mark l = 2 * (4 - ones l.mask)

abbrev pub decreases-write_slot : goal.decreases-write_slot
decreases-write_slot l = 2 * (4 - ones l.mask) + 1

abbrev pub invariant-write_slot-loop-i : goal.invariant-write_slot-loop-i
invariant-write_slot-loop-i l =
    Drawing (source l.text l.fn.w.bytes.now) (table l.text l.fn.w.numbers.now) l.k l.from l.mask (area l.fn.w) l.fn.w.at.0 l.fn.spans l.count (area l.w) l.w.at.0 l.spans l.c l.i l.before l.guarded
    × Kept l.fn.w l.w

abbrev pub decreases-write_slot-loop-i : goal.decreases-write_slot-loop-i
decreases-write_slot-loop-i l = l.k - l.i
