use Rattle.std.proofs.Common.{arith, rules, ◌≡◌, ◌+◌, ◌-◌}
use Rattle.text.proofs.Writing.{part_end}
use Rattle.text.proofs.Areas.{appends_in-none, appends_in-pasted, appends_in-copied, part-over}
use Rattle.text.proofs.area.append_run.Goals as goal
use Rattle.text.proofs.area.append_run.Goals.{then-min-ge15, else-min-ge15+then-n-gt0, else-min-ge15+else-n-gt0}

pub returns-then-room-n : goal.returns-then-room-n
returns-then-room-n c = part-over _ _ _ _ _ (omega arith) (omega arith) (omega arith) (omega arith) (omega arith) (omega arith) (omega arith) (omega arith)

pub returns : goal.returns
returns c =
    let a = c.args in
    elim c.if-min-ge15.branch [
      | then-min-ge15 w ↦
          rw (w.buf-is, w.nums-is)
          (appends_in-pasted a.buf.now a.nums.now a.a a.e (omega arith) (omega arith) (omega arith) (omega arith) (omega arith) (omega arith) (search rules) (search rules) (omega arith)
          w.copy_blocks.ensures.0 w.copy_blocks.ensures.1)
      | else-min-ge15+then-n-gt0 w ↦
          rw (w.buf-is, w.nums-is)
          (appends_in-copied a.buf.now a.nums.now a.a a.e (omega arith) (omega arith) (omega arith) (omega arith) (omega arith) (omega arith) w.copy_short.auto.buf w.copy_short.auto.nums
          w.copy_short.ensures.0 w.copy_short.ensures.1)
      | else-min-ge15+else-n-gt0 w ↦
          (let e : a.at.0 + (a.e - a.a) ≡ a.at.0 = omega arith in
          rw (w.buf-is, w.nums-is, part_end a.a a.e _ (omega arith), e) (appends_in-none _ _ _ _))
    ]
