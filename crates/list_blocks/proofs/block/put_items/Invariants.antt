use Prim.Native.Nat.{◌+◌, ◌-◌, ◌≤◌}
use Rattle.list_blocks.specs.Blocks.{between, Rises}
use Rattle.list_blocks.proofs.BlockLaws.{to_write}
use Rattle.text.proofs.Writers.{Writing}
use Rattle.list_blocks.proofs.Kept.{seen}
use Rattle.list_blocks.proofs.block.put_items.Given as goal

abbrev pub invariant-loop-i : goal.invariant-loop-i
invariant-loop-i l = (l.held ≤ 1 + l.i - l.k.0) × Rises (between l.i l.last.0 l.initial.w.numbers.now) l.e.0
    × Writing l.initial.w l.w (to_write l.kind.ordered l.kind.second l.held (l.i - l.k.0 + 1) l.i l.last.0 l.e.0 l.initial.w.numbers.now (seen l.initial.w)) (to_write l.kind.ordered l.kind.second l.initial.held 1 l.k.0 l.last.0 l.e.0 l.initial.w.numbers.now (seen l.initial.w))
