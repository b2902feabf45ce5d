use native.Mathlib.Omega.{arith}
use mathlib.Core.Path.{◌≡◌, refl}
use Prim.Native.Nat.{◌+◌, ◌-◌}
use Rattle.list_blocks.proofs.BlockLaws.{rises_next}
use Rattle.list_blocks.proofs.Kept.{items-here, items-turn, items-done}
use Rattle.list_blocks.proofs.block.put_items.Goals as goal

pub bounds-w-i : goal.bounds-w-i
bounds-w-i c = let z = c.requires.1 in
    let v = c.loop-i.invariant in
    let h = items-here c.args.w.now c.loop-i.w v.2.wrote c.args.k.0 c.loop-i.i c.args.last.0 c.args.e.0 (omega arith) (omega arith) z.table.0 z.table.1 v.1 in
    omega arith

pub place_of-b-requires : goal.place_of-b-requires
place_of-b-requires c = let z = c.requires.1 in
    let v = c.loop-i.invariant in
    (items-here c.args.w.now c.loop-i.w v.2.wrote c.args.k.0 c.loop-i.i c.args.last.0 c.args.e.0 (omega arith) (omega arith) z.table.0 z.table.1 v.1).0

pub put_next-held-requires : goal.put_next-held-requires
put_next-held-requires c = let z = c.requires.1 in
    let v = c.loop-i.invariant in
    let h = (items-here c.args.w.now c.loop-i.w v.2.wrote c.args.k.0 c.loop-i.i c.args.last.0 c.args.e.0 (omega arith) (omega arith) z.table.0 z.table.1 v.1).1 in
    let q = c.place_of-b.ensures in
    let g = v.2.wrote.text.appends.grows in
    let e = v.2.wrote.same.end in
    ((omega arith, (omega arith, omega arith)), omega arith)

pub loop-i-preserved : goal.loop-i-preserved
loop-i-preserved c = let z = c.requires.1 in
    let v = c.loop-i.invariant in
    let b = c.put_next-held.ensures in
    let n : c.loop-i.i + 1 - c.args.k.0 + 1 ≡ c.loop-i.i - c.args.k.0 + 1 + 1 = omega arith in (
      (let f = b.few in omega arith),
      rises_next c.loop-i.i c.args.last.0 c.args.e.0 _ (omega arith) z.table.0 v.1,
      rw n (items-turn c.args.w.now c.loop-i.w c.args.kind.ordered c.args.kind.second c.loop-i.held c.put_next-held.result (c.loop-i.i - c.args.k.0 + 1) c.args.k.0 c.loop-i.i c.args.last.0 c.args.e.0 _ _ (omega arith) (omega arith) z.table.0 z.table.1 z.parts.0 v.1 refl c.place_of-b.ensures v.2 b),
    )

pub returns : goal.returns
returns c = items-done _ _ _ _ _ _ _ _ _ (omega arith) c.loop-i.invariant.2
