use native.Mathlib.Omega.{arith}
use mathlib.Core.Path.{refl}
use Prim.Native.Nat.{◌+◌}
use Rattle.list_blocks.proofs.BlockLaws.{rises-here, rises_next, rises-within}
use Rattle.list_blocks.proofs.Kept.{kept_table, block-without, block-with}
use Rattle.list_blocks.proofs.block.put_block.Goals.{then-x-y, else-x-y}
use Rattle.list_blocks.proofs.block.put_block.Goals as goal

pub trim-requires : goal.trim-requires
trim-requires c = let z = c.requires.1 in
    let here = rises-here c.args.k.0 c.args.last.0 c.args.e.0 _ c.requires.0.0 z.table.0 z.rises in
    let up = rises-within c.args.k.0 c.args.last.0 c.args.e.0 _ c.requires.0.0 z.table.0 z.rises in
    let q = c.place_of-b.ensures in
    (omega arith, omega arith)

pub put_lines-requires : goal.put_lines-requires
put_lines-requires c = let z = c.requires.1 in
    let up = rises-within c.args.k.0 c.args.last.0 c.args.e.0 _ c.requires.0.0 z.table.0 z.rises in
    let q = c.place_of-b.ensures in
    let o = c.trim.ensures.order in
    (c.if-x-y.true, (omega arith, omega arith))

pub put_items-requires : goal.put_items-requires
put_items-requires c = let z = c.requires.1 in
    let n = rises_next c.args.k.0 c.args.last.0 c.args.e.0 _ c.requires.0.0 z.table.0 z.rises in
    elim c.if-x-y.branch [
      | then-x-y w ↦
          let p = w.put_lines.ensures in
          let g = p.text.appends.grows in
          let s = p.same in
          let k = kept_table p.text c.args.k.0 (c.args.k.0 + 1) c.args.last.0 z.table.1 (omega arith) in
          rw (w.w-is, w.held-is) (
            (omega arith, omega arith),
            record {
              table = (omega arith, λ d. let y = z.table.1 (omega arith) in omega arith);
              rises = rw k n;
              parts = (omega (arith, z.parts), omega (arith, z.parts));
            },
          )
      | else-x-y w ↦
          rw (w.w-is, w.held-is) (
            (omega arith, omega arith),
            record {
              table = (z.table.0, λ d. let y = z.table.1 (omega arith) in omega arith);
              rises = n;
              parts = z.parts;
            },
          )
    ]

pub returns : goal.returns
returns c = let z = c.requires.1 in
    let t = c.trim.ensures in
    let up = rises-within c.args.k.0 c.args.last.0 c.args.e.0 _ c.requires.0.0 z.table.0 z.rises in
    let q = c.place_of-b.ensures in
    elim c.if-x-y.branch [
      | then-x-y w ↦
          block-with c.args.w.now c.args.kind.ordered c.args.kind.second c.args.k.0 c.args.last.0 c.args.e.0 _ _ _ _ c.requires.0.0 z.table.0 refl q t.text z.table.1 z.parts.0 z.rises w.if-x-y.true (let o = t.order in let f = z.parts.1 in omega arith)
          w.put_lines.ensures (rw (w.w-is, w.held-is) at c.put_items.ensures)
      | else-x-y w ↦
          block-without c.args.w.now c.args.kind.ordered c.args.kind.second c.args.k.0 c.args.last.0 c.args.e.0 _ _ _ _ c.requires.0.0 z.table.0 refl q t.text w.if-x-y.false (rw (w.w-is, w.held-is) at c.put_items.ensures)
    ]
