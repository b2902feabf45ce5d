use native.Mathlib.Omega.{arith}
use Prim.Native.Nat.{◌+◌}
use native.Mathlib.Nat.{le_refl}
use Rattle.text.proofs.Writers.{wrote-then, wrote-by, text-on}
use Rattle.list_blocks.proofs.Kept.{kept_table}
use Rattle.list_steps.proofs.Within.{closing-in}
use Rattle.list_steps.proofs.close.Machine.put_closing.Goals as goal

pub put_block-requires : goal.put_block-requires
put_block-requires c = let fr = c.requires.0 in
    let p = c.put_blanks.ensures in
    let g = p.text.appends.grows in
    let z = c.requires.1 in
    let s = p.same in (
      (fr.inner.1, omega (arith, fr.fits.1.1, fr.short)),
      record {
        table = (omega (arith, fr.fits.1.1), λ _. omega (arith, z.1, fr.inner.0));
        rises = rw (kept_table p.text (c.args.self.first.0 + 2) (c.args.self.first.0 + 2) c.args.self.top.0 (λ _. omega (arith, z.1, fr.inner.0)) (le_refl (c.args.self.first.0 + 2))) fr.rises;
        parts = (omega (arith, z.0.0, g), omega (arith, z.0));
      },
    )

pub returns : goal.returns
returns c = let p = c.put_blanks.ensures in
    let q = c.put_block.ensures in
    let r = c.put_blanks-2.ensures in
    wrote-by (wrote-then (wrote-then p q) r)
    (closing-in c.args.areas.table.0 c.args.self.at.0 c.args.self.top.0 c.args.self.first.0 c.requires.0 c.requires.1.0.0 c.requires.1.1 c.feeds_before-before.ensures c.feeds_behind.ensures c.from-kind.ensures.0 c.from-kind.ensures.1 p.text (text-on p q) (text-on (wrote-then p q) r))
