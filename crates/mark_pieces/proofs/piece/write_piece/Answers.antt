use mathlib.Core.Path.{refl}
use Rattle.text.proofs.Writers.{wrote-then, wrote-by, text-on}
use Rattle.mark_pieces.proofs.Besides.{piece-in}
use Rattle.mark_pieces.proofs.piece.write_piece.Goals as goal

pub returns : goal.returns
returns c = let w = c.args.w.now in
    let s = c.source-src.ensures in
    let p = c.put_backslash.ensures in
    let q = c.copy_escaped.ensures in
    wrote-by (wrote-then p q) (piece-in w.bytes.now w.numbers.now c.args.a.0 c.args.e.0 c.requires.0.0 c.requires.1.0 c.requires.1.1 c.args.guarded c.args.touches _ _ c.requires.0.1 (rw s refl) (rw s at c.escapes_last-escape.ensures)
    p.text (text-on p q))
