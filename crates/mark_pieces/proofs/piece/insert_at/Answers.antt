use native.Mathlib.Omega.{arith}
use Rattle.mark_pieces.proofs.Pieces.{insert-done, inserts-full, cells-long}
use Rattle.mark_pieces.proofs.piece.insert_at.Goals as goal

pub returns-then-bytes-at : goal.returns-then-bytes-at
returns-then-bytes-at c = let a = c.args in
    let l = cells-long a.bytes.now a.numbers.now (omega arith) in
    inserts-full _ _ _ _ _ (omega arith) (omega arith) (omega arith)

pub returns : goal.returns
returns c = let a = c.args in
    rw (c.copy_within.ensures.after, c.copy_within-2.ensures.after) (insert-done a.bytes.now a.numbers.now a.p.0 a.at.0 c.requires.1 (omega arith) c.requires.0 a.b)
