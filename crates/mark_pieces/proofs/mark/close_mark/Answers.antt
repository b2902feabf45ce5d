use Rattle.mark_pieces.proofs.Areal.{kept-then, wrote-kept, wrote-area}
use Rattle.mark_pieces.proofs.Wrapping.{becomes-braced, becomes-bare}
use Rattle.mark_pieces.proofs.mark.close_mark.Goals as goal

pub returns-then-braces : goal.returns-then-braces
returns-then-braces c = let i = c.insert.ensures in
    let x = c.put_sign.ensures in
    let y = c.put_sign-then-braces.ensures in
    record { text = rw c.if-braces.true (becomes-braced c.args.d c.requires i.0 (wrote-area x) (wrote-area y)); kept = kept-then i.1 (kept-then (wrote-kept x) (wrote-kept y)) }

pub returns-else-braces : goal.returns-else-braces
returns-else-braces c = let x = c.put_sign-else-braces.ensures in
    record { text = rw c.if-braces.false (becomes-bare c.args.d c.requires (wrote-area x)); kept = wrote-kept x }
