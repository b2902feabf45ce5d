use Rattle.text.proofs.Writers.{wrote-then, wrote-by, text-on}
use Rattle.mark_pieces.proofs.Besides.{escaped-in, unescaped-in}
use Rattle.mark_pieces.proofs.piece.copy_escaped.Goals as goal

pub returns-then-escape : goal.returns-then-escape
returns-then-escape c = let w = c.args.w.now in
    let p = c.copy_back.ensures in
    let q = wrote-then p c.put_sign.ensures in
    let r = c.copy_back-then-escape.ensures in
    wrote-by (wrote-then q r) (escaped-in w.bytes.now w.numbers.now c.args.a.0 c.args.e.0 c.requires.0.0 c.requires.1.0 c.requires.1.1 c.args.escape c.requires.0.1 c.if-escape.true
    p.text (text-on p c.put_sign.ensures) (text-on q r))

pub returns-else-escape : goal.returns-else-escape
returns-else-escape c = let w = c.args.w.now in
    let p = c.copy_back-else-escape.ensures in
    wrote-by p (unescaped-in w.bytes.now w.numbers.now c.args.a.0 c.args.e.0 c.requires.0.0 c.requires.1.0 c.requires.1.1 c.args.escape c.if-escape.false p.text)
