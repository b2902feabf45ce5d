use native.Mathlib.Omega.{arith}
use mathlib.Core.Path.{◌≡◌}
use borrow.Author.Tests.{eqb-true}
use Rattle.text.proofs.Bytes.{both}
use Rattle.mark_writing.proofs.OneTextLaws.{one-text}
use Rattle.mark_writing.proofs.look.Items.is_one_text.Goals as goal

pub returns : goal.returns
returns c e =
    let t = both _ _ e in
    let z : c.code.result ≡ 2 = eqb-true _ _ t.1 in
    one-text _ _ _ _ (let l = c.if-self-from.false in omega arith) (c.is_text.ensures t.0) (rw c.code.ensures at z)
