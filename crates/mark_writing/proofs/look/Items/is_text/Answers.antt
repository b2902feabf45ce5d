use mathlib.Core.Path.{◌≡◌}
use Prim.Native.Nat.{◌<◌}
use borrow.Author.Tests.{eqb-true, ltb-true}
use Rattle.text.proofs.Bytes.{both}
use Rattle.mark_writing.proofs.look.Items.is_text.Goals as goal

pub returns : goal.returns
returns c e =
    let t = both _ _ e in
    let z : c.code.result ≡ 0 = eqb-true _ _ t.0 in
    let l : c.bound.result < c.bound-2.result = ltb-true _ _ t.1 in
    record { code = rw c.code.ensures at z; some = rw (c.bound.ensures, c.bound-2.ensures) at l }
