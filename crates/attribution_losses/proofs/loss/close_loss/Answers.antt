use native.Mathlib.Omega.{arith}
use mathlib.Core.Path.{◌≡◌}
use Prim.Native.Nat.{◌+◌, ◌*◌}
use Rattle.attribution_losses.specs.Lists.{flag}
use Rattle.attribution_losses.proofs.Listing.{no_record, one-record, flag-is}
use Rattle.attribution_losses.proofs.loss.close_loss.Goals as goal

pub returns-then-start-end : goal.returns-then-start-end
returns-then-start-end c = let a = c.args in no_record a.records.now a.k _ _ _ a.start a.end c.if-start-end.true

pub returns : goal.returns
returns c =
    let a = c.args in
    let e : c.put.result ≡ 5 * (a.k + 1) = omega (arith, c.put.ensures.end) in
    one-record a.records.now _ a.k _ _ (flag a.unnamed) a.start a.end c.if-start-end.false c.requires.1.0 (rw (e, c.from.ensures, flag-is) at c.put.ensures)
