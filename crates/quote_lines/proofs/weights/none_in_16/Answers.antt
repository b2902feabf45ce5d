use native.Mathlib.Omega.{arith}
use mathlib.Core.Path.{◌≡◌}
use Prim.Native.Nat.{◌+◌, ◌-◌}
use Rattle.text.proofs.Bytes.{stands-turn}
use Rattle.quote_lines.proofs.weights.none_in_16.Goals as goal

pub loop-k-preserved : goal.loop-k-preserved
loop-k-preserved c = let l = c.loop-k in
    let a = c.args in
    let x : a.i + (l.k - a.i) ≡ l.k = omega (arith, l.auto.k) in
    let y : l.k - a.i + 1 ≡ l.k + 1 - a.i = omega (arith, l.auto.k) in
    rw y at (rw x at (stands-turn _ a.numbers.now a.i (l.k - a.i) l.stands (omega (arith, x)) l.invariant))
