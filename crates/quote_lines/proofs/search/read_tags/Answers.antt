use native.Mathlib.Omega.{arith}
use mathlib.Core.Path.{◌∙◌}
use Prim.Native.Nat.{◌+◌, ◌*◌}
use Rattle.quote_lines.proofs.Tabling.{tabled-end, take_less}
use Rattle.quote_lines.proofs.search.read_tags.Goals as goal

pub returns : goal.returns
returns c = let l = c.loop-st in
    let p = c.put_weights in
    (tabled-end _ _ _ _ _ _ l.invariant.4 (omega (arith, c.loop-st-test.false)) (omega (arith, l.invariant.0)) _ (omega (arith, p.auto.numbers, l.invariant.2, c.requires.1)) p.ensures, take_less (c.args.t + 3 * l.st.count) c.args.t _ _ p.ensures.1 (omega arith) ∙ l.invariant.3)
