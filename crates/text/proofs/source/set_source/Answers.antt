use mathlib.Core.Path.{◌≡◌, ◌∙◌}
use native.Mathlib.Omega.{arith}
use lib.ListN.{length}
use lib.Seq.{take_all}
use Rattle.text.proofs.source.set_source.Goals as goal

pub returns : goal.returns
returns c = let l = c.loop-i in
    let e : l.i ≡ length c.args.text.now = omega arith in
    rw (← e) (l.invariant.1 ∙ take_all l.i _ (omega arith))
