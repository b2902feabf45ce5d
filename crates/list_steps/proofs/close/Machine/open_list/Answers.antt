use native.Mathlib.Omega.{arith}
use mathlib.Core.Path.{refl}
use Rattle.list_steps.proofs.Steppings.{opens-step}
use Rattle.list_steps.proofs.Outside.{stays_then, stays-set}
use Rattle.list_steps.proofs.close.Machine.open_list.Goals as goal

pub returns : goal.returns
returns c = let p = c.requires in
    (λ n w bs y fit hb h g. (opens-step _ _ _ _ _ _ _ p.1.1.0 c.from.ensures n w.base.0 w.end.0 w.table.0 bs y fit hb, stays_then (stays-set _ _ _ h g) (stays_then (stays-set _ _ _ (omega arith) (omega arith)) (stays-set _ _ _ (omega arith) (omega arith)))), refl)
