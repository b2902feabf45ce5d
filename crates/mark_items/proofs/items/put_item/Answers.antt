use native.Mathlib.Omega.{arith}
use mathlib.Core.Path.{refl}
use Prim.Native.Nat.{◌+◌}
use lib.ListN.{length-set}
use Rattle.mark_tags.specs.Flat.{with_item}
use Rattle.mark_items.proofs.items.put_item.Goals as goal

pub bounds-nums-n-2 : goal.bounds-nums-n-2
bounds-nums-n-2 c = let a = c.args in omega (arith, length-set a.nums.now (a.n + a.j + 1) a.end)

pub returns : goal.returns
unfolding with_item
returns c = refl
