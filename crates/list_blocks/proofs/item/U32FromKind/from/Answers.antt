use mathlib.Core.Path.{◌≡◌}
use mathlib.Core.Bool.{Bool, true, false}
use Prim.Native.Nat.{ℕ, ◌+◌, ◌*◌}
use native.Mathlib.Omega.{arith}
use mir.Val.{bool_byte}
use Rattle.list_blocks.specs.Blocks.{kind_of}
use Rattle.list_blocks.proofs.item.U32FromKind.from.Goals as goal

number : (o s : Bool) (a b : ℕ) → a ≡ bool_byte o → b ≡ bool_byte s → 2 * a + b ≡ kind_of o s
unfolding kind_of
number true true a b p q = omega arith
number true false a b p q = omega arith
number false true a b p q = omega arith
number false false a b p q = omega arith

pub returns : goal.returns
returns c = number _ _ _ _ c.from.ensures c.from-2.ensures
