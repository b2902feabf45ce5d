use borrow.Author.Rules.{rules}
use native.Mathlib.Omega.{arith}
use mathlib.Core.Path.{ap, ◌∙◌}
use Prim.Native.Nat.{ℕ}
use Rattle.mark_tags.specs.Marks.{kind_of}
use Rattle.mark_tags.specs.Flat.{letter_number}
use lib.Bits.{bit_or, and_le_r}
use Rattle.mark_tags.proofs.TagNumbers.{packed-small, letter-unpacked}
use Rattle.mark_tags.proofs.tags.kind_of.Goals as goal

pub overflow_mul-kind : goal.overflow_mul-kind
overflow_mul-kind c = let h = and_le_r (bit_or c.from-small.result 32) 15 in search rules

pub overflow_shr-kind : goal.overflow_shr-kind
overflow_shr-kind c = let h = and_le_r (bit_or c.from-small.result 32) 15 in omega arith

pub overflow_mul-letter : goal.overflow_mul-letter
overflow_mul-letter c = let h = packed-small (bit_or c.from-small.result 32) in search rules

pub overflow_shr-letter : goal.overflow_shr-letter
overflow_shr-letter c = let h = packed-small (bit_or c.from-small.result 32) in omega arith

pub returns : goal.returns
returns c = c.select_unpredictable.ensures ∙ letter-unpacked c.from-small.result (let e = c.from-small.ensures in omega arith) ∙ ap (λ (x : ℕ). letter_number (kind_of x)) c.from-small.ensures
