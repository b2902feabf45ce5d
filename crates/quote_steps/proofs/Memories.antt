-- Laws of what stays of the memory in which the pass stands. Assumes nothing.
use mathlib.Core.Path.{refl, ◌∙◌}
use Prim.Native.Nat.{◌≤◌}
use native.Mathlib.Omega.{arith}
use lib.ListN.{length}
use Rattle.quote_steps.specs.declared.close.Memory.{Memory}
use Rattle.quote_steps.specs.Memories.{Same}

pub same-none : (m : Memory) → Same m m
same-none m = record { work = refl; numbers = refl; work-size = refl; numbers-size = refl; areas = refl }

pub same-then : {m m₁ m₂ : Memory} → Same m m₁ → Same m₁ m₂ → Same m m₂
same-then p q = record { work = q.work ∙ p.work; numbers = q.numbers ∙ p.numbers; work-size = q.work-size ∙ p.work-size; numbers-size = q.numbers-size ∙ p.numbers-size; areas = q.areas ∙ p.areas }

-- the contents' area is within what is lent

module _ {m n : Memory} (s : Same m n) where
  pub end-bytes : m.areas.end.0 ≤ length n.work.now
  end-bytes = let l = m.lent in let z = s.work-size in omega arith

  pub end-numbers : m.areas.end.0 ≤ length n.numbers.now
  end-numbers = let l = m.lent in let z = s.numbers-size in omega arith
