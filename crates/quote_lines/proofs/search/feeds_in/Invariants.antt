use Prim.Native.Nat.{ℕ}
use Rattle.quote_lines.proofs.Tabling.{Behind}
use Rattle.quote_lines.proofs.search.feeds_in.Given as goal

abbrev pub invariant-loop-i : goal.invariant-loop-i
invariant-loop-i l = (line : ℕ) → Behind l.s l.a l.e line l.i l.feeds
