use Prim.Native.Nat.{◌-◌}
use Rattle.quote_lines.proofs.Finding.{Finding}
use Rattle.quote_lines.specs.Lines.{tags}
use Rattle.quote_lines.proofs.search.Tags.find.Given as goal

abbrev pub invariant-loop-i : goal.invariant-loop-i
invariant-loop-i l = Finding (tags 1 0 l.self.text.now) l.next l.attribution l.i

abbrev pub decreases-loop-i : goal.decreases-loop-i
decreases-loop-i l = l.self.count - l.i
