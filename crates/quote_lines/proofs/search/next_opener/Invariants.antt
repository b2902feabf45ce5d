use Prim.Native.Nat.{◌-◌}
use lib.ListN.{length}
use Rattle.quote_tags.specs.Tags.{NextBracket}
use Rattle.quote_lines.specs.Tables.{Untagged}
use Rattle.quote_lines.proofs.search.next_opener.Given as goal

abbrev pub invariant-loop-i : goal.invariant-loop-i
invariant-loop-i l = Untagged l.s l.initial.i l.i × NextBracket l.s l.i l.bracket.0

abbrev pub decreases-loop-i : goal.decreases-loop-i
decreases-loop-i l = length l.s - l.i
