use mathlib.Core.Path.{◌≡◌}
use Prim.Native.Nat.{◌-◌, ◌≤◌}
use lib.ListN.{length, take}
use Rattle.quote_lines.specs.Tables.{Tabled}
use Rattle.quote_tags.specs.Tags.{NextBracket}
use Rattle.quote_lines.proofs.search.read_tags.Given as goal

abbrev pub invariant-loop-st : goal.invariant-loop-st
invariant-loop-st l = (l.st.at.0 ≤ length l.s) × NextBracket l.s l.st.at.0 l.st.bracket.0 × (length l.numbers ≡ length l.initial.numbers) × (take l.t l.numbers ≡ take l.t l.initial.numbers) × Tabled l.s l.numbers l.t l.st.at.0 l.st.line l.st.count

abbrev pub decreases-loop-st : goal.decreases-loop-st
decreases-loop-st l = length l.s - l.st.at.0
