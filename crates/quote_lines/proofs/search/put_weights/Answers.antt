use native.Mathlib.Omega.{arith}
use mathlib.Core.Path.{ap, ◌∙◌}
use mathlib.Core.List.{List}
use Prim.Native.Nat.{ℕ}
use Rattle.quote_lines.specs.Lines.{bare}
use Rattle.quote_lines.specs.Tables.{weight}
use Rattle.quote_lines.proofs.Tabling.{weighing-on, weighing-end}
use Rattle.quote_lines.proofs.search.put_weights.Goals as goal

pub loop-i-preserved : goal.loop-i-preserved
loop-i-preserved c = weighing-on c.loop-i.invariant (omega arith) c.requires.0.1 (c.bare_weight.ensures.0 ∙ ap (λ (y : List ℕ). weight (bare y)) c.words_at-words.ensures.0)

pub returns : goal.returns
returns c = weighing-end c.loop-i.invariant (omega arith)
