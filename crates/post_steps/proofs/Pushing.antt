-- What the text that the quote pass writes pushes on the list pass's table of open lists, beside the records of the losses. Assumes nothing.
use mathlib.Core.List.{List}
use Prim.Native.Nat.{◌+◌, ◌*◌, ◌≤◌}
use native.Mathlib.Omega.{arith}
use lib.ListN.{length}
use Rattle.text.specs.Cells.{Cell}
use Rattle.attribution_parts.specs.Attribution.{caption}
use Rattle.quote_blocks.specs.Quotes.{quotes}
use Rattle.quote_losses.specs.Losses.{quote_losses}
use Rattle.quote_losses.proofs.Bounds.{losses-room}
use Rattle.list_blocks.specs.Tags.{tokens, pushes}
use Rattle.list_blocks.proofs.Pushes.{pushes-brackets}

-- five numbers for each loss and what a quoted text pushes are five at most for each cell of the text that quotes read
pub lost-pushes : (x : List Cell) → 5 * length (quote_losses x) + pushes (tokens 0 (quotes caption x)) ≤ 5 * length x
lost-pushes x = omega (arith, pushes-brackets (quotes caption x), losses-room x)
