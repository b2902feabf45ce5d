-- The losses of a text, with the `]` that quotes keep, are no more than its bytes, and their fields no longer than two times its bytes. Assumes nothing.
use mathlib.Core.List.{List, [], ◌∷◌}
use Prim.Native.Nat.{ℕ, ◌+◌, ◌*◌, ◌≤◌}
use native.Mathlib.Omega.{arith}
use lib.ListN.{length}
use Rattle.text.specs.Cells.{Cell, bytes}
use Rattle.text.proofs.Bracketing.{brackets}
use Rattle.attribution_parts.specs.Attribution.{caption, losses}
use Rattle.attribution_losses.specs.Lists.{loss_words}
use Rattle.attribution_losses.proofs.Bounds.{Small, append-small, losses-small}
use Rattle.quote_blocks.specs.Quotes.{attributions, quotes}
use Rattle.quote_blocks.proofs.Bracketing.{sizes, quotes-room}
use Rattle.quote_losses.specs.Losses.{losses_in, quote_losses, loss_bytes}

-- the losses of attributions
in_small : (names : List (List ℕ)) → Small (losses_in names) (sizes names) (2 * sizes names)
unfolding losses_in sizes loss_words
in_small [] = record { few = omega arith; short = omega arith }
in_small (a ∷ later) = append-small (losses a) (losses_in later) (losses-small a) (in_small later) (omega arith) (omega arith)

-- a loss and a `]` that quotes keep are different cells of the text
pub losses-room : (x : List Cell) → length (quote_losses x) + brackets (bytes (quotes caption x)) ≤ length x
unfolding quote_losses
losses-room x = omega (arith, (in_small (attributions x)).few, quotes-room x)

-- the losses of a text and their fields
pub quote-losses-small : (x : List Cell) → (length (quote_losses x) ≤ length x) × (length (loss_bytes x) ≤ 2 * length x)
unfolding quote_losses loss_bytes
quote-losses-small x = (omega (arith, losses-room x), omega (arith, (in_small (attributions x)).short, quotes-room x))
