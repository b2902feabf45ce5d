use mathlib.Core.Path.{◌≡◌}
use Prim.Native.Nat.{◌-◌, ◌≤◌}
use lib.ListN.{length, take, drop}
use Rattle.quote_tags.specs.Tags.{NextBracket}
use Rattle.quote_lines.specs.Lines.{tags}
use Rattle.quote_losses.specs.Losses.{FewAt}
use Rattle.quote_losses.proofs.Recording.{Recorded}
use Rattle.quote_losses.proofs.Depths.{Deepening}
use Rattle.quote_losses.proofs.loss.list_losses.Given as goal

abbrev pub invariant-loop-listing : goal.invariant-loop-listing
invariant-loop-listing l = (l.listing.at.0 ≤ length l.source)
    × NextBracket l.source l.listing.at.0 l.listing.bracket.0
    × FewAt l.listing.at.0 l.listing.quote l.listing.counts.losses l.listing.counts.bytes
    × Recorded l.source (tags 1 0 l.post) (take l.base l.initial.numbers) l.initial.loss_bytes (take l.base l.numbers) l.loss_bytes l.listing.at.0 l.listing.quote l.listing.next l.listing.counts.losses l.listing.counts.bytes
    × (drop l.base l.numbers ≡ drop l.base l.initial.numbers)
    × (length l.numbers ≡ length l.initial.numbers)
    × Deepening l.source l.listing.at.0 l.listing.«open»

abbrev pub decreases-loop-listing : goal.decreases-loop-listing
decreases-loop-listing l = length l.source - l.listing.at.0
