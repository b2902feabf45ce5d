use native.Mathlib.Omega.{arith}
use mathlib.Core.Path.{◌∙◌}
use native.Mathlib.Nat.{add-sub_cancel_left}
use lib.ListN.{length-drop}
use Rattle.attribution_reading.specs.Places.{bytes}
use Rattle.attribution_reading.proofs.Fielding.{length-bytes}
use Rattle.attribution_losses.proofs.Listing.{puts-past, puts-pasted}
use Rattle.attribution_losses.proofs.put.put_within.Goals as goal

pub returns-then-end-work : goal.returns-then-end-work
unfolding bytes
returns-then-end-work c =
    let a = c.args in
    let n = length-drop a.words.from a.work.now in
    puts-pasted a.work.now _ a.at a.words.size c.if-end-work.true (omega (arith, n, c.requires)) _ c.copy_within.ensures.len (c.copy_within.ensures.after ∙ rw (add-sub_cancel_left a.words.from a.words.size))

pub returns-else-end-work : goal.returns-else-end-work
returns-else-end-work c = let a = c.args in let n = length-bytes a.work.now a.words.from a.words.size c.requires.1.0 in puts-past _ _ a.at _ (omega (arith, n)) c.if-end-work.false
