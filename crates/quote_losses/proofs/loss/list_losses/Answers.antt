use native.Mathlib.Omega.{arith}
use mathlib.Core.Path.{refl, ◌∙◌}
use Rattle.quote_losses.proofs.Recording.{recorded, recorded-on, recorded-end, same-table}
use Rattle.quote_losses.proofs.Depths.{deepening, deepening-on, deep-end}
use Rattle.quote_losses.proofs.loss.list_losses.Goals as goal

pub loop-listing-init : goal.loop-listing-init
loop-listing-init c = (omega arith, λ _. c.next_bracket.ensures, record { quotes = omega arith; losses = omega arith; bytes = omega arith }, recorded _ _ _ _, refl, refl, deepening _)

pub list_token-listing-requires : goal.list_token-listing-requires
list_token-listing-requires c = let v = c.loop-listing.invariant in
    ((c.loop-listing-test.true, c.requires.0), (((v.1, v.6.few), v.2), (same-table _ _ _ _ v.4 c.requires.1.0, omega (arith, c.requires.1.1, v.5))))

pub loop-listing-preserved : goal.loop-listing-preserved
loop-listing-preserved c = let v = c.loop-listing.invariant in
    let z = c.list_token-listing.ensures in
    (z.0.0.0.1, z.0.0.1.0, z.0.0.1.1, recorded-on _ _ _ _ _ _ _ _ _ _ _ v.3 z.0.1, z.1.0 ∙ v.4, c.list_token-listing.auto.numbers ∙ v.5, deepening-on v.6 z.1.1.0 z.1.1.1.0 z.1.1.1.1)

pub returns : goal.returns
returns c = let v = c.loop-listing.invariant in
    (recorded-end _ _ _ _ _ _ _ _ _ _ _ v.3 c.loop-listing-test.false v.0 v.2, deep-end v.6 c.loop-listing-test.false)
