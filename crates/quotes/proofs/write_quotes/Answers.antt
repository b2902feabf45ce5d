use native.Mathlib.Omega.{arith}
use mathlib.Core.Path.{◌≡◌, refl, ap, ◌∙◌}
use mathlib.Core.List.{[]}
use Rattle.std.proofs.lemmas.Result.{err_from_is_err_and}
use Rattle.lending.specs.declared.lent.Refusal.TheVariants.{NoSpace}
use Rattle.quote_blocks.specs.Quotes.{too_deep}
use Rattle.quotes.proofs.Conversion.{source-taken, written-full, written-done, quoted-within}
use Rattle.quotes.proofs.write_quotes.Goals as goal

pub quote_pass-requires : goal.quote_pass-requires
quote_pass-requires c = let x = c.args in
    let p = c.requires in
    let z = source-taken x.text.now _ _ c.set_cells.ensures in
    let q = c.set_cells.auto in
    ((((omega arith, omega arith), ((omega (arith, p.0.1.0, q.work), omega (arith, p.0.1.1, q.numbers)), (omega arith, (omega arith, omega (arith, p.0.0)))))), ap too_deep z ∙ p.1)

pub returns-in_err-passed : goal.returns-in_err-passed
returns-in_err-passed c = let x = c.args in
    let z = source-taken x.text.now _ _ c.set_cells.ensures in
    let q = c.in_err-passed.ensures in
    let e = err_from_is_err_and c.from_residual.result c.from_residual.ensures.1 in
    let v = rw q.ok_part at q.value in
    let r : c.in_err-passed.field-0.0 ≡ NoSpace = cc in
    rw (e.1, e.2) (written-full x.text.now _ [] _ _ x.out.now x.origins.now z refl x.out.now x.origins.now (rw q.ok_part at c.quote_pass.ensures) r)

pub lay_part-requires : goal.lay_part-requires
lay_part-requires c = let p = c.requires in
    let d = rw c.in_ok-passed.ensures.ok_part at c.quote_pass.ensures in
    let w = quoted-within _ _ _ _ d.0.0 d.1.0 in
    let s = c.set_cells.auto in
    let q = c.quote_pass.auto in
    ((w.0, (omega (arith, w.1, p.0.1.0, s.work, q.work), omega (arith, w.1, p.0.1.1, s.numbers, q.numbers))), (omega (arith, w.1), omega (arith, w.1, p.0.0)))

pub returns : goal.returns
returns c = let x = c.args in
    let z = source-taken x.text.now _ _ c.set_cells.ensures in
    let d = rw c.in_ok-passed.ensures.ok_part at c.quote_pass.ensures in
    let w = quoted-within _ _ _ _ d.0.0 d.1.0 in
    written-done x.text.now _ _ _ _ x.out.now x.origins.now z refl _ d w.1 c.lay_part.ensures
