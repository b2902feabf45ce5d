use native.Mathlib.Omega.{arith}
use mathlib.Core.Path.{sym, ap, ◌∙◌}
use lib.Seq.{length-take-le}
use Rattle.quote_tags.specs.Masks.{visible}
use Rattle.quote_lines.proofs.search.read_lines.Goals as goal

pub slice_bounds-read_tags-end-2 : goal.slice_bounds-read_tags-end-2
slice_bounds-read_tags-end-2 c = let e = length-take-le c.mask_all-size.result c.mask_all-size.new.buf (omega (arith, c.mask_all-size.ensures.0, c.mask_all-size.auto.buf, c.set_source.auto.work, c.requires)) in
    sym e

pub read_tags-count-requires : goal.read_tags-count-requires
read_tags-count-requires c = let e = length-take-le c.mask_all-size.result c.mask_all-size.new.buf (omega (arith, c.mask_all-size.ensures.0, c.mask_all-size.auto.buf, c.set_source.auto.work, c.requires)) in
    (omega (arith, e, c.mask_all-size.ensures.0, c.requires), omega (arith, e, c.mask_all-size.ensures.0, c.requires))

pub returns : goal.returns
returns c = record { short = c.mask_all-size.ensures.0; masked = c.mask_all-size.ensures.1 ∙ ap visible c.set_source.ensures; table = c.read_tags-count.ensures.0 }
