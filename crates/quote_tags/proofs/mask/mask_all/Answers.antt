use native.Mathlib.Omega.{arith}
use mathlib.Core.Path.{sym}
use lib.Seq.{length-take-le}
use Rattle.quote_tags.proofs.mask.mask_all.Goals as goal

pub slice_bounds-has_mask-end-2 : goal.slice_bounds-has_mask-end-2
slice_bounds-has_mask-end-2 c = let a = c.args in sym (length-take-le a.n a.buf.now c.requires)

pub returns-else-has_mask : goal.returns-else-has_mask
returns-else-has_mask c = (omega arith, sym (c.has_mask.ensures c.if-has_mask.false))
