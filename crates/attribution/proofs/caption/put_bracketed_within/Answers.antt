use mathlib.Core.Path.{ap}
use Rattle.attribution.proofs.Captioning.{bracketed-is}
use Rattle.text.proofs.Writers.{wrote-as, wrote-then, cut-after}
use Rattle.text.specs.Cells.{written}
use Rattle.attribution.proofs.caption.put_bracketed_within.Goals as goal

pub returns : goal.returns
returns c = let p = c.put_sign.ensures in
    wrote-as (bracketed-is _) (wrote-then (wrote-then p (wrote-as (ap written (cut-after p _ _ c.requires.1)) c.put_within.ensures)) c.put_sign-2.ensures)
