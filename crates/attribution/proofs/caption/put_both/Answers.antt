use mathlib.Core.Path.{ap}
use Rattle.attribution.proofs.Captioning.{both-put}
use Rattle.text.proofs.Writers.{wrote-as, wrote-then, cut-after}
use Rattle.text.specs.Cells.{written}
use Rattle.attribution.proofs.caption.put_both.Goals as goal

pub returns : goal.returns
returns c = let p = c.put_sign.ensures in
    let q = wrote-then (wrote-then p (wrote-as (ap written (cut-after p _ _ c.requires.0.1)) c.put_within.ensures)) c.put_space.ensures in
    wrote-as (both-put _ _) (wrote-then (wrote-then q (wrote-as (ap written (cut-after q _ _ c.requires.1.1)) c.put_within-2.ensures)) c.put_sign-2.ensures)
