use Rattle.attribution.proofs.Captioning.{bracketed-is}
use Rattle.text.proofs.Writers.{wrote-as, wrote-then}
use Rattle.attribution.proofs.caption.put_bracketed.Goals as goal

pub returns : goal.returns
returns c = wrote-as (bracketed-is _) (wrote-then (wrote-then c.put_sign.ensures c.put_text.ensures) c.put_sign-2.ensures)
