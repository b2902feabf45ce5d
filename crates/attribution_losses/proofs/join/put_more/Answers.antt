use Rattle.attribution_losses.proofs.Joining.{put-nothing, put-field, put_first, put_next}
use Rattle.attribution_losses.proofs.join.put_more.Goals as goal
use Rattle.attribution_losses.proofs.join.put_more.Goals.{then-keylen-ne0-via-then-keylen-ne0, then-keylen-ne0-via-else-keylen-ne0+then-text-eq0}

pub returns-then-keylen-ne0 : goal.returns-then-keylen-ne0
returns-then-keylen-ne0 c = let a = c.args in elim c.then-keylen-ne0.branch [
  | then-keylen-ne0-via-then-keylen-ne0 w ↦ put-field a.work.now a.keylen a.text.from a.text.size a.start a.at w.if-keylen-ne0.true
  | then-keylen-ne0-via-else-keylen-ne0+then-text-eq0 w ↦ put-nothing a.work.now a.keylen a.text.from a.text.size a.start a.at w.if-keylen-ne0.false w.if-text-eq0.true
]

pub returns-then-start-at : goal.returns-then-start-at
returns-then-start-at c = let a = c.args in put_next a.work.now a.keylen a.text.from a.text.size a.start a.at c.if-keylen-ne0.false c.if-text-eq0.false c.requires.0 c.requires.1.0 c.if-start-at.true _ _ _ _ c.put-e.ensures c.put_within.ensures

pub returns : goal.returns
returns c = let a = c.args in put_first a.work.now a.keylen a.text.from a.text.size a.start a.at c.if-keylen-ne0.false c.if-text-eq0.false c.requires.1.0 c.if-start-at.false _ _ c.put_within-2.ensures
