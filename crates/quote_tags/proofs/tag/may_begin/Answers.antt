use Rattle.quote_tags.proofs.Plain.{not-begun}
use Rattle.quote_tags.proofs.tag.may_begin.Goals as goal

pub returns : goal.returns
returns c = let a = c.args in not-begun a.s.now a.i c.byte_at-b.ensures c.byte_at-c.ensures
