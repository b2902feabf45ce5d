use Rattle.attribution_reading.proofs.Ids.{id-at}
use Rattle.attribution_reading.proofs.facts.read_facts.Goals as goal

pub returns : goal.returns
returns c = let l = c.leading_id-lead.ensures in
    let f = c.read_fields-fields.ensures in
    (f, (l, rw c.id_of.ensures (id-at _ _ _ f l)))
