use native.Mathlib.Omega.{arith}
use Rattle.mark_pieces.proofs.Listing.{listed}
use Rattle.mark_pieces.proofs.mark.put_span.Goals as goal

pub returns-then-e-spans : goal.returns-then-e-spans
returns-then-e-spans c = λ r.
    let a = c.args in
    let p = c.requires in
    listed a.spans.now _ a.c a.e a.start a.end a.by (omega arith) r c.raise_spans.auto.spans c.raise_spans.ensures
