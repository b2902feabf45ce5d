use Rattle.quote_steps.proofs.Memories.{same-then}
use Rattle.quote_steps.proofs.Passing.{all_end, all-place, all-on, all-full}
use Rattle.quote_steps.proofs.close.Memory.close_open.Goals as goal

pub returns-then-m-to-clause-closed : goal.returns-then-m-to-clause-closed
returns-then-m-to-clause-closed c = let v = c.loop-quote.invariant in
    let q = c.close_innermost-to.ensures in
    let o = rw c.in-Some.is at c.pop.ensures in
    all-full _ _ _ v.closing v.same v.place.1 o q.closed q.same c.if-m-to.true

pub loop-quote-preserved : goal.loop-quote-preserved
loop-quote-preserved c = let v = c.loop-quote.invariant in
    let q = c.close_innermost-to.ensures in
    let o = rw c.in-Some.is at c.pop.ensures in record {
      same = same-then v.same q.same;
      place = (all-place _ _ _ v.closing v.same v.place.1 o q.closed q.same, c.if-m-to.false);
      closing = all-on _ _ _ v.closing v.same v.place.1 o q.closed q.same _ c.max-need.ensures;
    }

pub returns-clause-closed : goal.returns-clause-closed
returns-clause-closed c = let v = c.loop-quote.invariant in
    let e = rw c.in_default.is at c.pop.ensures in
    all_end _ _ _ v.closing v.same v.place.1 e.0 _ c.max.ensures
