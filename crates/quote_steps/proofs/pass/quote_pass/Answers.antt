use borrow.Author.Rules.{rules}
use Rattle.quote_steps.proofs.Passing.{pass-done}
use Rattle.quote_steps.proofs.pass.quote_pass.Goals as goal

pub returns : goal.returns
returns c = let t = rw c.in_ok-reached.was at c.take_tokens.ensures in
    let h = pass-done _ c.take_tokens.new.self c.close_open.new.self t.runs.1 _ t.same c.close_open.ensures.closed in
    let s = c.close_open.ensures.same in search rules
