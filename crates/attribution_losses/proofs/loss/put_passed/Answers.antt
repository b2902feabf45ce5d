use Rattle.attribution_losses.proofs.Losing.{one-passed, none_passed}
use Rattle.attribution_losses.proofs.loss.put_passed.Goals as goal

pub returns-then-not-passed : goal.returns-then-not-passed
returns-then-not-passed c = let a = c.args in none_passed a.passed c.if-not-passed.true a.quote.number a.quote.line a.records.now a.before.losses a.loss_bytes.now a.before.bytes

pub returns : goal.returns
returns c = let a = c.args in one-passed a.passed c.if-not-passed.false a.quote.number a.quote.line _ _ _ _ _ _ _ _ c.close_loss.ensures.0 c.put-bytes.ensures
