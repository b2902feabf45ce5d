use Rattle.list_steps.proofs.Closing.{feed-lead, feed-empty, feed-some}
use Rattle.list_steps.proofs.close.feed_at.Goals as goal

pub returns-then-first-frame : goal.returns-then-first-frame
returns-then-first-frame c = feed-lead _ _ _ _ _ _ _ c.frame_at-frame.ensures c.if-first-frame.true

pub returns-then-start-end : goal.returns-then-start-end
returns-then-start-end c = let p = c.requires in
    feed-some _ _ _ _ _ _ _ c.frame_at-frame.ensures c.if-first-frame.false c.if-start-end.true p.1.1.0 p.1.1.1.0 c.is_feed.result c.is_feed.ensures

pub returns-else-start-end : goal.returns-else-start-end
returns-else-start-end c = feed-empty _ _ _ _ _ _ _ c.frame_at-frame.ensures c.if-first-frame.false c.if-start-end.false
