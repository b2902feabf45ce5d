use lib.ListN.{length}
use Rattle.post.specs.Calls.{Called}
use borrow.Author.Tests.{lt-ltb, le-ltb}
use Rattle.post_listing.proofs.Laws.{too_long, answer-listed}
use Rattle.post_listing.proofs.list_post.Goals as goal
use Rattle.post_listing.proofs.list_post.Goals.{then-post-gt-POST_MOST, else-post-gt-POST_MOST}

pub returns : goal.returns
returns c = let j = c.if-post-gt-POST_MOST in elim j.branch [
  | then-post-gt-POST_MOST w ↦ too_long c.args.post.now _ _ _ _ _ j.answer _ _ _ _ (lt-ltb 1024 _ w.if-post-gt-POST_MOST.true) w.answer-is c.put_answer.ensures
  | else-post-gt-POST_MOST w ↦
      let call : Called c.args.post.now (length c.args.out.now) (length c.args.origins.now) 64 (length c.args.loss_bytes.now) (length c.args.work.now) (length c.args.numbers.now) j.answer j.out j.origins j.records j.loss_bytes =
      rw (w.answer-is, w.out-is, w.origins-is, w.records-is, w.loss_bytes-is, ← c.requires.records_lent) w.bbcode_to_carve-answer.ensures.0 in
      answer-listed c.args.post.now _ _ _ _ _ _ _ _ _ _ (le-ltb 1024 _ w.if-post-gt-POST_MOST.false) call c.put_answer.ensures
]
