use Rattle.mark_writing.proofs.OneTextLaws.{first-text}
use Rattle.mark_writing.proofs.look.Items.content_of.Goals as goal

pub returns-then-is_text : goal.returns-then-is_text
returns-then-is_text c = first-text _ _ _ _ _ c.requires c.if-from-self.true (c.is_text.ensures c.if-is_text.true)
