use mathlib.Core.Path.{sym, ap}
use Rattle.mark_tags.specs.Flat.{tag_number}
use Rattle.mark_tags.proofs.TagNumbers.{tag-at, no-tag}
use Rattle.mark_tags.proofs.tags.tag_at.Goals as goal

pub returns-then-a-ne91 : goal.returns-then-a-ne91
returns-then-a-ne91 c = let a = c.args in sym (ap tag_number (no-tag a.s.now a.i c.if-a-ne91.true))

pub returns : goal.returns
returns c = let a = c.args in cc (tag-at a.s.now a.i)
