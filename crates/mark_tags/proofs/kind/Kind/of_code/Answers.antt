use mathlib.Core.Path.{sym}
use Rattle.mark_tags.specs.Flat.{kind_numbered}
use Rattle.text.proofs.Decide.{decide}
use Rattle.mark_tags.proofs.kind.Kind.of_code.Goals as goal

pub returns-in-0 : goal.returns-in-0
unfolding kind_numbered
returns-in-0 c = rw c.in-0.is

pub returns-in-1 : goal.returns-in-1
unfolding kind_numbered
returns-in-1 c = rw c.in-1.is

pub returns-in-2 : goal.returns-in-2
unfolding kind_numbered
returns-in-2 c = rw c.in-2.is

pub returns-in_default : goal.returns-in_default
unfolding kind_numbered
returns-in_default c = sym (search decide depth 12)
