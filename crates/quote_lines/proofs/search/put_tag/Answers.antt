use native.Mathlib.Omega.{arith}
use lib.ListN.{length-set}
use Rattle.quote_lines.proofs.Tabling.{tag-put}
use Rattle.quote_lines.proofs.search.put_tag.Goals as goal

pub bounds-numbers-p-2 : goal.bounds-numbers-p-2
bounds-numbers-p-2 c = simp length-set (omega arith)

pub bounds-numbers-p-3 : goal.bounds-numbers-p-3
bounds-numbers-p-3 c = simp length-set (omega arith)

pub returns : goal.returns
returns c = tag-put c.args.s.now c.args.numbers.now c.args.p c.args.line c.args.a c.args.size c.requires.0.0 c.requires.1.1
