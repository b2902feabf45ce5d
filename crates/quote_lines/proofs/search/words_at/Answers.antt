use Rattle.quote_lines.proofs.Tabling.{words-cut, words-short}
use Rattle.quote_lines.proofs.search.words_at.Goals as goal

pub returns : goal.returns
returns c = let a = c.args in (words-cut a.s.now a.numbers.now a.p, words-short a.s.now a.numbers.now a.p)
