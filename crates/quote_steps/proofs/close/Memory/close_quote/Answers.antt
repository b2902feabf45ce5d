use native.Mathlib.Omega.{arith}
use mathlib.Core.Path.{ap}
use Rattle.quote_steps.proofs.Within.{closes-within, closes-within-full}
use Rattle.quote_blocks.specs.Quotes.{quote_block}
use Rattle.quote_steps.proofs.close.Memory.close_quote.Goals as goal

pub returns-then-m-n-clause-closed : goal.returns-then-m-n-clause-closed
returns-then-m-n-clause-closed c = let x = c.args in
    let s = x.self.now in
    let L = s.lent in
    let p = c.requires.1 in
    let e = c.build_block-n.ensures in
    closes-within-full s.work.now s.numbers.now _ _ x.quote.start.0 x.to.0 s.areas.end.0 s.areas.top.0 _ (quote_block _) e.block p.1.1 L.1.1.1.0 (omega (arith, L.1.0.0)) L.1.0.1 e.same.work-size e.same.numbers-size 18446744073709551615 (omega (arith, c.if-m-n.true, ap (λ a. a.top.0) e.same.areas)) (omega (arith, p.0, L.1.1.0)) (omega (arith, L.1.1.1))

pub returns-clause-closed : goal.returns-clause-closed
returns-clause-closed c = let x = c.args in
    let s = x.self.now in
    let L = s.lent in
    let p = c.requires.1 in
    let e = c.build_block-n.ensures in
    closes-within s.work.now s.numbers.now _ _ x.quote.start.0 x.to.0 s.areas.end.0 s.areas.top.0 _ (quote_block _) e.block p.1.1 L.1.1.1.0 (omega (arith, L.1.0.0)) L.1.0.1 e.same.work-size e.same.numbers-size (omega (arith, c.if-m-n.false, ap (λ a. a.top.0) e.same.areas)) (rw e.same.areas at c.copy_back.ensures)
