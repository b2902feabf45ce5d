use native.Mathlib.Omega.{arith}
use Rattle.quote_steps.proofs.Memories.{same-none, end-bytes, end-numbers}
use Rattle.quote_steps.proofs.Passing.{closes-last, closing-keeps}
use Rattle.attribution_parts.specs.Attribution.{caption}
use Rattle.quote_steps.proofs.close.Memory.close_innermost.Goals as goal

pub returns-clause-closed : goal.returns-clause-closed
returns-clause-closed c = let x = c.args in
    let s = x.self.now in
    let m = s.areas in
    let p = c.requires in
    let q = c.close_quote.ensures in
    let hb = end-bytes (same-none s) in
    let hn = end-numbers (same-none s) in
    record {
      place = omega (arith, c.clamp.ensures, q.grows);
      text = closing-keeps caption m.text.0 m.base.0 m.end.0 s.work.now s.numbers.now x.to.0 s.lent.0.0 s.lent.0.1 hb hn p.1 q.closed (omega (arith, c.clamp.ensures)) (omega (arith, c.clamp.ensures, p)) q.same.work-size q.same.numbers-size;
      closes = closes-last caption m.text.0 m.base.0 m.end.0 s.work.now s.numbers.now x.to.0 s.lent.0.0 s.lent.0.1 hb hn p.1 x.quote _ _ (λ a b. omega (arith, c.clamp.ensures, a, b)) (λ a. omega (arith, c.min.ensures, a)) q.closed;
    }
