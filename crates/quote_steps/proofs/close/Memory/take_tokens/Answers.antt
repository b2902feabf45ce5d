use native.Mathlib.Omega.{arith}
use Rattle.quote_steps.proofs.Memories.{same-none, same-then}
use Rattle.quote_steps.proofs.Passing.{run-start, run-ready, run_end, run-forward, run-place, run-bracket, run_on, run-full}
use Rattle.quote_steps.proofs.close.Memory.take_tokens.Goals as goal

pub loop-taken-init : goal.loop-taken-init
loop-taken-init c = let s = c.args.self.now in
    record { same = same-none s; at = omega arith; place = (omega arith, s.lent.0.1); bracket = λ _. (rw c.text.ensures at c.next_bracket.ensures); runs = rw c.requires.0 (run-start s c.requires.1 c.next_bracket.result) }

pub take_token-taken-requires : goal.take_token-taken-requires
take_token-taken-requires c = let v = c.loop-taken.invariant in run-ready _ v.runs v.same v.place c.loop-taken-test.true v.bracket

pub returns-then-m-taken-clause-runs : goal.returns-then-m-taken-clause-runs
returns-then-m-taken-clause-runs c = let v = c.loop-taken.invariant in let q = c.take_token-taken.ensures in run-full _ v.runs v.same v.place q.taken q.same c.if-m-taken.true

pub loop-taken-preserved : goal.loop-taken-preserved
loop-taken-preserved c = let v = c.loop-taken.invariant in
    let q = c.take_token-taken.ensures in record {
      same = same-then v.same q.same;
      at = (run-forward _ v.runs v.same v.place q.taken q.same).1;
      place = (run-place _ v.runs v.same v.place q.taken q.same, c.if-m-taken.false);
      bracket = run-bracket _ v.runs v.same v.place q.taken q.same;
      runs = run_on _ v.runs v.same v.place q.taken q.same c.if-m-taken.false _ c.max-seen.ensures;
    }

pub returns-clause-runs : goal.returns-clause-runs
returns-clause-runs c = let v = c.loop-taken.invariant in (v.place, run_end _ v.runs v.same v.place c.loop-taken-test.false)
