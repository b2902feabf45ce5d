use Rattle.std.proofs.Common.{rules, refl, arith, ◌∙◌, ◌≡◌, ◌/◌, length}
use Rattle.losses.specs.Records.{records_of, no_loss}
use Rattle.losses.proofs.Filling.{chunk-record, filled-turn, filled-end}
use Rattle.losses.proofs.fill.Goals as goal

pub loop-i-init : goal.loop-i-init
unfolding records_of
loop-i-init c = refl

pub loop-i-preserved : goal.loop-i-preserved
loop-i-preserved c = let l = c.loop-i in
    let ns = c.args.numbers.now in
    let five = rw c.as_chunks.ensures.front at c.from.ensures ∙ chunk-record ns (length ns / 5) l.i (omega arith) in
    rw l.invariant (filled-turn ns c.args.records.now l.i c.from.result (omega arith) (omega arith) five)

pub returns : goal.returns
returns c = let l = c.loop-i in
    let n : l.i ≡ c.args.count = omega arith in
    let d : c.default.result ≡ no_loss = search rules in
    filled-end c.args.numbers.now c.args.records.now l.records c.fill.new.self c.args.count (length c.args.records.now) c.default.result
    c.requires.0 c.requires.1 l.auto.records (rw n at l.invariant) d c.fill.ensures.after
