use Rattle.std.proofs.Common.{◌≡◌, rules, arith, true, false, length}
use Rattle.day.specs.Day.{is_seconds}
use Rattle.day.proofs.Laws.{dated-short, dated-no, dated-yes}
use Rattle.day.proofs.unix_seconds_date.Goals as goal

pub returns-then-out-lt10 : goal.returns-then-out-lt10
returns-then-out-lt10 c = let m = length c.args.out.now in
    dated-short c.args.text.now _ m (omega (arith, c.fill.ensures.len)) (search rules)

pub returns-then-not-is_seconds : goal.returns-then-not-is_seconds
returns-then-not-is_seconds c = let m = length c.args.out.now in
    let no : is_seconds c.args.text.now ≡ false = search rules in
    dated-no c.args.text.now _ m (omega (arith, c.fill.ensures.len)) no (search rules)

pub returns : goal.returns
returns c = let m = length c.args.out.now in
    let yes : is_seconds c.args.text.now ≡ true = search rules in
    dated-yes c.args.text.now _ m c.fill.new.self (omega (arith, c.fill.ensures.len)) yes (search rules) c.write_day.ensures
