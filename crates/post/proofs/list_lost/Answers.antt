use native.Mathlib.Omega.{arith}
use mathlib.Core.Path.{sym, ◌∙◌}
use Prim.Native.Nat.{◌-◌, ◌≤◌}
use mathlib.Core.List.{◌++◌}
use lib.ListN.{length}
use Rattle.post.proofs.Calling.{own_is, lost_as}
use Rattle.quote_losses.proofs.Recording.{front_kept, front_long, back_is, same-table}
use Rattle.text.proofs.Sources.{front-is}
use lib.ListN.{take, drop}
use lib.Seq.{length-take-le}
use Prim.Native.Nat.{◌*◌}
use Rattle.post.proofs.list_lost.Goals as goal

pub slice_bounds-list_losses-end : goal.slice_bounds-list_losses-end
slice_bounds-list_losses-end c = let x = c.args in
    let p = c.requires in
    let q = c.read_lines-own in
    let hw : x.m ≤ length x.work.now = omega (arith, p.0.1.0) in
    let hn : 5 * length x.post.now ≤ length x.numbers.now = omega (arith, p.0.1.1) in
    let rest = q.new.work ++ drop (length x.work.now - x.m) (drop x.m x.work.now) in
    let f = front_long x.work.now rest x.m hw in
    sym (length-take-le x.k (take x.m x.work.now ++ rest) (omega (arith, p.1.0, f)))

pub list_losses-requires : goal.list_losses-requires
list_losses-requires c = let x = c.args in
    let p = c.requires in
    let q = c.read_lines-own in
    let hw : x.m ≤ length x.work.now = omega (arith, p.0.1.0) in
    let hn : 5 * length x.post.now ≤ length x.numbers.now = omega (arith, p.0.1.1) in
    let rest = q.new.work ++ drop (length x.work.now - x.m) (drop x.m x.work.now) in
    let f = front_long x.work.now rest x.m hw in
    let l = length-take-le x.k (take x.m x.work.now ++ rest) (omega (arith, p.1.0, f)) in
    (omega (arith, l, p.1), (rw (own_is x.work.now q.new.work x.m q.result.size hw) (same-table _ _ _ _ (back_is x.numbers.now q.new.numbers (5 * length x.post.now) hn) q.ensures.table), front_long x.numbers.now _ (5 * length x.post.now) hn))

pub returns : goal.returns
returns c = let x = c.args in
    let p = c.requires in
    let q = c.read_lines-own in
    let hw : x.m ≤ length x.work.now = omega (arith, p.0.1.0) in
    let hn : 5 * length x.post.now ≤ length x.numbers.now = omega (arith, p.0.1.1) in
    (lost_as (front-is x.work.now q.new.work x.m hw x.k p.1.0) (own_is x.work.now q.new.work x.m q.result.size hw ∙ q.ensures.masked) (front_kept x.numbers.now _ (5 * length x.post.now) hn) c.list_losses.ensures, front-is x.work.now q.new.work x.m hw x.m (omega arith))
