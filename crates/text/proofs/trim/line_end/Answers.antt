use borrow.Author.Rules.{rules}
use native.Mathlib.Omega.{arith}
use mathlib.Core.Path.{sym, ◌∙◌}
use lib.Seq.{length-take-le}
use Rattle.text.proofs.Trimming.{lines_none, lines-on, lines-feed, lines-last}
use Rattle.text.proofs.trim.line_end.Goals as goal

pub loop-i-init : goal.loop-i-init
loop-i-init c = (search rules, search rules, lines_none c.args.a.0 _ _)

pub returns-then-is_feed : goal.returns-then-is_feed
returns-then-is_feed c = let a = c.args in
    (search rules, (search rules, c.loop-i.invariant.2 ∙ lines-feed _ _ a.a.0 c.loop-i.i a.e.0 (omega arith) (omega arith) (omega arith) (omega arith) (sym c.is_feed.ensures ∙ c.if-is_feed.true)))

pub slice_bounds-next_byte-end : goal.slice_bounds-next_byte-end
slice_bounds-next_byte-end c = sym (length-take-le c.args.e.0 c.args.src.now (omega (arith, c.requires)))

pub next_byte-i-requires : goal.next_byte-i-requires
next_byte-i-requires c = let l = length-take-le c.args.e.0 c.args.src.now (omega (arith, c.requires)) in omega arith

pub loop-i-smaller : goal.loop-i-smaller
loop-i-smaller c = let a = c.args in
    let b = lines-on a.src.now a.from.now a.a.0 c.loop-i.i a.e.0 _ (omega arith) (omega arith) (omega arith) (omega arith) (sym c.is_feed.ensures ∙ c.if-is_feed.false) c.next_byte-i.ensures in
    omega (arith, b.0, b.1.0)

pub loop-i-preserved : goal.loop-i-preserved
loop-i-preserved c = let a = c.args in
    let b = lines-on a.src.now a.from.now a.a.0 c.loop-i.i a.e.0 _ (omega arith) (omega arith) (omega arith) (omega arith) (sym c.is_feed.ensures ∙ c.if-is_feed.false) c.next_byte-i.ensures in
    (omega (arith, b.0, c.loop-i.invariant.0), b.1.0, c.loop-i.invariant.2 ∙ b.1.1)

pub returns : goal.returns
returns c = let a = c.args in
    (search rules, (search rules, c.loop-i.invariant.2 ∙ lines-last _ _ a.a.0 c.loop-i.i a.e.0 (omega arith) (omega arith) (omega arith) (omega arith)))
