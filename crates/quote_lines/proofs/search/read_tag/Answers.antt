use native.Mathlib.Omega.{arith}
use mathlib.Core.Path.{refl}
use Prim.Native.Nat.{◌+◌}
use Prim.Native.Nat.{◌*◌}
use lib.ListN.{drop}
use Rattle.quote_tags.proofs.Plain.{bracket-past}
use Rattle.quote_tags.proofs.Tagging.{behind-within}
use Rattle.quote_tags.specs.Tags.{openers, opener_size}
use Rattle.quote_lines.proofs.Tabling.{opener-long, take_less, tabled-on, tabled-last, tabled-opener}
use Rattle.quote_lines.proofs.search.read_tag.Goals as goal

pub returns-in_default : goal.returns-in_default
returns-in_default c = let u = c.in_default.ensures in
    ((omega arith, omega arith), (refl, (bracket-past c.args.s.now c.args.from.at.0 _ u.order (omega arith) c.requires.1.1.0, tabled-last _ _ _ _ _ _ c.requires.1.1.1 u refl)))

pub put_tag-requires : goal.put_tag-requires
unfolding opener_size
put_tag-requires c = let r = c.in-Some.opener in let o = c.in-Some.ensures.0 in let n = c.in-Some.ensures.1 in let s = c.args.s.now in let w = behind-within openers s r.at.0 o.before.inside o.size in let l = opener-long (drop r.at.0 s) o.size n in let tb = tabled-on _ _ _ _ _ _ c.requires.1.1.1 o.before c.line_behind-line.ensures in let z = c.attribution_size-size.ensures in ((omega (arith, w, l, z), c.requires.0.1), (omega (arith, tb.line-most, o.before.inside, c.requires.0.1), omega (arith, w, l, tb.few, c.requires.1.0)))

pub overflow_add-next : goal.overflow_add-next
unfolding opener_size
overflow_add-next c = let o = c.in-Some.ensures.0 in let w = behind-within openers c.args.s.now c.in-Some.opener.at.0 o.before.inside o.size in omega (arith, w)

pub line_behind-requires : goal.line_behind-requires
unfolding opener_size
line_behind-requires c = let r = c.in-Some.opener in let o = c.in-Some.ensures.0 in let n = c.in-Some.ensures.1 in let s = c.args.s.now in let w = behind-within openers s r.at.0 o.before.inside o.size in let l = opener-long (drop r.at.0 s) o.size n in let tb = tabled-on _ _ _ _ _ _ c.requires.1.1.1 o.before c.line_behind-line.ensures in (omega arith, (w, omega (arith, w, tb.line-most, c.requires.0.1)))

pub returns : goal.returns
unfolding opener_size
returns c = let r = c.in-Some.opener in let o = c.in-Some.ensures.0 in let n = c.in-Some.ensures.1 in let s = c.args.s.now in let w = behind-within openers s r.at.0 o.before.inside o.size in let l = opener-long (drop r.at.0 s) o.size n in let tb = tabled-on _ _ _ _ _ _ c.requires.1.1.1 o.before c.line_behind-line.ensures in let p = c.put_tag.ensures in ((omega (arith, o.before.order, l), w), (take_less (c.args.t + 3 * c.args.from.count) c.args.t _ _ p.1 (omega arith), (bracket-past s r.at.0 _ (omega arith) w o.bracket, tabled-opener _ _ _ _ _ _ tb _ o.size n _ c.attribution_size-size.ensures p c.line_behind.ensures)))
