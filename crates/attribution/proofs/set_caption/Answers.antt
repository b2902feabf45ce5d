use borrow.Author.Rules.{rules}
use native.Mathlib.Omega.{arith}
use mathlib.Core.Path.{refl}
use Rattle.attribution.proofs.Formatting.{words-spoken, not-fitting, caption-stands}
use Rattle.attribution.proofs.set_caption.Goals as goal

pub returns-then-work-past : goal.returns-then-work-past
returns-then-work-past c = let x = c.args in
    let p = c.requires in
    let s = c.set_source in
    let z = s.auto.work in
    not-fitting x.text.now s.ensures (omega arith) (omega (arith, p.1.0, z)) c.join_texts-past.ensures x.m _ refl (omega (arith, p.1.0, z)) c.if-work-past.true

pub put_caption-requires : goal.put_caption-requires
put_caption-requires c = let x = c.args in
    let p = c.requires in
    let s = c.set_source in
    let z = s.auto.work in
    let j = c.join_texts-past.ensures in
    words-spoken x.text.now s.ensures (omega arith) (omega (arith, p.1.0, z)) j c.if-work-past.false

pub returns : goal.returns
returns c = let x = c.args in
    let p = c.requires in
    let s = c.set_source in
    let z = s.auto.work in
    caption-stands x.text.now s.ensures (omega arith) (omega (arith, p.1.0, z)) c.join_texts-past.ensures x.m {ns = x.numbers.now} refl (omega (arith, p.1.1)) (search rules) (search rules) (search rules)
