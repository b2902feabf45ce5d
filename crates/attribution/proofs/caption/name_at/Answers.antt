use native.Mathlib.Omega.{arith}
use Rattle.attribution.proofs.Speaking.{cut-length, name-joined, name-field}
use Rattle.attribution.proofs.caption.name_at.Goals as goal

pub name-size-requires : goal.name-size-requires
name-size-requires c = let p = c.requires in
    let l = cut-length c.args.words.from.0 c.args.words.to.0 c.args.source.now p.0.1.0 in
    omega (arith, l, p.1)

pub returns-then-value-eq0 : goal.returns-then-value-eq0
returns-then-value-eq0 c = let p = c.requires in
    name-joined c.args.source.now c.args.words c.args.value.from c.args.value.size c.name-size.ensures c.if-value-eq0.true p.0.1.1.0 p.0.1.1.1

pub returns : goal.returns
returns c = let p = c.requires in
    name-field c.args.source.now c.args.words c.args.value.from c.args.value.size c.name-size.ensures c.if-value-eq0.false p.0.0 p.0.1.0 p.1
