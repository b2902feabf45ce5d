use native.Mathlib.Omega.{arith}
use Rattle.list_blocks.proofs.Values.{valued-short, valued-other, valued-end, valued-longer, valued_one}
use Rattle.list_blocks.proofs.tag.valued_at.Goals.{then-src-one-via-then-src-one, then-src-one-via-else-src-one+then-src-one-ne49}
use Rattle.list_blocks.proofs.tag.valued_at.Goals.{then-src-end-via-then-src-end, then-src-end-via-else-src-end+then-src-end-ne93}
use Rattle.list_blocks.proofs.tag.valued_at.Goals as goal

pub returns-then-src-one : goal.returns-then-src-one
returns-then-src-one c = elim c.then-src-one.branch [
  | then-src-one-via-then-src-one w ↦ valued-short _ _ c.requires.1 _ c.skip_blank-one.ensures w.if-src-one.true
  | then-src-one-via-else-src-one+then-src-one-ne49 w ↦ valued-other _ _ c.requires.1 _ c.skip_blank-one.ensures w.if-src-one.false w.if-src-one-ne49.true
]

pub returns-then-src-end : goal.returns-then-src-end
returns-then-src-end c = let v = c.if-src-one-ne49.false in
    elim c.then-src-end.branch [
      | then-src-end-via-then-src-end w ↦ valued-end _ _ c.requires.1 _ c.skip_blank-one.ensures c.if-src-one.false v _ c.skip_blank-end.ensures w.if-src-end.true
      | then-src-end-via-else-src-end+then-src-end-ne93 w ↦ valued-longer _ _ c.requires.1 _ c.skip_blank-one.ensures c.if-src-one.false v _ c.skip_blank-end.ensures w.if-src-end.false w.if-src-end-ne93.true
    ]

pub returns : goal.returns
returns c = valued_one _ _ c.requires.1 _ c.skip_blank-one.ensures c.if-src-one.false c.if-src-one-ne49.false _ c.skip_blank-end.ensures c.if-src-end.false c.if-src-end-ne93.false
