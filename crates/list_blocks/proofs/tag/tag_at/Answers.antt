use native.Mathlib.Omega.{arith}
use Rattle.list_blocks.proofs.Values.{other-first, letter-is, second-star, star-alone, second-slash, slash-alone, other-second}
use Rattle.list_blocks.proofs.tag.tag_at.Goals as goal

pub returns-then-byte_at-ne91 : goal.returns-then-byte_at-ne91
returns-then-byte_at-ne91 c = other-first _ _ c.requires c.byte_at.ensures c.if-byte_at-ne91.true

pub opener_at-requires : goal.opener_at-requires
opener_at-requires c = let a = c.args in
    let p = c.requires in
    (p, letter-is a.src.now a.from.now p c.small_of.ensures c.byte_at-2.ensures c.in-108.is)

pub returns-in-42 : goal.returns-in-42
returns-in-42 c = second-star _ _ c.requires c.small_of.ensures c.byte_at-2.ensures c.in-42.is c.begins_at.ensures c.if-begins_at.true

pub returns-in-47 : goal.returns-in-47
returns-in-47 c = second-slash _ _ c.requires c.small_of.ensures c.byte_at-2.ensures c.in-47.is c.begins_at-in-47-1.ensures c.if-begins_at-2.true

pub returns-in_default : goal.returns-in_default
returns-in_default c = star-alone _ _ c.requires c.small_of.ensures c.byte_at-2.ensures c.in-42.is c.begins_at.ensures c.if-begins_at.false

pub returns-in_default-2 : goal.returns-in_default-2
returns-in_default-2 c = slash-alone _ _ c.requires c.small_of.ensures c.byte_at-2.ensures c.in-47.is c.begins_at-in-47-1.ensures c.if-begins_at-2.false

pub returns-in_default-3 : goal.returns-in_default-3
returns-in_default-3 c = other-second _ _ c.requires c.small_of.ensures c.byte_at-2.ensures (λ e. omega arith) (λ e. omega arith) (λ e. omega arith)
