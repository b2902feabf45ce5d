use borrow.Author.Rules.{rules}
use native.Mathlib.Omega.{arith}
use mathlib.Core.Path.{◌∙◌}
use Rattle.quote_tags.proofs.Masking.{visible-by, region-same, masked_same, any_twice, same-any}
use Rattle.quote_tags.proofs.Unmasking.{code-by-c, icode-by-c, noparse-by-n}
use Rattle.quote_tags.specs.Masks.{code, icode, noparse}
use Rattle.quote_tags.proofs.mask.mask_each.Goals as goal

pub mask_by-a-requires : goal.mask_by-a-requires
unfolding code
mask_by-a-requires c = (search rules, λ x h. region-same _ code (same-any _) (any_twice _) x ∙ code-by-c x h)

pub mask_by-b-requires : goal.mask_by-b-requires
unfolding icode
mask_by-b-requires c = let s = c.mask_by-a.ensures.short in let p = c.requires in (omega (arith, s, p), λ x h. region-same _ icode (same-any _) (same-any _) x ∙ icode-by-c x h)

pub mask_by-requires : goal.mask_by-requires
unfolding noparse
mask_by-requires c = let s = c.mask_by-a.ensures.short in let t = c.mask_by-b.ensures.short in let p = c.requires in (omega (arith, s, t, p), λ x h. region-same _ noparse (any_twice _) (any_twice _) x ∙ noparse-by-n x h)

pub returns : goal.returns
unfolding code icode noparse
returns c = visible-by _ _ _ c.mask_by-a.ensures c.mask_by-b.ensures c.mask_by.ensures (masked_same _ code (same-any _) (any_twice _) 0) (masked_same _ icode (same-any _) (same-any _) 0) (masked_same _ noparse (any_twice _) (any_twice _) 0)
