use Rattle.std.proofs.Common.{arith, ◌∙◌, ℕ, List, take, drop}
use Rattle.std.proofs.lemmas.Simd.{length-chunk, bitmask_splat}
use lib.Dec.{eqb}
use mir.Syntax.{w8}
use Rattle.text.proofs.Digits.{binary-mask}
use Rattle.text.proofs.scan.equal_in_16.Goals as goal

pub returns : goal.returns
returns c = let s : List ℕ = c.args.s.now in
    bitmask_splat w8 (λ x y. eqb x y) (take 16 (drop c.args.i s)) 16 c.args.b (length-chunk c.args.i 16 s c.requires) (omega arith) ∙ binary-mask (λ x. eqb x c.args.b) 16 (drop c.args.i s)
