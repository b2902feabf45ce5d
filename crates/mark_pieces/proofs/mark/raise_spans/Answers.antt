use native.Mathlib.Omega.{arith}
use mathlib.Core.Path.{ap, ◌∙◌}
use mathlib.Core.List.{List, ◌++◌}
use Prim.Native.Nat.{ℕ, ◌+◌}
use lib.ListN.{take}
use Rattle.std.specs.List.{between}
use Rattle.std.proofs.lemmas.Slice.{between_is, take-put_mid}
use Rattle.mark_pieces.specs.Spans.{raised}
use Rattle.mark_pieces.proofs.Listing.{mapped-all}
use Rattle.mark_pieces.proofs.mark.raise_spans.Goals as goal

pub returns : goal.returns
returns c = let a = c.args in
    let l = c.loop-x in
    let s = between a.a a.e a.spans.now in
    let m = mapped-all (λ (x : ℕ). x + a.by) s l.x-items l.x-index (omega arith) l.invariant.0 l.invariant.1 in
    take-put_mid a.a _ a.spans.now l.x-items a.e (omega arith) (omega arith)
    ∙ ap (λ (t : List ℕ). take a.a a.spans.now ++ t) (m ∙ ap (raised a.by) (between_is a.spans.now a.a a.e))
