use mathlib.Core.Path.{◌∙◌, ap}
use mathlib.Core.Bool.{Bool, cond}
use Rattle.text.proofs.Writers.{wrote-then, wrote-as}
use Rattle.list_blocks.proofs.Markers.{marker-plain, marker-ordered}
use Rattle.list_blocks.proofs.item.put_marker.Goals.{then-kind, else-kind}
use Rattle.list_blocks.proofs.item.put_marker.Goals as goal

pub returns : goal.returns
returns c =
    let o = c.args.kind.ordered in
    let s = c.args.kind.second in
    let q = c.sign.ensures in
    elim c.if-kind.branch [
      | then-kind w ↦
          wrote-as (marker-ordered o s c.args.index c.sign.result w.if-kind.true (q ∙ ap (λ (t : Bool). cond t (cond s 41 46) (cond s 42 45)) w.if-kind.true))
          (wrote-then w.put_decimal.ensures (wrote-then (rw w.w-is at c.put_sign.ensures) c.put_space.ensures))
      | else-kind w ↦
          wrote-as (marker-plain o s c.args.index c.sign.result w.if-kind.false (q ∙ ap (λ (t : Bool). cond t (cond s 41 46) (cond s 42 45)) w.if-kind.false))
          (wrote-then (rw w.w-is at c.put_sign.ensures) c.put_space.ensures)
    ]
