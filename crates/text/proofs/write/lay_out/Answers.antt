use native.Mathlib.Omega.{arith}
use mathlib.Core.Path.{sym, ap, ◌∙◌}
use lib.ListN.{length}
use Rattle.text.proofs.Clearing.{cells-bytes, cells-origins}
use Rattle.text.specs.Writes.{padded}
use Rattle.text.proofs.write.lay_out.Goals as goal

pub returns : goal.returns
returns c = let a = c.args in
    record {
      text = c.lay_bytes.ensures ∙ ap (padded (length a.out.now)) (sym (cells-bytes a.n a.src.now a.from.now (omega arith) (omega arith)));
      from = c.lay_origins.ensures ∙ ap (padded (length a.plain.now)) (sym (cells-origins a.n a.src.now a.from.now (omega arith) (omega arith)));
    }
