use Rattle.std.proofs.Common.{arith, rules, ◌≡◌, true, false}
use Rattle.std.proofs.lemmas.Iterator.{cases_from_all, YieldsList-from_slice}
use Rattle.text.specs.Cells.{is_blank}
use Rattle.text.proofs.Trimming.{all-blank-part}
use Rattle.text.proofs.trim.all_blank.Goals as goal

pub returns : goal.returns
returns c = let a = c.args in
    all-blank-part a.src.now a.from.now a.a.0 a.e.0 (omega arith) (omega arith) (omega arith) c.all.result
    (cases_from_all _ _ _ (λ x. is_blank x ≡ true) (λ x. is_blank x ≡ false) c.all.ensures.ran (YieldsList-from_slice _ c.iter.ensures.rest) (λ x q k. search rules) (λ x q k. search rules))
