use native.Mathlib.Omega.{arith}
use mathlib.Core.Path.{ap, ◌∙◌}
use Prim.Native.Nat.{ℕ}
use mathlib.Core.List.{List, []}
use Rattle.attribution.specs.Spoken.{said}
use Rattle.attribution_parts.specs.Attribution.{within}
use Rattle.attribution_reading.specs.Places.{bytes}
use Rattle.text.specs.Ascii.{ascii}
use Rattle.text.specs.Cells.{written}
use Rattle.text.proofs.Writers.{wrote-as, wrote-then}
use Rattle.attribution.proofs.Speaking.{said-length, said-after, spoken-after}
use Rattle.attribution.proofs.Captioning.{spaced-written, dated-is, id-is, id-shown}
use Rattle.attribution.proofs.caption.put_rest.Goals as goal

pub put_id-requires : goal.put_id-requires
put_id-requires c = let a = c.args in
    let q = c.requires in
    let l = said-length a.w.now.bytes.now a.words q.0 in
    (spoken-after (wrote-then c.put_date.ensures c.put_gap.ensures) q.0, omega (arith, l, q.1.1.inside))

pub returns : goal.returns
returns c = let a = c.args in
    let q = c.requires in
    let s = said a.words a.w.now.bytes.now in
    let p = wrote-then c.put_date.ensures c.put_gap.ensures in
    wrote-as (spaced-written _ _ _ _ (dated-is s a.fields a.day q.1.0 a.id q.1.1 _ c.is_dated.ensures) (id-is s a.fields a.day q.1.0 a.id q.1.1))
    (wrote-then p (wrote-as (ap (λ (x : List ℕ). written (within (ascii "#") (bytes x a.id.from a.id.size) [])) (said-after p q.0) ∙ id-shown s a.fields a.day q.1.0 a.id q.1.1) c.put_id.ensures))
