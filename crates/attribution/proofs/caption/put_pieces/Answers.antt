use native.Mathlib.Omega.{arith}
use mathlib.Core.Path.{◌≡◌, sym, ap, subst, refl, ◌∙◌}
use Prim.Native.Nat.{ℕ, ◌+◌}
use native.Mathlib.Nat.{add-sub_cancel_left}
use mathlib.Core.List.{List, []}
use lib.ListN.{length}
use Rattle.attribution.specs.Spoken.{said}
use Rattle.attribution_parts.specs.Attribution.{spaced, within, date, id}
use Rattle.attribution_parts.specs.Parts.{parts}
use Rattle.attribution_reading.specs.Reads.{IdAt}
use Rattle.attribution_losses.specs.Lists.{Told}
use Rattle.text.specs.Writes.{cut}
use Rattle.text.specs.Ascii.{ascii}
use Rattle.text.specs.Cells.{written}
use Rattle.text.proofs.Writers.{wrote-as, wrote-then}
use Rattle.attribution.proofs.Speaking.{cut-length, said-length, said-after, spoken-after}
use Rattle.attribution.proofs.Captioning.{caption-is}
use Rattle.attribution.proofs.caption.put_pieces.Goals as goal

pub name_at-name-requires : goal.name_at-name-requires
name_at-name-requires c = let q = c.requires in
    let l = said-length c.args.w.now.bytes.now c.args.words q.0 in
    rw c.source.ensures ((q.0.order, (q.0.inside, (q.0.joined-order, q.0.joined-inside))), omega (arith, l, q.1.0.fields.name.inside))

pub put_within-requires : goal.put_within-requires
put_within-requires c = let q = c.requires.0 in
    let n = rw c.source.ensures at c.name_at-name.ensures in
    (n.inside, n.apart _ _ q.apart q.joined-apart)

pub put_rest-requires : goal.put_rest-requires
put_rest-requires c = let a = c.args in
    let q = c.requires in
    let p = wrote-then c.put_within.ensures c.put_gap.ensures in
    (spoken-after p q.0, subst (λ (x : List ℕ). Told x a.fields a.day × IdAt x a.id) (sym (said-after p q.0)) q.1)

pub returns : goal.returns
returns c = let a = c.args in
    let q = c.requires in
    let s = a.w.now.bytes.now in
    let n = rw c.source.ensures at c.name_at-name.ensures in
    let i : ℕ = c.name_at-name.result.from in
    let z : ℕ = c.name_at-name.result.size in
    let p = wrote-then c.put_within.ensures c.put_gap.ensures in
    let m : length (cut i (i + z) s) ≡ z = cut-length i (i + z) s n.inside ∙ add-sub_cancel_left i z in
    let k = caption-is (said a.words s) a.fields a.day q.1.0 a.id q.1.1 (cut a.words.joined.0 a.words.past.0 s) q.0.joins _ _ _ n.words c.is_dated.ensures refl in
    wrote-as (rw m at k) (wrote-then p (wrote-as (ap (λ (x : List ℕ). written (spaced (within (ascii "(") (date (parts 0 x)) (ascii ")")) (within (ascii "#") (id (parts 0 x)) []))) (said-after p q.0)) c.put_rest.ensures))
