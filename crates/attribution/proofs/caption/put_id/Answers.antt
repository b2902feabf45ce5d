use native.Mathlib.Omega.{arith}
use mathlib.Core.Path.{ap, ◌∙◌}
use Prim.Native.Nat.{ℕ, ◌+◌}
use Rattle.attribution.specs.Spoken.{said}
use Rattle.text.specs.Cells.{written}
use Rattle.text.proofs.Writers.{wrote-as, wrote-none, wrote-then, cut-after}
use Rattle.attribution.proofs.Speaking.{said-length, inner_cut, inner-apart}
use Rattle.attribution.proofs.Captioning.{no-id, an-id}
use Rattle.attribution.proofs.caption.put_id.Goals as goal

pub returns-then-id-eq0 : goal.returns-then-id-eq0
returns-then-id-eq0 c = let a = c.args in
    wrote-as (no-id (said a.words a.w.now.bytes.now) a.id.from a.id.size c.if-id-eq0.true) (wrote-none _)

pub returns : goal.returns
returns c = let a = c.args in
    let q = c.requires in
    let s = a.w.now.bytes.now in
    let p = c.put_sign.ensures in
    let l = said-length s a.words q.0 in
    let i : ℕ = a.words.from.0 + a.id.from in
    wrote-as (an-id (said a.words s) a.id.from a.id.size (omega (arith, l, q.1)) c.if-id-eq0.false) (wrote-then p (wrote-as (ap written (cut-after p i (i + a.id.size) (inner-apart s a.words q.0 a.id.from a.id.size q.1) ∙ inner_cut s a.words q.0 a.id.from a.id.size q.1)) c.put_within.ensures))
