use native.Mathlib.Omega.{arith}
use mathlib.Core.Path.{ap, ◌∙◌}
use Prim.Native.Nat.{ℕ, ◌+◌}
use mathlib.Core.List.{◌∷◌, ◌++◌}
use lib.ListN.{take, drop}
use Rattle.mark_pieces.specs.Spans.{raised}
use Rattle.mark_pieces.proofs.Areal.{kept-then, area-size, form-in}
use Rattle.mark_pieces.proofs.Listing.{bit-cond}
use Rattle.mark_pieces.proofs.Wrapping.{closes-step, closes-keeps}
use Rattle.mark_pieces.proofs.mark.finish_mark.Goals as goal

pub returns-then-w : goal.returns-then-w
returns-then-w c = let a = c.args in
    let form = c.takes_braces-braces in
    let escaped = c.escape_brace.ensures in
    let closed = c.close_mark.ensures in
    let g₁ = escaped.text.grows in
    let g₂ = closed.text.grows in
    let s = area-size a.w.now in
    let p = c.requires.0.0 in
    record {
      finished = record {
        form = form-in a.w.now c.source.ensures a.d a.before a.next (a.body.start.0 + 1) a.w.now.at.0 p.0 (omega (arith, p.1, s)) form.ensures;
        step = closes-step form.result a.d escaped.text closed.text;
        keeps = closes-keeps form.result a.d escaped.text closed.text;
        grows = omega (arith, g₁, g₂);
        spans = λ h r. c.put_span.ensures r ∙ ap (λ (by : ℕ). take a.body.span a.spans.now ++ (a.body.start.0 ∷ c.close_mark.new.w.at.0 ∷ raised by (drop (a.body.span + 2) (take a.body.listed a.spans.now)))) (c.from.ensures ∙ bit-cond form.result);
      };
      kept = kept-then escaped.kept closed.kept;
    }

pub returns-else-w : goal.returns-else-w
returns-else-w c = let a = c.args in
    let form = c.takes_braces-braces in
    let escaped = c.escape_brace.ensures in
    let closed = c.close_mark.ensures in
    let g₁ = escaped.text.grows in
    let g₂ = closed.text.grows in
    let s = area-size a.w.now in
    let p = c.requires.0.0 in
    let e₁ = escaped.kept.same.end in
    let e₂ = closed.kept.same.end in
    record {
      finished = record {
        form = form-in a.w.now c.source.ensures a.d a.before a.next (a.body.start.0 + 1) a.w.now.at.0 p.0 (omega (arith, p.1, s)) form.ensures;
        step = closes-step form.result a.d escaped.text closed.text;
        keeps = closes-keeps form.result a.d escaped.text closed.text;
        grows = omega (arith, g₁, g₂);
        spans = λ h r. absurd (omega (arith, h, c.if-w.false, s, e₁, e₂));
      };
      kept = kept-then escaped.kept closed.kept;
    }
