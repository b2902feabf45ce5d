use native.Mathlib.Omega.{arith}
use mathlib.Core.Path.{refl, sym, ◌∙◌}
use Rattle.std.proofs.lemmas.Bool.Decides.{Decides-eqb}
use Rattle.std.proofs.lemmas.Slice.Eq.{slice_eq-Decides}
use Rattle.quote_lines.proofs.Bared.{same_self}
use Rattle.quote_lines.proofs.Finding.{finding, finding-on, finding-here, finding-end, finding-weight}
use Rattle.quote_lines.proofs.search.Tags.find.Goals as goal
use Rattle.quote_lines.proofs.search.Tags.find.Goals.{then-self-i-via-then-self-i, then-self-i-via-else-self-i+then-same_bare}

pub returns-then-eq : goal.returns-then-eq
returns-then-eq c = let g = c.args.self.table.each c.args.next (omega arith) in
    let x = (slice_eq-Decides Decides-eqb _ _ _ c.eq.ensures).0 c.if-eq.true in
    finding-here _ _ _ _ (finding _ _ _) (omega (arith, c.args.self.table.all)) (sym x ∙ c.words.ensures.0 ∙ g.words_are) (same_self _) refl

pub returns-then-self-i : goal.returns-then-self-i
returns-then-self-i c = let r = c.next_number-i in
    let f = finding-weight c.args.self.table _ _ c.bare_weight-weight.ensures.0 c.loop-i.invariant (omega arith) r.ensures in
    elim c.then-self-i.branch [
      | then-self-i-via-then-self-i w ↦ finding-end _ _ _ _ f (omega (arith, c.args.self.table.all, w.if-self-i.true))
      | then-self-i-via-else-self-i+then-same_bare w ↦
          finding-here _ _ _ _ f (omega (arith, c.args.self.table.all, w.if-self-i.false)) (w.words-else-self-i.ensures.0 ∙ (c.args.self.table.each r.result (omega (arith, w.if-self-i.false))).words_are) w.same_bare.ensures w.if-same_bare.true
    ]

pub loop-i-preserved : goal.loop-i-preserved
loop-i-preserved c = let r = c.next_number-i in
    let f = finding-weight c.args.self.table _ _ c.bare_weight-weight.ensures.0 c.loop-i.invariant (omega arith) r.ensures in
    finding-on _ _ _ _ f (omega (arith, c.args.self.table.all)) (c.words-else-self-i.ensures.0 ∙ (c.args.self.table.each r.result (omega arith)).words_are) c.same_bare.ensures c.if-same_bare.false

pub returns : goal.returns
returns c = finding-end _ _ _ _ c.loop-i.invariant (omega (arith, c.args.self.table.all))
