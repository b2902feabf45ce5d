-- Laws of taking one token, in the area of a pair of slices. Assumes nothing.
use mathlib.Core.Path.{◌≡◌, refl, sym, subst}
use Prim.Native.Nat.{ℕ, ◌+◌, ◌≤◌}
use native.Mathlib.Omega.{arith}
use mathlib.Core.List.{List, [], ◌∷◌}
use lib.ListN.{length, take, drop}
use lib.Seq.{length-take-le}
use Rattle.text.specs.declared.PostAt.{PostAt}
use Rattle.text.specs.declared.WorkAt.{WorkAt}
use Rattle.text.specs.Cells.{cells, part}
use Rattle.text.specs.Writes.{AppendsIn}
use Rattle.attribution_parts.specs.Attribution.{caption}
use Rattle.quote_tags.specs.Tags.{NextBracket, openers, closers, opener_size, closer_size}
use Rattle.quote_tags.proofs.Tagging.{behind-within}
use Rattle.quote_tags.proofs.Plain.{PlainRun, bracket-past}
use Rattle.quote_steps.specs.declared.stack.Opened.{Opened}
use Rattle.quote_steps.specs.declared.close.Memory.{Memory}
use Rattle.quote_steps.specs.declared.pass.Taken.{Taken}
use Rattle.quote_steps.specs.Memories.{Ready, TakesToken, ClosesInner}
use Rattle.quote_steps.proofs.Memories.{same-none, end-bytes, end-numbers}
use Rattle.quote_steps.proofs.Passing.{opener-taken, stray-taken, closer-taken, text-taken, appending-keeps}

module _ {m : Memory} {os : List Opened} {t : Taken} (p : Ready m os t) where
  abbrev s : List ℕ
  s = take m.areas.text.0 m.work.now

  text-length : length s ≡ m.areas.text.0
  text-length = let l = m.lent in length-take-le m.areas.text.0 m.work.now (omega arith)

  module _ {k : ℕ} (ek : k ≡ opener_size (drop t.at.0 s)) where
    pub opener-within : t.at.0 + k ≤ m.areas.text.0
    unfolding opener_size
    opener-within = let l = text-length in let h = p.at in omega (arith, behind-within openers s t.at.0 (omega arith) ek)

    module _ {b : PostAt} (eb : NextBracket s t.at.0 b.0) where
      pub token-opener : (k ≡ 0 → ⊥) → TakesToken m os t m (record { start = t.to; tag = t.at } ∷ os) (record { at = record { 0 = t.at.0 + k }; bracket = b; to = t.to })
      token-opener n = let l = text-length in let w = opener-within in record {
        on = (omega (arith, n), w);
        place = p.to.0;
        text = refl;
        bracket = bracket-past s t.at.0 (t.at.0 + k) (omega arith) (omega arith) eb;
        takes = opener-taken caption m.areas.text.0 m.areas.base.0 m.areas.end.0 m.work.now m.numbers.now t.to.0 m.lent.0.0 m.lent.0.1 (end-bytes (same-none m)) (end-numbers (same-none m)) p.to.1 t.at.0 p.at ek os n;
      }

    module _ {j : ℕ} (zk : k ≡ 0) (ej : j ≡ closer_size (drop t.at.0 s)) where
      pub closer-within : t.at.0 + j ≤ m.areas.text.0
      unfolding closer_size
      closer-within = let l = text-length in let h = p.at in omega (arith, behind-within closers s t.at.0 (omega arith) ej)

      module _ {b : PostAt} (eb : NextBracket s t.at.0 b.0) where
        -- no quote is open
        pub token-stray : (j ≡ 0 → ⊥) → os ≡ [] → TakesToken m os t m os (record { at = record { 0 = t.at.0 + j }; bracket = b; to = t.to })
        token-stray n none = let l = text-length in let w = closer-within in record {
          on = (omega (arith, n), w);
          place = p.to.0;
          text = refl;
          bracket = bracket-past s t.at.0 (t.at.0 + j) (omega arith) (omega arith) eb;
          takes = stray-taken caption m.areas.text.0 m.areas.base.0 m.areas.end.0 m.work.now m.numbers.now t.to.0 m.lent.0.0 m.lent.0.1 (end-bytes (same-none m)) (end-numbers (same-none m)) p.to.1 t.at.0 p.at ek zk ej os n none;
        }

        pub token-closer : (j ≡ 0 → ⊥) → {o : Opened} {rest : List Opened} → os ≡ o ∷ rest → {m' : Memory} {to' : WorkAt} → ClosesInner m o t.to.0 m' to'.0
            → TakesToken m os t m' rest (record { at = record { 0 = t.at.0 + j }; bracket = b; to = to' })
        token-closer n {o} {rest} eo c = let l = text-length in let w = closer-within in record {
          on = (omega (arith, n), w);
          place = c.place;
          text = c.text;
          bracket = subst (λ (y : List ℕ). NextBracket y (t.at.0 + j) b.0) (sym c.text) (bracket-past s t.at.0 (t.at.0 + j) (omega arith) (omega arith) eb);
          takes = closer-taken caption m.areas.text.0 m.areas.base.0 m.areas.end.0 m.work.now m.numbers.now t.to.0 m.lent.0.0 m.lent.0.1 (end-bytes (same-none m)) (end-numbers (same-none m)) p.to.1 t.at.0 p.at ek zk ej os o rest n eo c.closes;
        }

        -- with the text up to the next place where a quote tag may begin
        pub token-text : j ≡ 0 → {q : PostAt} → PlainRun s (t.at.0 + 1) q.0 → {m' : Memory} {to' : WorkAt} → AppendsIn m.work.now m.numbers.now m.areas.end.0 t.to.0 m'.work.now m'.numbers.now to'.0 (part t.at.0 q.0 (cells m.work.now m.numbers.now))
            → length m'.work.now ≡ length m.work.now → length m'.numbers.now ≡ length m.numbers.now → TakesToken m os t m' os (record { at = q; bracket = b; to = to' })
        token-text zj {q} run a sb sn =
            let l = text-length in
            let r = run.0 in
            let kept = appending-keeps caption m.areas.text.0 m.areas.base.0 m.areas.end.0 m.work.now m.numbers.now t.to.0 m.lent.0.0 m.lent.0.1 (end-bytes (same-none m)) (end-numbers (same-none m)) p.to.1 a p.to.0 sb sn in
            record {
              on = (omega (arith, r.0), omega (arith, r.1));
              place = omega (arith, p.to.0, a.appends.grows);
              text = kept;
              bracket = subst (λ (y : List ℕ). NextBracket y q.0 b.0) (sym kept) (bracket-past s t.at.0 q.0 (omega (arith, r.0)) r.1 eb);
              takes = text-taken caption m.areas.text.0 m.areas.base.0 m.areas.end.0 m.work.now m.numbers.now t.to.0 m.lent.0.0 m.lent.0.1 (end-bytes (same-none m)) (end-numbers (same-none m)) p.to.1 t.at.0 p.at ek zk ej os zj run a;
            }
