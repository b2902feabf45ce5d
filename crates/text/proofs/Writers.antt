-- Laws of what a writer leaves. Assumes nothing.
use mathlib.Core.Path.{◌≡◌, refl, sym, ap, subst, ◌∙◌}
use Prim.Native.Nat.{ℕ, ◌≤◌}
use native.Mathlib.Omega.{arith}
use mathlib.Core.List.{List, [], ◌++◌, append_assoc, append-nil}
use lib.ListN.{length}
use Rattle.text.specs.Cells.{Cell, cells, part}
use Rattle.text.specs.Writes.{AppendsIn, Apart, cut}
use Rattle.text.specs.Writers.{Same, Wrote}
use Rattle.text.specs.declared.writer.Writer.{Writer}
use Rattle.text.proofs.Areas.{appends_in-none, appends_in-then, appends_in-as, apart-on, apart-cut, apart-cells, apart-before}

pub same-none : (w : Writer) → Same w w
same-none w = record { bytes = refl; numbers = refl; bytes-size = refl; numbers-size = refl; end = refl }

pub same-then : {w w₁ w₂ : Writer} → Same w w₁ → Same w₁ w₂ → Same w w₂
same-then p q = record { bytes = q.bytes ∙ p.bytes; numbers = q.numbers ∙ p.numbers; bytes-size = q.bytes-size ∙ p.bytes-size; numbers-size = q.numbers-size ∙ p.numbers-size; end = q.end ∙ p.end }

pub wrote-none : (w : Writer) → Wrote w w []
wrote-none w = record { text = appends_in-none w.bytes.now w.numbers.now w.end w.at.0; same = same-none w }

pub wrote-then : {w w₁ w₂ : Writer} {t₁ t₂ : List Cell} → Wrote w w₁ t₁ → Wrote w₁ w₂ t₂ → Wrote w w₂ (t₁ ++ t₂)
wrote-then {w} {w₁} {w₂} {t₁} {t₂} p q =
    record { text = appends_in-then p.text (subst (λ (end : ℕ). AppendsIn w₁.bytes.now w₁.numbers.now end w₁.at.0 w₂.bytes.now w₂.numbers.now w₂.at.0 t₂) p.same.end q.text); same = same-then p.same q.same }

pub wrote-as : {w w' : Writer} {t u : List Cell} → t ≡ u → Wrote w w' t → Wrote w w' u
wrote-as e p = record { text = appends_in-as e p.text; same = p.same }

pub wrote-by : {w w' : Writer} {t u : List Cell} → Wrote w w' t → AppendsIn w.bytes.now w.numbers.now w.end w.at.0 w'.bytes.now w'.numbers.now w'.at.0 u → Wrote w w' u
wrote-by p a = record { text = a; same = p.same }

-- what is appended second, in the area that the writer had first
pub text-on : {w w₁ w₂ : Writer} {t u : List Cell} → Wrote w w₁ t → Wrote w₁ w₂ u → AppendsIn w₁.bytes.now w₁.numbers.now w.end w₁.at.0 w₂.bytes.now w₂.numbers.now w₂.at.0 u
text-on {w} {w₁} {w₂} {t} {u} p q = subst (λ (end : ℕ). AppendsIn w₁.bytes.now w₁.numbers.now end w₁.at.0 w₂.bytes.now w₂.numbers.now w₂.at.0 u) p.same.end q.text

-- ---- a loop that appends: what is still to be written (rest) of all that is to be appended (whole)

pub record Writing (w w' : Writer) (rest whole : List Cell) : Type 0 where
  pub past : List Cell
  pub wrote : Wrote w w' past
  pub parts : past ++ rest ≡ whole

pub writing-start : (w : Writer) (whole : List Cell) → Writing w w whole whole
writing-start w whole = record { past = []; wrote = wrote-none w; parts = refl }

pub writing-more : {w w₁ w₂ : Writer} {old t rest whole : List Cell} → Writing w w₁ old whole → old ≡ t ++ rest → Wrote w₁ w₂ t → Writing w w₂ rest whole
writing-more {t} {rest} l e p = record { past = l.past ++ t; wrote = wrote-then l.wrote p; parts = append_assoc l.past t rest ∙ ap (λ (x : List Cell). l.past ++ x) (sym e) ∙ l.parts }

pub writing-done : {w w' : Writer} {rest whole : List Cell} → Writing w w' rest whole → rest ≡ [] → Wrote w w' whole
writing-done l e = wrote-as (sym (append-nil l.past) ∙ ap (λ (x : List Cell). l.past ++ x) (sym e) ∙ l.parts) l.wrote

-- ---- what stands outside of the area stays

module _ {w w' : Writer} {t : List Cell} (p : Wrote w w' t) where
  pub wrote-grows : w.at.0 ≤ w'.at.0
  wrote-grows = p.text.appends.grows

  pub inside-after : {e : ℕ} → e ≤ length w.bytes.now → e ≤ length w'.bytes.now
  inside-after h = omega (arith, p.same.bytes-size)

  pub apart-after : {a e : ℕ} → Apart a e w.at.0 w.end → Apart a e w'.at.0 w'.end
  apart-after {a} {e} h = subst (λ (end : ℕ). Apart a e w'.at.0 end) (sym p.same.end) (apart-on h p.text.appends.grows)

  pub cut-after : (a e : ℕ) → Apart a e w.at.0 w.end → cut a e w'.bytes.now ≡ cut a e w.bytes.now
  cut-after a e h = apart-cut a e h p.text

  pub part-after : (a e : ℕ) → e ≤ w.at.0 → part a e (cells w'.bytes.now w'.numbers.now) ≡ part a e (cells w.bytes.now w.numbers.now)
  part-after a e h = apart-cells a e (apart-before h) p.text
