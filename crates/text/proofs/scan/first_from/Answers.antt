use Rattle.std.proofs.Common.{rules, arith, ◌≡◌, sym, ◌∙◌, ◌-◌, length, drop, true, false, length-drop}
use Rattle.std.proofs.lemmas.List.{take_all}
use Rattle.std.specs.Option.{unwrap_or}
use Rattle.std.proofs.lemmas.Iterator.{IsFirst-from_position, YieldsList-from_slice}
use Rattle.text.specs.Ascii.{to_first}
use Rattle.text.proofs.Bytes.{first-index}
use Rattle.text.proofs.scan.first_from.Goals as goal

pub returns-in-Some-clause-first : goal.returns-in-Some-clause-first
returns-in-Some-clause-first g c q h =
    let s = c.args.s.now in
    let a = c.args.at in
    let rest : c.iter.result.rest.now ≡ drop a s = c.iter.ensures.rest ∙ take_all (length s - a) (drop a s) (simp length-drop (omega arith)) in
    let f : to_first q (drop a s) ≡ unwrap_or c.position.result (length (drop a s)) = first-index q (drop a s) c.position.result
    (IsFirst-from_position _ _ _ (λ b. q b ≡ true) (λ b. q b ≡ false) c.position.ensures.ran (YieldsList-from_slice (drop a s) rest) (λ x f k. sym (h x.now true (search rules))) (λ x f k. (search rules, sym (h x.now false (search rules))))) in
    let e : unwrap_or c.position.result (length (drop a s)) ≡ c.in-Some.n = rw c.in-Some.is in
    omega (arith, f, e)

pub returns-clause-first : goal.returns-clause-first
returns-clause-first g c q h =
    let s = c.args.s.now in
    let a = c.args.at in
    let rest : c.iter.result.rest.now ≡ drop a s = c.iter.ensures.rest ∙ take_all (length s - a) (drop a s) (simp length-drop (omega arith)) in
    let f : to_first q (drop a s) ≡ unwrap_or c.position.result (length (drop a s)) = first-index q (drop a s) c.position.result
    (IsFirst-from_position _ _ _ (λ b. q b ≡ true) (λ b. q b ≡ false) c.position.ensures.ran (YieldsList-from_slice (drop a s) rest) (λ x f k. sym (h x.now true (search rules))) (λ x f k. (search rules, sym (h x.now false (search rules))))) in
    let e : unwrap_or c.position.result (length (drop a s)) ≡ length (drop a s) = rw c.in-None.is in
    omega (arith, f, e, length-drop a s)
