-- Reading on behind a tag, the length of all open contents, and that they and the result fit the need. Assumes nothing.
use mathlib.Core.Path.{◌≡◌, refl}
use mathlib.Core.List.{List, [], ◌∷◌}
use Prim.Native.Nat.{ℕ, zero, suc, ◌+◌, ◌≤◌}
use native.Mathlib.Omega.{arith}
use lib.ListN.{length, drop, length-append}
use Rattle.text.specs.Cells.{Cell}
use Rattle.list_blocks.specs.Tags.{Token, tokens}
use Rattle.list_blocks.specs.Lists.{Open, State, nothing, close, step, finish, run, lists, size_of, held, finish_need, run_need, lists_need}
use Rattle.list_steps.specs.Standing.{strung, outers}

pub tokens-skip : (k : ℕ) (x : List Cell) → tokens k x ≡ tokens 0 (drop k x)
unfolding tokens
tokens-skip zero x = refl
tokens-skip (suc k) [] = refl
tokens-skip (suc k) (c ∷ x) = tokens-skip k x

-- ---- all open contents one behind another

parts-size : (xs : List (List Cell)) → length (strung xs) ≡ size_of xs
unfolding strung size_of
parts-size [] = refl
parts-size (x ∷ xs) = simp length-append (omega (arith, parts-size xs))

pub outers-held : (ls : List Open) → length (outers ls) ≡ held ls
unfolding outers held
outers-held [] = refl
outers-held (l ∷ ls) = simp length-append (omega (arith, outers-held ls, parts-size l.parts))

-- ---- the contents are no longer than the need

finish-least : (now : List Cell) (ls : List Open) → held ls + length now ≤ finish_need now ls
unfolding finish_need held
finish-least now [] = omega arith
finish-least now (l ∷ ls) = omega arith

pub need-least : (ks : List Token) (s : State) → held s.lists + length s.now ≤ run_need ks s
unfolding run_need
need-least [] s = finish-least s.now s.lists
need-least (k ∷ ks) s = omega arith

-- ---- nor is the result

finish-fits : (now : List Cell) (ls : List Open) → length (finish now ls) ≤ finish_need now ls
unfolding finish finish_need
finish-fits now [] = omega arith
finish-fits now (l ∷ ls) = omega (arith, finish-fits (close l ls now) ls)

run_fits : (ks : List Token) (s : State) → length (run ks s) ≤ run_need ks s
unfolding run run_need
run_fits [] s = finish-fits s.now s.lists
run_fits (k ∷ ks) s = omega (arith, run_fits ks (step k s))

pub lists-fits : (x : List Cell) → length (lists x) ≤ lists_need x
unfolding lists lists_need
lists-fits x = run_fits (tokens 0 x) nothing
