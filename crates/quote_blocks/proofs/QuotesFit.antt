-- The result of the quote pass is no longer than the need. Assumes nothing.
use mathlib.Core.List.{List, [], ◌∷◌}
use Prim.Native.Nat.{ℕ, ◌≤◌}
use native.Mathlib.Omega.{arith}
use lib.ListN.{length}
use Rattle.text.specs.Cells.{Cell}
use Rattle.quote_blocks.specs.Quotes.{Token, Quote, State, start, tokens, close, step, finish, run, quotes, finish_need, run_need, quotes_need}

module _ (caption : List ℕ → List ℕ) where
  finish-fits : (now : List Cell) (qs : List Quote) → length (finish caption now qs) ≤ finish_need caption now qs
  unfolding finish finish_need
  finish-fits now [] = omega arith
  finish-fits now (q ∷ qs) = omega (arith, finish-fits (close caption q now) qs)

  run_fits : (ks : List Token) (s : State) → length (run caption ks s) ≤ run_need caption ks s
  unfolding run run_need
  run_fits [] s = finish-fits s.now s.opened
  run_fits (k ∷ ks) s = omega (arith, run_fits ks (step caption k s))

  pub quotes-fit : (x : List Cell) → length (quotes caption x) ≤ quotes_need caption x
  unfolding quotes quotes_need
  quotes-fit x = run_fits (tokens 0 x) start
