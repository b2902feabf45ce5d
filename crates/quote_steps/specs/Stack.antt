-- The open quotes of the pass, in an array that is filled from its front.
--   topmost d xs       the first d of them, the last first
--   Popped os r os'    the first of os has been taken off, or there was none
-- Assumes nothing.
use Rattle.std.specs.Prelude.{◌≡◌, ℕ, zero, suc, List, [], ◌∷◌, get_or, Option, Some, None}
use Rattle.quote_steps.specs.declared.stack.Opened.{Opened}

abbrev pub nowhere : Opened
nowhere = record { start = record { 0 = 0 }; tag = record { 0 = 0 } }

unfoldable pub topmost : (depth : ℕ) → List Opened → List Opened
topmost zero xs = []
topmost (suc d) xs = get_or xs d nowhere ∷ topmost d xs

abbrev pub Popped : List Opened → Option Opened → List Opened → Type 0
Popped os None os' = (os ≡ []) × (os' ≡ [])
Popped os (Some o) os' = os ≡ o ∷ os'
