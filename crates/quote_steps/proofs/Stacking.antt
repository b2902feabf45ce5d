-- Laws of the stack of open quotes. Assumes nothing.
use Rattle.std.proofs.Common.{◌≡◌, refl, ap, ℕ, zero, suc, ◌+◌, ◌-◌, ◌≤◌, ◌<◌, List, ◌∷◌, length, get_or, set, arith, add-one}
use Rattle.std.proofs.lemmas.List.{get_or-set_same, get_or-set_other}
use Rattle.quote_steps.specs.Stack.{topmost, nowhere}
use Rattle.quote_steps.specs.declared.stack.Opened.{Opened}

topmost-length : (d : ℕ) (xs : List Opened) → length (topmost d xs) ≡ d
unfolding topmost
topmost-length zero xs = refl
topmost-length (suc d) xs = ap suc (topmost-length d xs)

-- so the place behind them is within what they may reach
pub depth-below : (d : ℕ) (xs : List Opened) {os : List Opened} {n : ℕ} → topmost d xs ≡ os → length os < n → d < n
depth-below d xs e h = omega (arith, h, ap length e, topmost-length d xs)

topmost-set : (d k : ℕ) (xs : List Opened) (o : Opened) → d ≤ k → topmost d (set xs k o) ≡ topmost d xs
unfolding topmost
topmost-set zero k xs o h = refl
topmost-set (suc d) k xs o h = rw (get_or-set_other xs k d o nowhere (omega arith), topmost-set d k xs o (omega arith)) refl

pub topmost-push : (d : ℕ) (xs : List Opened) (o : Opened) → d < length xs → topmost (d + 1) (set xs d o) ≡ o ∷ topmost d xs
unfolding topmost
topmost-push d xs o h = rw (add-one, get_or-set_same xs d o nowhere h, topmost-set d d xs o (omega arith)) refl

pub topmost-pop : (d : ℕ) (xs : List Opened) → (d ≡ 0 → ⊥) → topmost d xs ≡ get_or xs (d - 1) nowhere ∷ topmost (d - 1) xs
unfolding topmost
topmost-pop zero xs n = absurd (n refl)
topmost-pop (suc d) xs n = let e : suc d - 1 ≡ d = omega arith in rw e refl
