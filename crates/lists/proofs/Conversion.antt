-- Laws of a whole call. Assumes nothing.
use mathlib.Core.Path.{◌≡◌, refl, ap, ◌∙◌}
use mathlib.Core.Bool.{Bool, true, false, cond}
use mathlib.Core.List.{List}
use Prim.Native.Nat.{ℕ, ◌+◌, ◌-◌, ◌≤◌, ◌<◌}
use native.Mathlib.Omega.{arith}
use lib.ListN.{length, take, drop, length-take, length-drop}
use borrow.Author.Tests.{lt-ltb, le-ltb}
use Rattle.std.specs.Prelude.{Ok, Err}
use Rattle.text.specs.Cells.{Cell, cells_of, part}
use Rattle.lending.specs.Lent.{checked}
use Rattle.lending.specs.declared.lent.Lent.{Lent}
use Rattle.lending.specs.declared.lent.Refusal.{Refusal}
use Rattle.lending.specs.declared.lent.Refusal.TheVariants.{TooDeep, NoSpace}
use Rattle.list_blocks.specs.Tags.{tokens, pushes, too_deep}
use Rattle.list_blocks.specs.Lists.{lists, lists_need}
use Rattle.list_steps.specs.Standing.{Written}
use Rattle.lists.specs.Calls.{converted, answered}
use Rattle.list_blocks.proofs.Pushes.{pushes-length}
use Rattle.list_steps.proofs.Needs.{lists-fits}

-- the table's room
pub table_fits : (a e table numbers : ℕ) (v : List Cell) → table + (e - a) ≤ numbers → table + pushes (tokens 0 (part a e v)) ≤ numbers
unfolding part
table_fits a e table numbers v h =
    let p = pushes-length (drop a (take e v)) in
    let d = length-drop a (take e v) in
    let t = length-take e v in
    omega (arith, h, p, d, t)

-- the text stands at the front
pub at_front : (n : ℕ) (v x : List Cell) → part 0 (0 + n) v ≡ x → part 0 n v ≡ x
at_front n v x z = let e : n ≡ 0 + n = omega arith in ap (λ (k : ℕ). part 0 k v) e ∙ z

-- where the text ends
pub written-end : {x : List Cell} {base m r need : ℕ} {bs ns : List ℕ} → Written x base m bs ns r need → (base ≤ r) × (r ≤ base + m)
written-end {x} w =
    let e = w.end in
    let a = w.needs in
    let b = w.fits in
    let f = lists-fits x in
    (omega arith, omega arith)

-- ---- what the call answers

-- where the pass refuses, or does not
pub converted-refused : (x : List Cell) (m : ℕ) (r : Refusal) (t : Bool) → too_deep x ≡ t → r ≡ cond t TooDeep NoSpace → (t ≡ false → m < lists_need x) → Err r ≡ converted x m
unfolding converted
converted-refused x m r true d q over = rw (d, q)
converted-refused x m r false d q over = rw (d, q, lt-ltb m (lists_need x) (over refl))

pub converted-done : (x : List Cell) (base m room end need : ℕ) (bs ns : List ℕ) → room ≤ m → too_deep x ≡ false → Written x base room bs ns end need → Ok (end - base) ≡ converted x m
unfolding converted
converted-done x base m room end need bs ns h d w =
    let n : lists_need x ≤ m = (let a = w.needs in let b = w.fits in omega arith) in
    let s : end - base ≡ length (lists x) = (let e = w.end in omega arith) in
    rw (d, le-ltb m (lists_need x) n, s)

-- by what is checked first
pub answered-refused : (text : List ℕ) (l : Lent) (r : Refusal) → Err r ≡ checked text l → Err r ≡ answered text l
unfolding answered
answered-refused text l r e = rw (← e)

pub answered-fine : (text : List ℕ) (l : Lent) → Ok tt ≡ checked text l → answered text l ≡ converted (cells_of text) l.out
unfolding answered
answered-fine text l e = rw (← e)
