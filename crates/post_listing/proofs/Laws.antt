-- Laws of what is printed of a post. Assumes nothing.
use mathlib.Core.Path.{◌≡◌, sym}
use mathlib.Core.Bool.{true, false}
use Prim.Native.Nat.{ℕ, min}
use native.Mathlib.Omega.{arith}
use mathlib.Core.List.{List}
use lib.ListN.{length, take}
use lib.Dec.{ltb}
use Rattle.std.specs.Prelude.{Result, Ok, Err}
use Rattle.std.proofs.lemmas.List.{take_min}
use Rattle.text.specs.declared.writer.Writer.{Writer}
use Rattle.lending.specs.declared.answer.Converted.{Converted}
use Rattle.lending.specs.declared.lent.Refusal.{Refusal}
use Rattle.lending.specs.declared.lent.Refusal.TheVariants.{TextTooLong}
use Rattle.losses.specs.declared.Loss.{Loss}
use Rattle.post.specs.Calls.{Called}
use Rattle.listing.specs.Listing.{listing, Lists}
use Rattle.post_listing.specs.Prints.{answer_listing, post_listing}

pub done-listed : (done : Converted) (a r u : ℕ) (out plain : List ℕ) (records : List Loss) (words : List ℕ) {w w' : Writer}
    → length out ≡ length plain → a ≡ min done.size (length out) → r ≡ min done.losses (length records) → u ≡ min done.bytes (length words)
    → Lists w w' (listing (take a out) (take a plain) (take r records) (take u words)) → Lists w w' (answer_listing (Ok done) out plain records words)
done-listed done a r u out plain records words e p q s l = rw (p, q, s, take_min done.size out, e, take_min done.size plain, take_min done.losses records, take_min done.bytes words) at l

module _ (post : List ℕ) (m k b w n : ℕ) (answer : Result Converted Refusal) (out plain : List ℕ) (records : List Loss) (words : List ℕ) {v v' : Writer} where
  pub too_long : ltb 1024 (length post) ≡ true → answer ≡ Err TextTooLong → Lists v v' (answer_listing answer out plain records words) → Lists v v' (post_listing post m k b w n)
  unfolding post_listing
  too_long e f l = rw e (rw f at l)

pub answer-listed : (post : List ℕ) (m k b w n : ℕ) (answer : Result Converted Refusal) (out plain : List ℕ) (records : List Loss) (words : List ℕ) {v v' : Writer} → ltb 1024 (length post) ≡ false
    → Called post m k 64 b w n answer out plain records words → Lists v v' (answer_listing answer out plain records words) → Lists v v' (post_listing post m k b w n)
unfolding post_listing
answer-listed post m k b w n (Err r) out plain records words e c l = rw (e, sym c.answer) l
answer-listed post m k b w n (Ok done) out plain records words e c l = rw (e, sym c.answer, sym c.filled.laid.text, sym c.filled.laid.from, sym c.listed, sym c.filled.spelled) l
