-- Laws of a marks text in which no quote stands, and of one that lists leaves as it is besides. Assumes nothing.
use mathlib.Core.Path.{◌≡◌, refl, sym, ap, ◌∙◌}
use mathlib.Core.Bool.{false}
use mathlib.Core.List.{List, []}
use Prim.Native.Nat.{ℕ, ◌≤◌}
use native.Mathlib.Omega.{arith}
use lib.ListN.{length}
use lib.Dec.{ltb}
use borrow.Author.Tests.{le-ltb}
use Rattle.text.specs.Cells.{Cell, bytes}
use Rattle.text.specs.Writes.{LaidOut}
use Rattle.attribution_parts.specs.Attribution.{caption}
use Rattle.attribution_losses.specs.Lists.{loss_words}
use Rattle.quote_blocks.specs.Quotes.{attributions, quotes, quotes_need}
use Rattle.quote_lines.specs.Lines.{lines_of}
use Rattle.quote_losses.specs.Losses.{losses_in, quote_losses, loss_bytes, records_from, loss_records}
use Rattle.list_blocks.specs.Lists.{lists, lists_need}
use Rattle.post_steps.specs.Plain.{Unquoted, Unlisted}
use Rattle.quotes.specs.Calls.{limited}
use Rattle.lists.specs.Calls as Lists
use Rattle.std.specs.Prelude.{Ok}
use Rattle.post.specs.Calls.{marked, spaced, Noted, Left, Lays}
use Rattle.post.proofs.Calling.{with_losses, marked-fine}

-- ---- without quotes there are no losses

module _ (x : List Cell) (none : attributions x ≡ []) where
  losses-none : quote_losses x ≡ []
  unfolding quote_losses losses_in
  losses-none = ap losses_in none

  bytes-none : loss_bytes x ≡ []
  unfolding loss_bytes loss_words
  bytes-none = ap loss_words losses-none

  records-none : (post : List ℕ) → loss_records post x ≡ []
  unfolding loss_records records_from
  records-none post = ap (λ (names : List (List ℕ)). records_from 1 0 names (lines_of post names)) none

-- the marks text has the bytes s, and is no longer than m
module _ (text : List Cell) (s : List ℕ) (m : ℕ) (text-bytes : bytes text ≡ s) (near : length text ≤ m) where
  module _ (u : Unquoted s) where
    spaced-none : spaced text m ≡ Lists.converted text m
    unfolding spaced
    spaced-none =
        let g = u text text-bytes in
        let fits : quotes_need caption text ≤ m = omega (arith, g.1.1, near) in
        rw (le-ltb m (quotes_need caption text) fits, g.1.0) refl

    pub marked-none : (j b : ℕ) → with_losses 0 0 (Lists.converted text m) ≡ marked text m j b
    marked-none j b =
        let g = u text text-bytes in
        let l = losses-none text g.0.1 in
        let w = bytes-none text g.0.1 in
        let fine : limited false (ltb j 0) (ltb b 0) ≡ Ok tt = rw (le-ltb j 0 (omega arith), le-ltb b 0 (omega arith)) refl in
        ap (with_losses 0 0) (sym spaced-none) ∙ marked-fine text m j b b 0 0 false refl (sym g.0.0) (sym (ap length l)) (sym (ap length w)) fine

    -- what is laid out is what quotes and lists leave, and there are no loss bytes
    pub unquoted-left : (n : ℕ) (words : List ℕ) {k : ℕ} {out plain : List ℕ} → LaidOut (lists text) m k out plain
        → Left (lists (quotes caption text)) (loss_bytes text) m k (Ok (record { size = n; losses = 0; bytes = 0 })) out plain words
    unquoted-left n words p = let g = u text text-bytes in rw (g.1.0, bytes-none text g.0.1) (p, (omega arith, refl))

    pub unquoted-noted : {n : ℕ} (post : List ℕ) (j : ℕ) (numbers : List ℕ) → Noted (loss_records post text) j (Ok (record { size = n; losses = 0; bytes = 0 })) numbers
    unquoted-noted post j numbers =
        let g = u text text-bytes in
        record { room = omega arith; few = omega arith; there = sym (records-none text g.0.1 post) }

  pub unlisted-ends : {k n : ℕ} {out plain : List ℕ} → Unlisted s → n ≡ length text → LaidOut text m k out plain → Lays (lists text) m k (Lists.converted text m) (Ok n) out plain
  unfolding Lists.converted
  unlisted-ends u e laid =
      let d = u text text-bytes in
      record {
        answer = rw (d.0, le-ltb m (lists_need text) (omega (arith, d.1.1, near)), d.1.0, e);
        laid = rw d.1.0 laid;
      }
