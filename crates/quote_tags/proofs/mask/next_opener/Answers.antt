use mathlib.Core.Path.{◌≡◌}
use borrow.Author.Rules.{rules}
use Prim.Native.Nat.{ℕ, ◌+◌}
use mathlib.Core.List.{List}
use lib.ListN.{drop, get_or}
use lib.Seq.{get_or-drop}
use Rattle.quote_tags.specs.Masks.{NoOpener}
use Rattle.quote_tags.proofs.Plain.{first-here}
use Rattle.quote_tags.proofs.mask.next_opener.Goals as goal

pub returns : goal.returns
returns c = let s = c.args.s.now in
    let f = c.first_taken.ensures in (
      f.inside,
      λ j h g. let q = f.before j h g in
          let p : (x : List ℕ) → get_or x 0 0 ≡ get_or s j 0 → get_or x 1 0 ≡ get_or s (j + 1) 0 → get_or x 2 0 ≡ get_or s (j + 2) 0 → NoOpener c.args.letter2 c.args.letter3 x = λ x ea eb ec. search rules in
          p (drop j s) (first-here s j) (get_or-drop j s 1 0) (get_or-drop j s 2 0),
    )
