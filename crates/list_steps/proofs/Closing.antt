-- Laws of closing a list by its table. Assumes nothing.
use mathlib.Core.Path.{◌≡◌, refl, sym, ap, ◌∙◌}
use mathlib.Core.Bool.{Bool, false, not, ◌||◌}
use mathlib.Core.List.{List, [], ◌∷◌, ◌++◌}
use Prim.Native.Nat.{ℕ, ◌+◌, ◌-◌, ◌≤◌, ◌<◌}
use native.Mathlib.Omega.{arith}
use lib.ListN.{length, get_or}
use lib.Dec.{ltb}
use borrow.Author.Tests.{lt-ltb, le-ltb}
use Rattle.text.specs.Ascii.{is_empty}
use Rattle.text.specs.Cells.{Cell, cell, cells, part}
use Rattle.text.specs.Lines.{is_feed}
use Rattle.text.proofs.Writing.{part_end, part-snoc}
use Rattle.list_blocks.specs.Lists.{ends_in_feed}
use Rattle.list_steps.specs.Standing.{feed_at, FrameAt}

-- ---- the line feed before an inner block

snoc-empty : (x : List Cell) (c : Cell) → is_empty (x ++ c ∷ []) ≡ false
snoc-empty [] c = refl
snoc-empty (d ∷ x) c = refl

snoc-ends : (x : List Cell) (c : Cell) → ends_in_feed (x ++ c ∷ []) ≡ is_feed c
snoc-ends [] c = refl
snoc-ends (d ∷ []) c = refl
snoc-ends (d ∷ e ∷ x) c = snoc-ends (e ∷ x) c

or-snoc : (x : List Cell) (c : Cell) → (is_empty (x ++ c ∷ []) || ends_in_feed (x ++ c ∷ [])) ≡ is_feed c
or-snoc x c = rw (snoc-empty x c, snoc-ends x c)

module _ (bs ns : List ℕ) (first outer : ℕ) (o s : Bool) (lead : ℕ) (f : FrameAt ns first outer o s lead) where
  pub feed-lead : first ≤ outer + 3 → false ≡ feed_at bs ns first
  unfolding feed_at
  feed-lead h = rw (← f.outer-is, le-ltb (outer + 3) first h)

  module _ (h : outer + 3 < first) where
    pub feed-empty : lead ≤ get_or ns (first - 1) 0 → ltb (get_or ns (first - 1) 0) lead ≡ feed_at bs ns first
    unfolding feed_at
    feed-empty le = rw (← f.outer-is, ← f.lead-is, lt-ltb (outer + 3) first h, le-ltb (get_or ns (first - 1) 0) lead le, part_end (get_or ns (first - 1) 0) lead (cells bs ns) le)

    pub feed-some : get_or ns (first - 1) 0 < lead → get_or ns (first + 2) 0 ≤ length bs → get_or ns (first + 2) 0 ≤ length ns
        → (t : Bool) → t ≡ is_feed (cell (get_or bs (lead - 1) 0) (get_or ns (lead - 1) 0)) → not t ≡ feed_at bs ns first
    unfolding feed_at
    feed-some lt hb hn t e =
        let i = f.lead-is in
        let q : get_or ns (first + 2) 0 ≡ lead - 1 + 1 = omega arith in
        rw (← f.outer-is, lt-ltb (outer + 3) first h, q, part-snoc bs ns (get_or ns (first - 1) 0) (lead - 1) (omega arith) (omega arith) (omega arith))
        (ap not (e ∙ sym (or-snoc (part (get_or ns (first - 1) 0) (lead - 1) (cells bs ns)) (cell (get_or bs (lead - 1) 0) (get_or ns (lead - 1) 0)))))
