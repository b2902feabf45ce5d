use mathlib.Core.Path.{◌≡◌, refl, sym, ap, ◌∙◌}
use mathlib.Core.Bool.{Bool, true, false}
use Prim.Native.Nat.{ℕ, ◌-◌}
use lib.ListN.{get_or}
use Rattle.mark_tags.specs.Marks.{next, marked, touching}
use Rattle.mark_tags.specs.Flat.{within, slot_at}
use Rattle.mark_writing.proofs.look.Items.touches_mark.Goals as goal

never : (b : ℕ) (m r : Bool) → r ≡ touching true b → r ≡ false → touching false b ≡ touching m b
never b true r e f = sym (sym e ∙ f)
never b false r e f = refl

pub next_of-requires : goal.next_of-requires
next_of-requires c = c.requires.0

pub returns-then-is_touching : goal.returns-then-is_touching
returns-then-is_touching c = let a = c.args in
    ap (λ (m : Bool). touching m (get_or a.self.text.now (a.e.0 - 1) 0)) (c.is_mark.ensures ∙ ap marked c.next_of.ensures)

pub returns-else-is_touching : goal.returns-else-is_touching
returns-else-is_touching c = let a = c.args in
    never (get_or a.self.text.now (a.e.0 - 1) 0) (marked (next (within (slot_at a.self.text.now a.self.nums.now a.self.k a.from)))) _ c.is_touching.ensures c.if-is_touching.false
