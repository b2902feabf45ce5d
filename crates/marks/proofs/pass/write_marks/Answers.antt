use borrow.Author.Rules.{rules}
use Rattle.marks.proofs.Inwards.{placed-slot, placed-done}
use Rattle.marks.proofs.pass.write_marks.Goals as goal

pub write_slot-went-requires : goal.write_slot-went-requires
write_slot-went-requires c = let a = c.args in
    let p = c.requires in
    let t = c.read_items-items in
    (placed-slot a.work.now a.numbers.now t.new.nums a.n a.base.0 a.end t.result p t.auto.nums t.ensures, record { behind = p.1.0.0; inside = p.1.1.0; near = p.1.0.1 })

pub returns : goal.returns
returns c = let a = c.args in
    let t = c.read_items-items in
    let w = c.write_slot-went.ensures in
    placed-done a.work.now a.numbers.now t.new.nums a.n a.base.0 a.end t.result c.requires t.auto.nums t.ensures c.write_slot-went.new.w (search rules) (search rules) w.1.same.end w.0 w.1.behind.bytes
