use mathlib.Core.Path.{sym, subst, ◌∙◌}
use Prim.Native.Nat.{ℕ}
use native.Mathlib.Omega.{arith}
use Rattle.text.specs.Cells.{written}
use Rattle.text.specs.Writes.{AppendsIn}
use Rattle.text.proofs.Writers.{wrote-then, wrote-by, text-on}
use Rattle.attribution_parts.specs.Attribution.{caption}
use Rattle.attribution.specs.Spoken.{said, Spoken}
use Rattle.attribution.proofs.Speaking.{spoken-after}
use Rattle.quote_blocks.proofs.Kept.{tight-spoken, caption-none-in, caption-some-in, tight-none-in, tight-some-in}
use Rattle.quote_blocks.proofs.block.put_caption_line.Goals as goal

pub put_caption-requires : goal.put_caption-requires
put_caption-requires c = let w = c.args.w.now in
    let p = c.put_text.ensures in
    subst (λ (end : ℕ). Spoken c.put_text.new.self.bytes.now w.at.0 end c.args.words) (sym p.same.end) (tight-spoken w.bytes_reach w.numbers_reach p.same.bytes-size p.same.numbers-size c.requires p.text)

pub put_caption-requires-else-w-mark : goal.put_caption-requires-else-w-mark
put_caption-requires-else-w-mark c = spoken-after c.put_text.ensures c.requires

pub returns-then-w-at : goal.returns-then-w-at
returns-then-w-at c = let w = c.args.w.now in
    let v = c.put_text.new.self in
    let x = c.put_caption.new.w in
    let p = c.put_text.ensures in
    let q = c.put_caption.ensures in
    record {
      text = tight-some-in w.bytes_reach w.numbers_reach p.same.bytes-size p.same.numbers-size c.requires p.text q.same.bytes-size q.same.numbers-size
          (subst (λ (end : ℕ). AppendsIn v.bytes.now v.numbers.now end w.at.0 x.bytes.now x.numbers.now x.at.0 (written (caption (said c.args.words v.bytes.now)))) p.same.end q.text) (omega (arith, p.same.end, c.if-w-mark.true)) c.if-w-at.true;
      same = record { bytes = q.same.bytes ∙ p.same.bytes; numbers = q.same.numbers ∙ p.same.numbers; bytes-size = q.same.bytes-size ∙ p.same.bytes-size; numbers-size = q.same.numbers-size ∙ p.same.numbers-size; end = q.same.end ∙ p.same.end };
    }

pub returns-else-w-at : goal.returns-else-w-at
returns-else-w-at c = let w = c.args.w.now in
    let v = c.put_text.new.self in
    let x = c.put_caption.new.w in
    let p = c.put_text.ensures in
    let q = c.put_caption.ensures in
    let e = c.if-w-at.false in
    record {
      text = rw e (tight-none-in w.bytes_reach w.numbers_reach p.same.bytes-size p.same.numbers-size c.requires p.text q.same.bytes-size q.same.numbers-size
          (subst (λ (end : ℕ). AppendsIn v.bytes.now v.numbers.now end w.at.0 x.bytes.now x.numbers.now x.at.0 (written (caption (said c.args.words v.bytes.now)))) p.same.end q.text) (omega (arith, p.same.end, c.if-w-mark.true)) e);
      same = record { bytes = q.same.bytes ∙ p.same.bytes; numbers = q.same.numbers ∙ p.same.numbers; bytes-size = q.same.bytes-size ∙ p.same.bytes-size; numbers-size = q.same.numbers-size ∙ p.same.numbers-size; end = q.same.end ∙ p.same.end };
    }

pub returns-then-w-mark-2 : goal.returns-then-w-mark-2
returns-then-w-mark-2 c = let w = c.args.w.now in
    let p = c.put_text.ensures in
    let q = c.put_caption-else-w-mark.ensures in
    record {
      text = caption-none-in w.bytes_reach w.numbers_reach p.same.bytes-size p.same.numbers-size c.requires p.text q.same.bytes-size q.same.numbers-size (text-on p q) (omega (arith, p.same.end, c.if-w-mark.false)) c.if-w-mark-2.true;
      same = record { bytes = q.same.bytes ∙ p.same.bytes; numbers = q.same.numbers ∙ p.same.numbers; bytes-size = q.same.bytes-size ∙ p.same.bytes-size; numbers-size = q.same.numbers-size ∙ p.same.numbers-size; end = q.same.end ∙ p.same.end };
    }

pub returns-else-w-mark-2 : goal.returns-else-w-mark-2
returns-else-w-mark-2 c = let w = c.args.w.now in
    let p = c.put_text.ensures in
    let q = c.put_caption-else-w-mark.ensures in
    wrote-by (wrote-then p q) (caption-some-in w.bytes_reach w.numbers_reach p.same.bytes-size p.same.numbers-size c.requires p.text q.same.bytes-size q.same.numbers-size (text-on p q) (omega (arith, p.same.end, c.if-w-mark.false)) c.if-w-mark-2.false)
