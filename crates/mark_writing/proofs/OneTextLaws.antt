-- Laws of a slot that begins with a text, and of one that is a text. Assumes nothing.
use mathlib.Core.Path.{◌≡◌, refl, sym, ap, ◌∙◌, subst}
use mathlib.Core.List.{List, []}
use mathlib.Core.Bool.{false}
use Prim.Native.Nat.{ℕ, ◌+◌, ◌*◌, ◌≤◌, ◌<◌}
use native.Mathlib.Omega.{arith}
use lib.ListN.{length, get_or}
use Rattle.std.specs.Prelude.{None}
use Rattle.text.specs.Cells.{Cell, cells, part}
use Rattle.text.specs.Writes.{Appends}
use Rattle.text.proofs.Writing.{appends-none}
use Rattle.mark_tags.specs.Marks.{Slots, end, text, front, closed, next, piece_text, start, Step, plain, ◌▹◌, write}
use Rattle.mark_tags.specs.Flat.{within, beyond, slot_at, bound_at, Held, Ready}
use Rattle.mark_pieces.specs.Spans.{Writes, SlotWritten}
use Rattle.mark_pieces.proofs.Pieces.{unescaped, piece-by}
use Rattle.mark_writing.specs.Looked.{Answer}
use Rattle.mark_writing.specs.OneText.{SomeText, OneText}
use Rattle.mark_writing.proofs.Slotting.{at-text, at-leave, bounds, some-text}
use Rattle.mark_writing.proofs.Looking.{here-start, look-text}
use Rattle.mark_writing.proofs.Drawing.{▹-plain, writes-plain}
use Rattle.mark_writing.proofs.SlotWriting.{text-step}

module _ (src ns : List ℕ) (k from : ℕ) where
  abbrev first : ℕ
  first = get_or ns (length src + from) 0

  abbrev behind : ℕ
  behind = get_or ns (length src + (from + 1)) 0

  pub first-text : (depth : ℕ) → Ready src ns k from depth → from < k → SomeText src ns from → Answer src ns k from None
  unfolding bound_at
  first-text depth r h t = (look-text src ns k from depth from (here-start src ns k from depth r) h t.code t.some).0

  pub one-text : from + 1 < k → SomeText src ns from → get_or ns (2 * length src + 2 + (from + 1)) 0 ≡ 2 → OneText src ns k from
  unfolding bound_at
  one-text h t e =
      let n : from + 1 + 1 ≡ from + 2 = omega arith in
      let z : slot_at src ns k (from + 1) ≡ closed end (slot_at src ns k (from + 2)) = rw (← n) (at-leave src ns k (from + 1) h e) in
      record {
        inside = omega arith;
        some = t.some;
        slot = at-text src ns k from (omega arith) t.code ∙ ap (front (text (part first behind (cells src ns)))) z;
      }

  module _ (t : Held src ns k) (o : OneText src ns k from) where
    pub in_source : (first ≤ behind) × ((behind ≤ length src) × (behind ≤ length ns))
    unfolding bound_at
    in_source = let i = o.inside in let s = o.some in let r = t.room in let b = (bounds src ns k from t (omega arith)).1 in (omega arith, (b, omega arith))

    pub text-written : {v v' : List Cell} {at at' : ℕ} (ss : List ℕ) (c : ℕ) → Appends v at v' at' (part first behind (cells src ns)) → SlotWritten src ns k from v at ss c v' at' ss c (from + 2)
    unfolding bound_at write next
    text-written {v} {v'} {at} {at'} ss c a =
        let i = o.inside in
        let q : from < k = omega arith in
        let b = in_source in
        let p : Appends v at v' at' (piece_text false false (part first behind (cells src ns))) =
        piece-by src ns first behind o.some b.1.0 b.1.1 false false false false refl refl (appends-none v at) (unescaped src ns first behind o.some b.1.0 b.1.1 false refl a) in
        let z : write (within (slot_at src ns k from)) start ≡ plain (piece_text false false (part first behind (cells src ns))) =
        ap (λ (x : Slots). write (within x) start) o.slot ∙ ap (λ (x : Step). x.wrote ▹ plain []) (text-step _ _ _ (next end) start (some-text src ns k from t q o.some)) ∙ ▹-plain _ in
        record {
          wrote = subst (Writes v at ss c v' at' ss c) (sym z) (writes-plain ss c _ p);
          behind = sym (ap beyond o.slot);
          up_to = o.inside;
          forward = omega arith;
        }
