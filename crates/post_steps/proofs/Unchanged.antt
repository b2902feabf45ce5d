-- Texts that quotes and lists leave as they are: a scan for where a tag may begin reaches their end. Assumes nothing.
use mathlib.Core.Path.{◌≡◌, refl, sym, ap, subst, ◌∙◌}
use Prim.Native.Nat.{ℕ, zero, suc, ◌+◌, ◌≤◌, ◌<◌}
use native.Mathlib.Nat.{not-suc-le-zero}
use native.Mathlib.Omega.{arith}
use mathlib.Core.Bool.{Bool, true, false, cond}
use mathlib.Core.List.{List, [], ◌∷◌, ◌++◌, append_assoc, append-nil}
use lib.ListN.{length, take, drop, length-append, length-map, length-drop, take-append-drop, drop_of_length-le}
use lib.Seq.{take_all, drop-drop}
use lib.Dec.{leb}
use borrow.Author.Tests.{leb-true}
use Rattle.text.specs.Ascii.{ascii, begins}
use Rattle.text.specs.Cells.{Cell, bytes, part}
use Rattle.attribution_parts.specs.Attribution.{caption}
use Rattle.quote_tags.specs.Tags.{NoTag}
use Rattle.quote_tags.specs.Masks.{NoOpener}
use Rattle.quote_tags.proofs.Places.{Run}
use Rattle.quote_tags.proofs.Unmasking.{word-by}
use Rattle.quote_blocks.specs.Quotes as Q
use Rattle.quote_blocks.proofs.QuotesFit.{quotes-fit}
use Rattle.quote_blocks.proofs.Reading.{bytes-at}
use Rattle.quote_steps.specs.Passes.{texts, more}
use Rattle.quote_steps.proofs.Texts.{read-run, deep-texts, more-is, run-texts, need-texts}
use Rattle.list_blocks.specs.declared.tag.Tag.{Tag}
use Rattle.list_blocks.specs.declared.tag.Tag.TheVariants.{Item, Closer, Plain}
use Rattle.list_blocks.specs.Tags.{Token, tag_at, rest_of, token_of, tokens, depth_after, over_limit, deeper, too_deep}
use Rattle.list_blocks.specs.Lists.{State, step, finish, run, lists, held, finish_need, run_need, lists_need}
use Rattle.list_steps.proofs.Needs.{tokens-skip}
use Rattle.post_steps.specs.Plain.{Unquoted, Unlisted}

reaches_end : (P : List ℕ → Type 0) (s : List ℕ) (i : ℕ) → Run P s 0 i → leb (length s) i ≡ true → Run P s 0 (length s)
reaches_end P s i f h = let e = leb-true (length s) i h in let z : i ≡ length s = omega (arith, e, f.0.1) in rw z at f

-- ---- quotes: every cell is a text

texts-name : (x : List Cell) → Q.attributions_in (texts x []) ≡ []
unfolding texts Q.attributions_in
texts-name [] = refl
texts-name (c ∷ x) = texts-name x

module _ (s : List ℕ) (f : Run NoTag s 0 (length s)) (x : List Cell) (e : bytes x ≡ s) where
  long : length x ≡ length s
  long = sym (length-map x (λ (c : Cell). c.byte)) ∙ ap length e

  all-text : Q.tokens 0 x ≡ texts x []
  unfolding part Q.tokens
  all-text =
      read-run x s e 0 f
      ∙ ap (λ (l : List Cell). texts l (Q.tokens 0 (drop (length s) x))) (take_all (length s) x (omega (arith, long)))
      ∙ ap (λ (l : List Cell). texts x (Q.tokens 0 l)) (drop_of_length-le x {i = length s} (omega (arith, long)))

  quotes-none : (Q.too_deep x ≡ false) × (Q.attributions x ≡ [])
  unfolding Q.too_deep Q.too_deep_from Q.attributions
  quotes-none = (ap (Q.too_deep_from 0) all-text ∙ deep-texts 0 x [], ap Q.attributions_in all-text ∙ texts-name x)

  quotes-same : Q.quotes caption x ≡ x
  unfolding Q.quotes Q.run Q.finish
  quotes-same = ap (λ (ks : List Q.Token). Q.run caption ks Q.start) all-text ∙ run-texts caption x [] Q.start ∙ rw (more-is x Q.start) refl

  quotes-room : Q.quotes_need caption x ≡ length x
  unfolding Q.quotes_need Q.run_need Q.finish_need Q.total Q.held
  quotes-room =
      let least : length x ≤ Q.quotes_need caption x = subst (λ (l : List Cell). length l ≤ Q.quotes_need caption x) quotes-same (quotes-fit caption x) in
      let enough : Q.total (more Q.start x) ≤ length x = rw (more-is x Q.start) (omega arith) in
      let last : Q.run_need caption [] (more Q.start x) ≡ length x = rw (more-is x Q.start) refl in
      let most = need-texts caption (length x) x [] Q.start enough in
      let whole : Q.quotes_need caption x ≡ Q.run_need caption (texts x []) Q.start = ap (λ (ks : List Q.Token). Q.run_need caption ks Q.start) all-text in
      omega (arith, least, most, last, whole)

pub unquoted : (s : List ℕ) (i : ℕ) → Run NoTag s 0 i → leb (length s) i ≡ true → Unquoted s
unquoted s i f h x e = let g = reaches_end NoTag s i f h in (quotes-none s g x e, (quotes-same s g x e, quotes-room s g x e))

-- ---- lists: no tag opens one

data Stray : Tag → Type 0 where
  item : Stray Item
  closer : Stray Closer
  plain : Stray Plain

-- no `[l`
stray : (x : List Cell) → NoOpener 108 0 (bytes x) → Stray (tag_at x)
unfolding tag_at
stray x h =
    rw (word-by (bytes x) 76 0 refl refl (ascii "ist]") h, word-by (bytes x) 76 0 refl refl (ascii "ist=") h)
    (by (begins (ascii "[*]") (bytes x)) (begins (ascii "[/list]") (bytes x)))
  where
    by : (t u : Bool) → Stray (cond t Item (cond u Closer Plain))
    by true u = item
    by false true = closer
    by false false = plain

-- the text p, with no list open
abbrev root : List Cell → State
root p = record { now = p; second = false; lists = [] }

stray-stays : {t : Tag} → Stray t → (c : Cell) (x p : List Cell) → step (token_of t c x) (root p) ≡ root (p ++ c ∷ take (rest_of t) x)
unfolding step
stray-stays item c x p = refl
stray-stays closer c x p = refl
stray-stays plain c x p = refl

stray-depth : {t : Tag} → Stray t → (c : Cell) (x : List Cell) → (over_limit 0 (token_of t c x) ≡ false) × (depth_after 0 (token_of t c x) ≡ 0)
unfolding depth_after
stray-depth item c x = (refl, refl)
stray-depth closer c x = (refl, refl)
stray-depth plain c x = (refl, refl)

record Stays (x p : List Cell) : Type 0 where
  deep : deeper 0 (tokens 0 x) ≡ false
  text : run (tokens 0 x) (root p) ≡ p ++ x
  need : run_need (tokens 0 x) (root p) ≡ length p + length x

stays : (n : ℕ) (x p : List Cell) → length x ≤ n → ((j : ℕ) → j < length x → Stray (tag_at (drop j x))) → Stays x p
unfolding tokens deeper run run_need finish finish_need held
stays zero [] p h f = record { deep = refl; text = sym (append-nil p); need = omega arith }
stays zero (c ∷ x) p h f = absurd (not-suc-le-zero h)
stays (suc n) [] p h f = record { deep = refl; text = sym (append-nil p); need = omega arith }
stays (suc n) (c ∷ x) p h f =
    let t = f 0 (omega arith) in
    let k = rest_of (tag_at (c ∷ x)) in
    let d = stray-depth t c x in
    let l = length-drop k x in
    let i = stays n (drop k x) (p ++ c ∷ take k x) (omega arith) (λ j g. subst (λ (y : List Cell). Stray (tag_at y)) (sym (drop-drop j k x)) (f (suc (k + j)) (omega arith))) in
    let z : take k x ++ drop k x ≡ x = take-append-drop k x in
    let y : (p ++ c ∷ take k x) ++ drop k x ≡ p ++ c ∷ x = append_assoc p (c ∷ take k x) (drop k x) ∙ ap (λ (r : List Cell). p ++ c ∷ r) z in
    let w : length (p ++ c ∷ take k x) + length (drop k x) ≡ length p + suc (length x) =
    sym (length-append (p ++ c ∷ take k x) (drop k x)) ∙ ap length y ∙ length-append p (c ∷ x) in
    let q : run_need (tokens k x) (step (token_of (tag_at (c ∷ x)) c x) (root p)) ≡ length (p ++ c ∷ take k x) + length (drop k x) =
    ap (λ (u : State). run_need (tokens k x) u) (stray-stays t c x p) ∙ ap (λ (ks : List Token). run_need ks (root (p ++ c ∷ take k x))) (tokens-skip k x) ∙ i.need in
    record {
      deep = rw (d.0, d.1, tokens-skip k x) i.deep;
      text = ap (λ (u : State). run (tokens k x) u) (stray-stays t c x p) ∙ ap (λ (ks : List Token). run ks (root (p ++ c ∷ take k x))) (tokens-skip k x) ∙ i.text ∙ y;
      need = omega (arith, q, w);
    }

pub unlisted : (s : List ℕ) (i : ℕ) → Run (NoOpener 108 0) s 0 i → leb (length s) i ≡ true → Unlisted s
unfolding too_deep lists lists_need
unlisted s i f h x e =
    let r = reaches_end (NoOpener 108 0) s i f h in
    let l : length x ≡ length s = sym (length-map x (λ (c : Cell). c.byte)) ∙ ap length e in
    let g = stays (length x) x [] (omega arith) (λ j d. stray (drop j x) (subst (NoOpener 108 0) (sym (bytes-at x s e j)) (r.1 j (omega arith) (omega (arith, l))))) in
    (g.deep, (g.text, (let z = g.need in omega arith)))
