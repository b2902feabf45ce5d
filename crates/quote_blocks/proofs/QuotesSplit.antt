-- The quote pass splits its text: into what it copies and what it takes out. Assumes nothing.
use mathlib.Core.Path.{◌≡◌, refl, sym, ap, ◌∙◌}
use mathlib.Core.Bool.{Bool, true, false, cond, ◌&&◌, true≢false}
use mathlib.Core.List.{List, [], ◌∷◌, ◌++◌, append_assoc, append-nil}
use Prim.Native.Nat.{ℕ, zero, suc, ◌-◌}
use lib.ListN.{drop, take-append-drop}
use native.Mathlib.Omega.{arith}
use Rattle.text.specs.Ascii.{ascii}
use Rattle.text.specs.Cells.{Cell, written, feed, bytes}
use Rattle.text.specs.Lines.{trim, all_blank, lines}
use Rattle.text.specs.Split.{Split, done, lost, wrote, Keeps}
use Rattle.text.proofs.SplitLaws.{append, keeps-all, takes_all, after, behind, taking, copying, written_keeps, trim-keeps, strung, lines-keeps, each_map, joined_keeps}
use Rattle.quote_tags.specs.Tags.{opener_size, closer_size}
use Rattle.quote_blocks.specs.Quotes.{Token, text, opens, closes, token_of, rest_of, tokens, taken_by, taken, taken_quotes}
use Rattle.quote_blocks.specs.Quotes.{quoted_line, quoted_lines, caption_line, quote_block, Quote, State, start, opening, close, closed, step, finish, run, quotes}

-- ---- tokens spell the text

unfoldable pub spelling : Token → List Cell
spelling (text c) = c ∷ []
spelling (opens tag a) = tag
spelling (closes tag) = tag

unfoldable pub spelled : List Token → List Cell
unfolding spelling
spelled [] = []
spelled (t ∷ r) = spelling t ++ spelled r

token-spelled : (k j : ℕ) (c : Cell) (x : List Cell) → spelling (token_of k j c x) ++ drop (rest_of k j) x ≡ c ∷ x
unfolding spelling
token-spelled (suc k) j c x = ap (λ (y : List Cell). c ∷ y) (take-append-drop k x)
token-spelled zero (suc j) c x = let e : suc j - 1 ≡ j = omega arith in rw e (ap (λ (y : List Cell). c ∷ y) (take-append-drop j x))
token-spelled zero zero c x = refl

tokens-spelled : (skip : ℕ) (x : List Cell) → spelled (tokens skip x) ≡ drop skip x
unfolding spelled tokens
tokens-spelled zero [] = refl
tokens-spelled (suc skip) [] = refl
tokens-spelled (suc skip) (c ∷ x) = tokens-spelled skip x
tokens-spelled zero (c ∷ x) = by (opener_size (bytes (c ∷ x))) (closer_size (bytes (c ∷ x))) (tokens-spelled (rest_of (opener_size (bytes (c ∷ x))) (closer_size (bytes (c ∷ x)))) x)
  where
    by : (k j : ℕ) → spelled (tokens (rest_of k j) x) ≡ drop (rest_of k j) x → spelling (token_of k j c x) ++ spelled (tokens (rest_of k j) x) ≡ c ∷ x
    by k j e = ap (λ (y : List Cell). spelling (token_of k j c x) ++ y) e ∙ token-spelled k j c x

-- ---- a block keeps its content

blank-keeps : (l : List Cell) → all_blank l ≡ true → Keeps [] l
unfolding all_blank
blank-keeps [] h = done
blank-keeps (c ∷ l) h = by c.blank refl h (blank-keeps l)
  where
    by : (b : Bool) → c.blank ≡ b → (b && all_blank l) ≡ true → (all_blank l ≡ true → Keeps [] l) → Keeps [] (c ∷ l)
    by true e g k = lost c e (k g)
    by false e g k = absurd (true≢false (sym g))

quoted_line-if : (l : List Cell) (b : Bool) → all_blank l ≡ b → Keeps (cond b (written (ascii ">")) (written (ascii "> ") ++ l)) l
quoted_line-if l true e = after (blank-keeps l e) (written_keeps (ascii ">"))
quoted_line-if l false e = append (written_keeps (ascii "> ")) (keeps-all l)

quoted_line-keeps : (l : List Cell) → Keeps (quoted_line l) l
unfolding quoted_line
quoted_line-keeps l = quoted_line-if l (all_blank l) refl

quoted_lines-keeps : (ls : List (List Cell)) → Keeps (quoted_lines ls) (strung ls)
unfolding quoted_lines strung
quoted_lines-keeps [] = written_keeps (ascii ">")
quoted_lines-keeps (l ∷ ls) = joined_keeps (each_map quoted_line quoted_line-keeps (l ∷ ls))

caption_line-keeps : (s : List ℕ) → Keeps (caption_line s) []
unfolding caption_line
caption_line-keeps [] = done
caption_line-keeps (b ∷ s) = wrote feed refl (append (written_keeps (ascii "^ ")) (written_keeps (b ∷ s)))

quote_block-keeps : (words : List ℕ) (x : List Cell) → Keeps (quote_block words x) x
unfolding quote_block
quote_block-keeps words x =
    after (trim-keeps x)
    (wrote feed refl (wrote feed refl
    (behind (behind (after (lines-keeps (trim x)) (quoted_lines-keeps (lines (trim x)))) (caption_line-keeps words)) (wrote feed refl (wrote feed refl done)))))

-- ---- the machine

-- all open contents
unfoldable pub open-text : State → List Cell
unfolding opening
open-text s = opening s.opened ++ s.now

module _ (caption : List ℕ → List ℕ) where
  close-keeps : (q : Quote) (qs : List Quote) (now : List Cell) → Keeps (opening qs ++ close caption q now) (opening (q ∷ qs) ++ now)
  unfolding opening close
  close-keeps q qs now =
      rw append_assoc
      (append (keeps-all (opening qs)) (append (keeps-all q.outer) (quote_block-keeps (caption q.attribution) now)))

  closed-keeps : (now : List Cell) (qs : List Quote) → Keeps (open-text (closed caption now qs)) (opening qs ++ now)
  unfolding open-text closed
  closed-keeps now [] = keeps-all now
  closed-keeps now (q ∷ qs) = close-keeps q qs now

  step-splits : (k : Token) (s : State) {t i : List Cell} → Split (open-text s) t i
      → Split (open-text (step caption k s)) (t ++ taken_by k) (i ++ spelling k)
  unfolding step open-text spelling taken_by
  step-splits (text c) s {t} r = rw (append-nil t, ← append_assoc (opening s.opened) s.now (c ∷ [])) (copying r (c ∷ []))
  step-splits (opens tag a) s r = append r (takes_all tag)
  step-splits (closes tag) s r = after (taking r tag) (closed-keeps s.now s.opened)

  finish-splits : (now : List Cell) (qs : List Quote) {t i : List Cell} → Split (opening qs ++ now) t i → Split (finish caption now qs) t i
  unfolding finish opening
  finish-splits now [] r = r
  finish-splits now (q ∷ qs) r = finish-splits (close caption q now) qs (after r (close-keeps q qs now))

  run-splits : (ks : List Token) (s : State) {t i : List Cell} → Split (open-text s) t i → Split (run caption ks s) (t ++ taken ks) (i ++ spelled ks)
  unfolding run taken spelled open-text
  run-splits [] s {t} {i} r = rw (append-nil t, append-nil i) (finish-splits s.now s.opened r)
  run-splits (k ∷ ks) s {t} {i} r =
      rw (← append_assoc t (taken_by k) (taken ks), ← append_assoc i (spelling k) (spelled ks))
      (run-splits ks (step caption k s) (step-splits k s r))

  pub quotes-splits : (x : List Cell) → Split (quotes caption x) (taken_quotes x) x
  unfolding quotes taken_quotes open-text opening
  quotes-splits x = rw (tokens-spelled 0 x) at (run-splits (tokens 0 x) start done)
