-- The quote pass writes no `]` of its own: an attribution ends before the first one, so its caption has none.
--   sizes names   what attributions take of a text at the least
-- Assumes nothing.
use mathlib.Core.Path.{◌≡◌, refl, ap}
use mathlib.Core.Bool.{Bool, true, false, cond}
use mathlib.Core.List.{List, [], ◌∷◌, ◌++◌, map}
use Prim.Native.Nat.{ℕ, zero, suc, ◌+◌, ◌-◌, ◌≤◌}
use native.Mathlib.Omega.{arith}
use lib.ListN.{length, take, drop, length-take, length-drop, length-map}
use lib.Dec.{ltb}
use Rattle.text.specs.Ascii.{ascii, to_bracket}
use Rattle.text.specs.Cells.{Cell, written, feed, bytes}
use Rattle.text.specs.Lines.{trim, all_blank, lines, followed, joined}
use Rattle.text.specs.Origins.{count}
use Rattle.text.proofs.Areas.{drop-take}
use Rattle.text.proofs.SplitLaws.{strung}
use Rattle.text.proofs.Bracketing.{brackets, brackets-none, brackets-drop, brackets-before, brackets-length, brackets-cells, trim-brackets, lines-brackets}
use Rattle.attribution_parts.specs.Attribution.{caption}
use Rattle.attribution_parts.proofs.Bracketing.{caption-brackets}
use Rattle.attribution.proofs.TextLaws.{written-bytes}
use Rattle.quote_tags.specs.Tags.{up_to_bracket, begins_any, tag_size, openers, opener_size, closer_size, attribution_of}
use Rattle.quote_blocks.specs.Quotes.{Token, text, opens, closes, token_of, rest_of, tokens, attributions_in, attributions}
use Rattle.quote_blocks.specs.Quotes.{quoted_line, quoted_lines, caption_line, quote_block, Quote, State, start, close, closed, step, finish, run, quotes}

-- ---- an attribution

-- an attribution has none
attribution-brackets : (s : List ℕ) → brackets (attribution_of s) ≡ 0
unfolding attribution_of opener_size tag_size up_to_bracket
attribution-brackets s = by (begins_any openers s) (ltb (to_bracket s) (length s))
  where
    by : (t u : Bool) → brackets (take (cond t (cond u (suc (to_bracket s)) 0) 0 - 8) (drop 7 s)) ≡ 0
    by true true =
        let e : suc (to_bracket s) - 8 ≡ to_bracket s - 7 = omega arith in
        rw (e, ← drop-take 7 (to_bracket s) s) (omega (arith, brackets-drop 7 (take (to_bracket s) s), brackets-before s))
    by true false = brackets-none
    by false u = brackets-none

-- ---- a block

-- a written text has those of its bytes
written-brackets : (s : List ℕ) → brackets (bytes (written s)) ≡ brackets s
written-brackets s = ap (λ (t : List ℕ). brackets t) (written-bytes s)

-- a quoted line has no more than the line
quoted_line-brackets : (l : List Cell) → brackets (bytes (quoted_line l)) ≤ brackets (bytes l)
unfolding quoted_line count
quoted_line-brackets l = by (all_blank l)
  where
    by : (t : Bool) → brackets (bytes (cond t (written (ascii ">")) (written (ascii "> ") ++ l))) ≤ brackets (bytes l)
    by true = omega (arith, written-brackets (ascii ">"))
    by false = omega (arith, brackets-cells (written (ascii "> ")) l, written-brackets (ascii "> "))

-- and so have the lines behind the first
followed-brackets : (ls : List (List Cell)) → brackets (bytes (followed (map quoted_line ls))) ≤ brackets (bytes (strung ls))
unfolding followed strung count
followed-brackets [] = omega arith
followed-brackets (l ∷ ls) = omega (arith, brackets-cells (quoted_line l) (followed (map quoted_line ls)), brackets-cells l (strung ls), quoted_line-brackets l, followed-brackets ls)

-- and all lines
quoted_lines-brackets : (ls : List (List Cell)) → brackets (bytes (quoted_lines ls)) ≤ brackets (bytes (strung ls))
unfolding quoted_lines joined strung count
quoted_lines-brackets [] = omega (arith, written-brackets (ascii ">"))
quoted_lines-brackets (l ∷ ls) = omega (arith, brackets-cells (quoted_line l) (followed (map quoted_line ls)), brackets-cells l (strung ls), quoted_line-brackets l, followed-brackets ls)

-- the line of a caption has those of the caption
caption_line-brackets : (s : List ℕ) → brackets (bytes (caption_line s)) ≡ brackets s
unfolding caption_line count
caption_line-brackets [] = refl
caption_line-brackets (b ∷ s) = omega (arith, brackets-cells (written (ascii "^ ")) (written (b ∷ s)), written-brackets (ascii "^ "), written-brackets (b ∷ s))

-- a block has no more than its caption and its content
quote_block-brackets : (words : List ℕ) (x : List Cell) → brackets (bytes (quote_block words x)) ≤ brackets words + brackets (bytes x)
unfolding quote_block count
quote_block-brackets words x =
    let l = quoted_lines (lines (trim x)) in
    omega (
      arith,
      brackets-cells (l ++ caption_line words) (feed ∷ feed ∷ []),
      brackets-cells l (caption_line words),
      quoted_lines-brackets (lines (trim x)),
      lines-brackets (trim x),
      trim-brackets x,
      caption_line-brackets words,
    )

-- ---- the machine

-- how many `]` open quotes will bring: those of the contents around them and of their captions
in-quotes : List Quote → ℕ
in-quotes [] = 0
in-quotes (q ∷ qs) = brackets (bytes q.outer) + (brackets (caption q.attribution) + in-quotes qs)

-- the innermost content and the open quotes
in-state : State → ℕ
in-state s = brackets (bytes s.now) + in-quotes s.opened

-- how many `]` a token will bring
in-token : Token → ℕ
in-token (text c) = brackets (c.byte ∷ [])
in-token (opens tag a) = brackets (caption a)
in-token (closes tag) = 0

-- how many `]` tokens will bring
in-tokens : List Token → ℕ
in-tokens [] = 0
in-tokens (k ∷ ks) = in-token k + in-tokens ks

-- a closed quote behind its outer content
close-brackets : (q : Quote) (now : List Cell) → brackets (bytes (close caption q now)) ≤ brackets (bytes q.outer) + (brackets (caption q.attribution) + brackets (bytes now))
unfolding close
close-brackets q now = omega (arith, brackets-cells q.outer (quote_block (caption q.attribution) now), quote_block-brackets (caption q.attribution) now)

-- a closer, with or without an open quote
closed-brackets : (now : List Cell) (qs : List Quote) → in-state (closed caption now qs) ≤ brackets (bytes now) + in-quotes qs
unfolding in-state in-quotes closed
closed-brackets now [] = omega arith
closed-brackets now (q ∷ qs) = omega (arith, close-brackets q now)

-- a token brings no more than its own
step-brackets : (k : Token) (s : State) → in-state (step caption k s) ≤ in-token k + in-state s
unfolding in-state in-quotes in-token step
step-brackets (text c) s = omega (arith, brackets-cells s.now (c ∷ []))
step-brackets (opens tag a) s = omega (arith, brackets-none)
step-brackets (closes tag) s = omega (arith, closed-brackets s.now s.opened)

-- the end of the text brings none
finish-brackets : (now : List Cell) (qs : List Quote) → brackets (bytes (finish caption now qs)) ≤ brackets (bytes now) + in-quotes qs
unfolding in-quotes finish
finish-brackets now [] = omega arith
finish-brackets now (q ∷ qs) = omega (arith, finish-brackets (close caption q now) qs, close-brackets q now)

-- a run writes no more than the tokens and the state have
run-brackets : (ks : List Token) (s : State) → brackets (bytes (run caption ks s)) ≤ in-tokens ks + in-state s
unfolding in-state in-tokens run
run-brackets [] s = omega (arith, finish-brackets s.now s.opened)
run-brackets (k ∷ ks) s = omega (arith, run-brackets ks (step caption k s), step-brackets k s)

-- ---- the room of a text

-- what attributions take at the least: a cell for each and one for each of its bytes
unfoldable pub sizes : List (List ℕ) → ℕ
sizes [] = 0
sizes (a ∷ later) = suc (length a) + sizes later

-- an attribution is shorter than its opener and than the text
attribution-short : (c : Cell) (x : List Cell) → (length (attribution_of (bytes (c ∷ x))) ≤ opener_size (bytes (c ∷ x)) - 1) × (length (attribution_of (bytes (c ∷ x))) ≤ length x)
unfolding attribution_of
attribution-short c x =
    let n = opener_size (bytes (c ∷ x)) - 8 in
    let l = length-take n (drop 7 (bytes (c ∷ x))) in
    (omega (arith, l), omega (arith, l, length-drop 6 (bytes x), length-map x (λ (e : Cell). e.byte)))

-- a token takes no more than its cells
token-room : (o j : ℕ) (c : Cell) (x : List Cell) (ks : List Token) → opener_size (bytes (c ∷ x)) ≡ o → sizes (attributions_in ks) + in-tokens ks ≤ length x - rest_of o j
    → sizes (attributions_in (token_of o j c x ∷ ks)) + in-tokens (token_of o j c x ∷ ks) ≤ suc (length x)
unfolding in-token in-tokens attributions_in sizes
token-room (suc k) j c x ks e h =
    let a = attribution-short c x in
    let s = bytes (c ∷ x) in
    omega (arith, a.0, a.1, e, h, caption-brackets (attribution_of s) (attribution-brackets s))
token-room zero (suc j) c x ks e h = omega (arith, h)
token-room zero zero c x ks e h = omega (arith, h, brackets-length (c.byte ∷ []))

-- attributions and the `]` outside them are different cells of the text
tokens-room : (skip : ℕ) (x : List Cell) → sizes (attributions_in (tokens skip x)) + in-tokens (tokens skip x) ≤ length x - skip
unfolding in-tokens tokens attributions_in sizes
tokens-room zero [] = omega arith
tokens-room (suc skip) [] = omega arith
tokens-room (suc skip) (c ∷ x) = omega (arith, tokens-room skip x)
tokens-room zero (c ∷ x) =
    let o = opener_size (bytes (c ∷ x)) in
    let j = closer_size (bytes (c ∷ x)) in
    let h = token-room o j c x (tokens (rest_of o j) x) refl (tokens-room (rest_of o j) x) in
    omega (arith, h)

-- the attributions of a text and the `]` of the text that the pass writes are no more than the cells of the text
pub quotes-room : (x : List Cell) → sizes (attributions x) + brackets (bytes (quotes caption x)) ≤ length x
unfolding quotes attributions in-state in-quotes
quotes-room x = omega (arith, run-brackets (tokens 0 x) start, tokens-room 0 x, brackets-none)
