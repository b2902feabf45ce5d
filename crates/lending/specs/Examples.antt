-- Worked facts about the definitions, proved by computation. Assumes nothing.
use Rattle.text.specs.Bounds.{text_most}
use Rattle.std.specs.Prelude.{◌≡◌, refl, true, false, List, [], ◌∷◌, ℕ, ◌+◌, length, Option, Some, None, Ok, Err}
use Rattle.text.specs.Ascii as A
use Rattle.lending.specs.Utf8 as U
use Rattle.lending.specs.Lent as N
use Rattle.lending.specs.declared.lent.Refusal.TheVariants.{TextTooLong, SizesWrong, NotUtf8, ZeroOrReturn}
use Rattle.lending.specs.declared.lent.Lent.{Lent}

-- ---- UTF-8: overlong forms, a surrogate, above U+10FFFF, a stray and a missing byte are refused

refused-c0-80 : U.utf8 (0xC0 ∷ 0x80 ∷ []) ≡ false
unfolding A.computes U.computes
refused-c0-80 = refl

refused-e0-80-80 : U.utf8 (0xE0 ∷ 0x80 ∷ 0x80 ∷ []) ≡ false
unfolding A.computes U.computes
refused-e0-80-80 = refl

refused-ed-a0-80 : U.utf8 (0xED ∷ 0xA0 ∷ 0x80 ∷ []) ≡ false
unfolding A.computes U.computes
refused-ed-a0-80 = refl

refused-f4-90-80-80 : U.utf8 (0xF4 ∷ 0x90 ∷ 0x80 ∷ 0x80 ∷ []) ≡ false
unfolding A.computes U.computes
refused-f4-90-80-80 = refl

refused-stray-80 : U.utf8 (0x80 ∷ []) ≡ false
unfolding A.computes U.computes
refused-stray-80 = refl

refused-truncated : U.utf8 (97 ∷ 0xE2 ∷ 0x82 ∷ []) ≡ false
unfolding A.computes U.computes
refused-truncated = refl

-- one character of each row of the table, its least and its greatest
accepted-rows : U.utf8
    (0x00 ∷ 0x7F ∷ 0xC2 ∷ 0x80 ∷ 0xDF ∷ 0xBF ∷ 0xE0 ∷ 0xA0 ∷ 0x80 ∷ 0xE1 ∷ 0x80 ∷ 0x80 ∷ 0xEC ∷ 0xBF ∷ 0xBF ∷ 0xED ∷ 0x9F ∷ 0xBF
    ∷ 0xEE ∷ 0x80 ∷ 0x80 ∷ 0xEF ∷ 0xBF ∷ 0xBF ∷ 0xF0 ∷ 0x90 ∷ 0x80 ∷ 0x80 ∷ 0xF1 ∷ 0x80 ∷ 0x80 ∷ 0x80 ∷ 0xF3 ∷ 0xBF ∷ 0xBF ∷ 0xBF
    ∷ 0xF4 ∷ 0x8F ∷ 0xBF ∷ 0xBF ∷ []) ≡ true
unfolding A.computes U.computes
accepted-rows = refl

-- ---- lent sizes, at and one below each bound: a text of 10 bytes and an output of 4

abbrev lent : (out origins work numbers : ℕ) → Option ℕ → Lent
lent out origins work numbers spans = record { out = out; origins = origins; work = work; numbers = numbers; spans = spans }

sizes-enough : N.sizes_right 10 (lent 4 4 22 156 (Some 6)) ≡ true
unfolding N.computes
sizes-enough = refl

origins-short : N.sizes_right 10 (lent 4 3 22 156 (Some 6)) ≡ false
unfolding N.computes
origins-short = refl

work-short : N.sizes_right 10 (lent 4 4 21 156 (Some 6)) ≡ false
unfolding N.computes
work-short = refl

numbers-short : N.sizes_right 10 (lent 4 4 22 155 (Some 6)) ≡ false
unfolding N.computes
numbers-short = refl

spans-short : N.sizes_right 10 (lent 4 4 22 156 (Some 5)) ≡ false
unfolding N.computes
spans-short = refl

spans-not-lent : N.sizes_right 10 (lent 4 4 22 156 None) ≡ true
unfolding N.computes
spans-not-lent = refl

output-most : N.sizes_right 0 (lent 16777216 16777216 50331648 50331712 None) ≡ true
unfolding N.computes
output-most = refl

output-too-long : N.sizes_right 0 (lent 16777217 16777217 50331651 50331715 None) ≡ false
unfolding N.computes
output-too-long = refl

-- ---- the refusals 1 to 4, the first listed wins

-- m = 0 is a legal size
fine-empty : N.checked [] (lent 0 0 0 64 None) ≡ Ok tt
unfolding A.computes U.computes N.computes
fine-empty = refl

sizes-before-utf8 : N.checked (0xFF ∷ []) (lent 0 0 0 72 None) ≡ Err SizesWrong
unfolding A.computes U.computes N.computes
sizes-before-utf8 = refl

utf8-before-zero : N.checked (0xFF ∷ 0x00 ∷ []) (lent 0 0 2 80 None) ≡ Err NotUtf8
unfolding A.computes U.computes N.computes
utf8-before-zero = refl

zero-refused : N.checked (97 ∷ 0 ∷ []) (lent 0 0 2 80 None) ≡ Err ZeroOrReturn
unfolding A.computes U.computes N.computes
zero-refused = refl

return_refused : N.checked (13 ∷ []) (lent 0 0 1 72 None) ≡ Err ZeroOrReturn
unfolding A.computes U.computes N.computes
return_refused = refl

-- by the length alone, whatever is lent
too_long : (text : List ℕ) (l : Lent) → length text ≡ text_most + 1 → N.checked text l ≡ Err TextTooLong
unfolding N.checked
too_long text l e = rw e
