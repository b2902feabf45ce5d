-- Document 01's days (99999999999 stands in proofs/DayNumberLaws: it is a million days off), its refusals, and the leap rule at the
-- ends of centuries. Assumes nothing.
use Rattle.std.specs.Prelude.{◌≡◌, refl, true, false, [], ◌∷◌, ◌++◌, Ok, Err}
use Rattle.text.specs.Ascii.{ascii, computes as text_computes}
use Rattle.text.specs.Writes.{padded}
use Rattle.lending.specs.declared.lent.Refusal.TheVariants.{NotSeconds}
use Rattle.day.specs.Day.{leap, day_of, answer, output, number_of_answer, computes}

starred : day_of (ascii "951782400") ≡ ascii "2000-02-29"
unfolding computes text_computes
starred = refl

starred-call : (answer (ascii "951782400") 12 ≡ Ok tt) × (output (ascii "951782400") 12 ≡ ascii "2000-02-29" ++ (0 ∷ 0 ∷ []))
unfolding computes text_computes padded
starred-call = (refl, refl)

eight-digits : answer (ascii "12345678") 10 ≡ Err NotSeconds
unfolding computes text_computes
eight-digits = refl

twelve-digits : answer (ascii "999999999999") 10 ≡ Err NotSeconds
unfolding computes text_computes
twelve-digits = refl

not-digits : answer (ascii "12345678x") 10 ≡ Err NotSeconds
unfolding computes text_computes
not-digits = refl

-- 2 comes before 9
output-short : number_of_answer (answer (ascii "x") 9) ≡ 2
unfolding computes text_computes
output-short = refl

not-seconds : number_of_answer (answer (ascii "x") 10) ≡ 9
unfolding computes text_computes
not-seconds = refl

leap-1900 : leap 1900 ≡ false
unfolding computes
leap-1900 = refl

leap-2000 : leap 2000 ≡ true
unfolding computes
leap-2000 = refl

leap-2100 : leap 2100 ≡ false
unfolding computes
leap-2100 = refl
