-- The answer of a conversion that lists losses: the lengths of the text and of the loss bytes, with the number of losses between; or a refusal.
--   number_of_answer r   document 01's number: 0 where the call is not turned back
--   counts_of_answer r   the three values; 0 each on a refusal
--   losses_by r          how many losses: none on a refusal
--   if_done r l          l, or nothing on a refusal
--   answer_by r else     a refusal as it is, or else what is answered
-- Assumes nothing.
use Rattle.std.specs.Prelude.{ℕ, List, [], ◌∷◌, Result, Ok, Err}
use Rattle.lending.specs.Lent.{number_of}
use Rattle.lending.specs.declared.lent.Refusal.{Refusal}
use Rattle.lending.specs.declared.answer.Converted.{Converted}

abbrev pub number_of_answer : {A : Type 0} → Result A Refusal → ℕ
number_of_answer (Ok done) = 0
number_of_answer (Err refusal) = number_of refusal

abbrev pub counts_of_answer : Result Converted Refusal → List ℕ
counts_of_answer (Ok done) = done.size ∷ done.losses ∷ done.bytes ∷ []
counts_of_answer (Err refusal) = 0 ∷ 0 ∷ 0 ∷ []

abbrev pub losses_by : Result Converted Refusal → ℕ
losses_by (Ok done) = done.losses
losses_by (Err refusal) = 0

abbrev pub if_done : {A B : Type 0} → Result B Refusal → List A → List A
if_done (Ok done) l = l
if_done (Err refusal) l = []

abbrev pub answer_by : {A B : Type 0} → Result A Refusal → Result B Refusal → Result B Refusal
answer_by (Ok done) else = else
answer_by (Err refusal) else = Err refusal
