-- What the exported operations return and set `counts` to: length, number of marks or of losses, loss bytes.
--   day_counts a             the counts of an answer to a call for a day
--   lists_number, lists_counts, marks_number, marks_counts   document 01's number (0: done) and the counts of an answer to a call for lists, for marks
--   Countable ns            each of these numbers fits 32 bits
--   Reported a r cs         r comes back for an answer a to a call that lists losses, and `counts` is cs
--   Reports number counts Called r cs   r comes back and `counts` is cs, as these say of the answer of which Called holds
--   ListsReport ..          of a call for lists: what comes back, and what the lent slices then hold
--   MarksReport ..          of a call for marks
--   AttributionReport ..    of a call for an attribution
--   QuotesReport ..         of a call for quotes
--   PostReport ..           of a call for a whole post, demand 3 with it
-- m, k: the lengths of the output and the origins; s: of the spans; j, b: of the records and the loss bytes; w, n: of the work bytes and the
-- work numbers.
-- Assumes nothing.
use Rattle.std.specs.Prelude.{◌≡◌, ℕ, ◌≤◌, List, [], ◌∷◌, Result, Ok, Err}
use Rattle.lending.specs.Answer.{number_of_answer, counts_of_answer}
use Rattle.lending.specs.declared.lent.Refusal.{Refusal}
use Rattle.lending.specs.declared.answer.Converted.{Converted}
use Rattle.lists.specs.Calls as Lists
use Rattle.marks.specs.declared.Marked.{Marked}
use Rattle.marks.specs.Calls as Marks
use Rattle.losses.specs.declared.Loss.{Loss}
use Rattle.attribution.specs.Calls as Attribution
use Rattle.quotes.specs.Calls as Quotes
use Rattle.post.specs.Calls as Post

abbrev pub day_counts : Result (Unit {0}) Refusal → List ℕ
day_counts (Ok done) = 10 ∷ 0 ∷ 0 ∷ []
day_counts (Err refusal) = 0 ∷ 0 ∷ 0 ∷ []

abbrev pub lists_number : Result ℕ Refusal → ℕ
lists_number a = number_of_answer a

abbrev pub lists_counts : Result ℕ Refusal → List ℕ
lists_counts (Ok size) = size ∷ 0 ∷ 0 ∷ []
lists_counts (Err refusal) = 0 ∷ 0 ∷ 0 ∷ []

abbrev pub marks_number : Result Marked Refusal → ℕ
marks_number a = number_of_answer a

abbrev pub marks_counts : Result Marked Refusal → List ℕ
marks_counts (Ok marked) = marked.size ∷ marked.spans ∷ 0 ∷ []
marks_counts (Err refusal) = 0 ∷ 0 ∷ 0 ∷ []

abbrev pub Countable : List ℕ → Type 0
Countable [] = Unit {0}
Countable (n ∷ ns) = (n ≤ 4294967295) × Countable ns

abbrev pub Reported : Result Converted Refusal → (r : ℕ) → (cs : List ℕ) → Type 0
Reported a r cs = (r ≡ number_of_answer a) × (cs ≡ counts_of_answer a)

-- Called fixes the answer by an equation
pub record Reports {A : Type 0} (number : A → ℕ) (counts : A → List ℕ) (Called : A → Type 0) (r : ℕ) (cs : List ℕ) : Type 0 where
  pub answer : A
  pub returned : r ≡ number answer
  pub counted : cs ≡ counts answer
  pub called : Called answer

abbrev pub ListsReport : (text : List ℕ) (m k w n : ℕ) (r : ℕ) (out plain cs : List ℕ) → Type 0
ListsReport text m k w n r out plain cs = Reports lists_number lists_counts (λ a. Lists.Called text m k w n a out plain) r cs

abbrev pub MarksReport : (text : List ℕ) (m k s w n : ℕ) (r : ℕ) (out plain spans cs : List ℕ) → Type 0
MarksReport text m k s w n r out plain spans cs = Reports marks_number marks_counts (λ a. Marks.Called text m k s w n a out plain spans) r cs

abbrev pub AttributionReport : (text : List ℕ) (m k j b w n : ℕ) (r : ℕ) (out plain : List ℕ) (records : List Loss) (words cs : List ℕ) → Type 0
AttributionReport text m k j b w n r out plain records words cs =
    Reports number_of_answer counts_of_answer (λ a. Attribution.Called text m k j b w n a out plain records words) r cs

abbrev pub QuotesReport : (text : List ℕ) (m k j b w n : ℕ) (r : ℕ) (out plain : List ℕ) (records : List Loss) (words cs : List ℕ) → Type 0
QuotesReport text m k j b w n r out plain records words cs =
    Reports number_of_answer counts_of_answer (λ a. Quotes.Called text m k j b w n a out plain records words) r cs

abbrev pub PostReport : (text : List ℕ) (m k j b w n : ℕ) (r : ℕ) (out plain : List ℕ) (records : List Loss) (words cs : List ℕ) → Type 0
PostReport text m k j b w n r out plain records words cs =
    Reports number_of_answer counts_of_answer (λ a. Post.Called text m k j b w n a out plain records words × Post.Copied text a out plain) r cs
