-- Document 01, "Program `thread`": what it prints of a post.
--   answer_listing r ..   what is printed of an answer r and what a call left in out, origins, loss records and loss bytes: "result (0 or refusal; then
--                        nothing more)"
--   post_listing ..       what is printed of a post, with m output bytes, k origins, 64 records, b loss bytes, w work bytes and n work numbers lent:
--                        "at most 1,024 bytes (longer: 1)"
--   thread_listing ..     what the program prints of a post
-- Assumes nothing.
use Rattle.std.specs.Prelude.{ℕ, cond, List, length, take, ltb, None, Result, Ok, Err}
use Rattle.text.specs.Ascii.{ascii}
use Rattle.text.specs.Cells.{bytes, origins}
use Rattle.text.specs.Decimal.{decimal}
use Rattle.lending.specs.Lent.{number_of}
use Rattle.text.specs.Writes.{padded}
use Rattle.lending.specs.declared.answer.Converted.{Converted}
use Rattle.lending.specs.declared.lent.Refusal.{Refusal}
use Rattle.losses.specs.declared.Loss.{Loss}
use Rattle.losses.specs.Records.{records_lent}
use Rattle.quote_losses.specs.Losses.{loss_bytes, loss_records}
use Rattle.chain.specs.Post.{marks_text, finished}
use Rattle.post.specs.Calls.{answered}
use Rattle.listing.specs.Listing.{line, listing}

abbrev pub answer_listing : Result Converted Refusal → (out plain : List ℕ) → (records : List Loss) → (words : List ℕ) → List ℕ
answer_listing (Ok done) out plain records words = listing (take done.size out) (take done.size plain) (take done.losses records) (take done.bytes words)
answer_listing (Err r) out plain records words = line (ascii "result=") (decimal (number_of r))

unfoldable pub post_listing : (post : List ℕ) → (m k b w n : ℕ) → List ℕ
post_listing post m k b w n =
    cond (ltb 1024 (length post)) (line (ascii "result=") (decimal 1))
    (answer_listing (answered post (record { out = m; origins = k; work = w; numbers = n; spans = None }) 64 b)
    (padded m (bytes (finished post))) (padded k (origins (finished post))) (records_lent 64 (loss_records post (marks_text post))) (padded b (loss_bytes (marks_text post))))

-- "lending 2,048 output bytes, 64 records, 1,024 loss bytes", and what a post of 1,024 bytes needs of the rest
abbrev pub thread_listing : List ℕ → List ℕ
thread_listing post = post_listing post 2048 2048 1024 7168 14400
