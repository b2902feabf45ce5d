-- Demand 3 over the whole chain: each pass splits its input, so what it writes stays sound for the post. Assumes nothing.
use mathlib.Core.List.{List}
use Prim.Native.Nat.{ℕ}
use Rattle.text.specs.Cells.{cells_of, bytes, origins}
use Rattle.text.specs.Origins.{CopiedByOrigin}
use Rattle.text.proofs.Copying.{Sound, sound-post, sound-split, copied-by-origin}
use Rattle.mark_tags.proofs.SplitMarks.{marks-split}
use Rattle.attribution_parts.specs.Attribution.{caption}
use Rattle.quote_blocks.proofs.QuotesSplit.{quotes-splits}
use Rattle.list_steps.proofs.ListsSplit.{lists-splits}
use Rattle.chain.specs.Post.{marks_text, quoted_text, finished, taken_out, Consumed}

pub finished-sound : (post : List ℕ) → Sound post (taken_out post) (finished post)
unfolding marks_text quoted_text finished taken_out
finished-sound post =
    sound-split post (sound-split post (sound-split post (sound-post post) (marks-split (cells_of post))) (quotes-splits caption (marks_text post))) (lists-splits (quoted_text post))

pub finished-copied : (post : List ℕ) → CopiedByOrigin post (Consumed post) (bytes (finished post)) (origins (finished post))
finished-copied post = copied-by-origin post (finished-sound post)
