-- Laws of a whole call of `format_attribution`. Assumes nothing.
use mathlib.Core.Path.{◌≡◌, refl, sym, ap, ◌∙◌}
use mathlib.Core.Bool.{true, false, true≢false}
use mathlib.Core.List.{List, [], ◌∷◌}
use Prim.Native.Nat.{ℕ, ◌+◌, ◌-◌, ◌*◌, ◌≤◌, ◌<◌}
use native.Mathlib.Nat.{sub-zero}
use native.Mathlib.Omega.{arith}
use native.Mathlib.Decide.{dec_le}
use lib.Dec.{ltb}
use lib.ListN.{length, take, replicate, length-map, length-replicate, replicate-append-replicate}
use lib.Seq.{take-take}
use borrow.Author.Tests.{lt-ltb, le-ltb}
use Rattle.text.specs.Cells.{Cell, cells, cells_from, more_after, part, written, bytes as text_of, origins as origins_of}
use Rattle.text.specs.Writes.{AppendsIn, LaidOut, cleared, padded}
use Rattle.lending.specs.Lent.{checked}
use Rattle.lending.specs.declared.lent.Refusal.{Refusal}
use Rattle.lending.specs.declared.lent.Refusal.TheVariants.{NoSpace, TooManyLosses, LossBytesShort}
use Rattle.lending.specs.declared.lent.Lent.{Lent}
use Rattle.lending.specs.declared.answer.Converted.{Converted}
use Rattle.std.specs.Prelude.{Result, Ok, Err, None, is_err, OnOk}
use Rattle.text.proofs.Areas.{appends_in-as, stands-appended}
use Rattle.text.proofs.Clearing.{laid-cleared}
use Rattle.attribution_parts.specs.Attribution.{caption, losses}
use Rattle.attribution_reading.specs.Places.{bytes}
use Rattle.attribution_losses.specs.Captions.{name_texts}
use Rattle.attribution_losses.specs.Lists.{Puts, records_of, loss_words, Lists}
use Rattle.attribution_losses.proofs.Losing.{listed-counts}
use Rattle.attribution.specs.declared.caption.Words.{Words}
use Rattle.attribution.specs.Spoken.{said, Spoken}
use Rattle.attribution.specs.Calls.{formatted, answered, caption_by, words_by, Holding, Noted, Captioned, Formatted}
use Rattle.attribution.proofs.TextLaws.{written-bytes}
use Rattle.attribution.proofs.Fitting.{texts-within-caption}
use Rattle.attribution.proofs.Speaking.{joined-there, spoken-there}

-- ---- clearing

none_left : (xs : List ℕ) → cleared 0 xs ≡ padded (length xs) []
none_left xs = laid-cleared [] xs 0 (length xs) refl refl refl

pub all-zero : (m k : ℕ) (bytes : List ℕ) {out' origins' bytes' : List ℕ} → LaidOut [] m k out' origins' → bytes' ≡ cleared 0 bytes → Holding [] [] m k (length bytes) out' origins' bytes'
all-zero m k bytes l r = record { written = l.text; from = l.from; lost = r ∙ none_left bytes }

-- ---- what has been put, with zeros behind it

-- the losses have been listed: their numbers, and their bytes with zeros behind
pub record Lost (s numbers : List ℕ) (b : ℕ) (numbers' bytes : List ℕ) : Type 0 where
  pub records : Puts numbers 0 numbers' (5 * length (losses s)) (records_of 0 0 0 (losses s))
  pub few : length (losses s) ≤ length s
  pub words : bytes ≡ padded b (loss_words (losses s))

put-cleared : {v v' t : List ℕ} {e : ℕ} → Puts v 0 v' e t → length t ≤ length v → cleared e v' ≡ padded (length v) t
put-cleared {v} {v'} {t} {e} p fits =
    let n : length t ≡ e = omega (arith, p.end) in
    laid-cleared t v' e (length v) p.size n (p.text (omega (arith, n)))

module _ {numbers bytes numbers₁ bytes₁ : List ℕ} {k e : ℕ} (s : List ℕ) (len : ℕ) (h : Lists 0 0 numbers 0 bytes 0 numbers₁ k bytes₁ e (losses s)) where
  pub counted : ◌≡◌ {A = Converted} (record { size = len; losses = k; bytes = e }) (record { size = len; losses = length (losses s); bytes = length (loss_words (losses s)) })
  counted = let n = listed-counts (losses s) h in let a : k ≡ length (losses s) = omega (arith, n.0) in let b : e ≡ length (loss_words (losses s)) = omega (arith, n.1) in rw (a, b)

  pub all_listed : {bytes' : List ℕ} → length (loss_words (losses s)) ≤ length bytes → k ≤ 0 + length s → bytes' ≡ cleared e bytes₁ → Lost s numbers (length bytes) numbers₁ bytes'
  all_listed in_bytes few r =
      let n = listed-counts (losses s) h in
      let f : k ≡ length (losses s) = omega (arith, n.0) in
      record { records = rw (← f) h.records; few = omega (arith, f); words = r ∙ put-cleared h.words in_bytes }

-- ---- the caption, beside its joined texts

length-written : (x : List ℕ) → length (written x) ≡ length x
length-written x = sym (length-map (written x) (λ c. c.byte)) ∙ ap length (written-bytes x)

-- the text is in front, the caption behind it up to `end`, the joined texts from there on
module _ (s : List ℕ) {work₁ work₂ : List ℕ} {end past : ℕ} (source : take (length s) work₁ ≡ s) (far : length s ≤ end) (most : end ≤ length work₁)
    (j : Puts work₁ end work₂ past (name_texts (bytes work₁ 0 (length s - 0)))) where
  in-front : take (length s) work₂ ≡ s
  in-front = sym (take-take (length s) end work₂ far) ∙ ap (take (length s)) j.keeps ∙ take-take (length s) end work₁ far ∙ source

  source-texts : name_texts (bytes work₁ 0 (length s - 0)) ≡ name_texts s
  unfolding bytes
  source-texts = ap (λ (k : ℕ). name_texts (take k work₁)) (sub-zero (length s)) ∙ ap name_texts source

  past_is : past ≡ end + length (name_texts s)
  past_is = j.end ∙ ap (λ (t : List ℕ). end + length t) source-texts

  abbrev words : Words
  words = record { from = record { 0 = 0 }; to = record { 0 = length s }; joined = record { 0 = end }; past = record { 0 = past } }

  said-is : said words work₂ ≡ s
  said-is = ap (λ (k : ℕ). take k work₂) (sub-zero (length s)) ∙ in-front

  pub words-spoken : past ≤ length work₂ → Spoken work₂ (length s) end words
  words-spoken h =
      let z = j.size in
      let p = past_is in
      spoken-there 0 (length s) past (omega arith) (omega arith) far (omega (arith, p)) h (joined-there j most (omega (arith, z, h)) ∙ source-texts ∙ ap name_texts (sym said-is))

  -- where the joined texts do not fit, the caption does not
  pub not-fitting : (m : ℕ) (ns : List ℕ) → end ≡ length s + m → length s + 3 * m ≤ length work₁ → length work₂ < past → Captioned s m work₂ ns past
  not-fitting m ns q room h =
      let b = texts-within-caption s in
      let p = past_is in
      let z = j.size in
      record { fits = λ f. absurd (omega (arith, b, p, z)); full = λ f. omega (arith, p, z) }

  pub caption-stands : (m : ℕ) {ns work₃ ns₃ : List ℕ} {r : ℕ} → end ≡ length s + m → end ≤ length ns → length work₃ ≡ length work₂ → length ns₃ ≡ length ns
      → AppendsIn work₂ ns end (length s) work₃ ns₃ r (written (caption (said words work₂))) → Captioned s m work₃ ns₃ r
  caption-stands m {ns} {work₃} {ns₃} {r} q hn sb sn a =
      let z = j.size in
      let n = length-written (caption s) in
      let t = stands-appended far (omega (arith, z, most)) hn sb sn (appends_in-as (ap (λ (x : List ℕ). written (caption x)) said-is) a) in
      record { fits = λ f. (let g = t.0 (omega (arith, f, n, q)) in (omega (arith, g.0, n), g.1)); full = λ f. (let g = t.1 (omega (arith, f, n, q)) in omega (arith, g, q)) }

-- ---- a text that is right

module _ (s : List ℕ) (m : ℕ) {work numbers : List ℕ} {r : ℕ} (h : Captioned s m work numbers r) where
  pub caption-from : length s ≤ r
  caption-from = elim (dec_le (length (caption s)) m) [ yes g ↦ (let e = (h.fits g).0 in omega (arith, e)) | no g ↦ (let e = h.full (omega arith) in omega (arith, e)) ]

  caption-over : m < r - length s → m < length (caption s)
  caption-over far = elim (dec_le (length (caption s)) m) [ yes g ↦ (let e = (h.fits g).0 in absurd (omega (arith, e, far, g))) | no g ↦ omega arith ]

  caption-fits : r - length s ≤ m → length (caption s) ≤ m
  caption-fits near = elim (dec_le (length (caption s)) m) [ yes g ↦ g | no g ↦ (let e = h.full (omega arith) in absurd (omega (arith, e, near))) ]

-- a written text's origins are zeros
zeros-from : (more : ℕ) (x : List ℕ) → origins_of (cells_from (λ o. o) 0 more x) ≡ replicate (length x) 0
unfolding cells_from
zeros-from more [] = refl
zeros-from more (b ∷ x) = ap (λ (l : List ℕ). 0 ∷ l) (zeros-from (more_after more (b ∷ x)) x)

no-origins : (k : ℕ) (x : List ℕ) → length x ≤ k → padded k (origins_of (written x)) ≡ padded k []
unfolding written padded
no-origins k x h =
    let q : length x + (k - length x) ≡ k - 0 = omega arith in
    rw (zeros-from 0 x, length-replicate {A = ℕ} (length x) 0) (replicate-append-replicate (length x) (k - length x) 0 ∙ ap (λ (i : ℕ). replicate i 0) q)

-- a test that is not passed
not-over : (a number n : ℕ) → number ≡ n → number ≤ a → ltb a n ≡ false
not-over a number n e h = le-ltb a n (rw (← e) h)

-- on a refusal no losses are noted
none-noted : (s : List ℕ) (l : ℕ) (r : Refusal) (numbers : List ℕ) → Noted s l (Err r) numbers
none-noted s l r numbers = record { room = omega arith; few = omega arith; there = refl }

abbrev lent : (m k w n : ℕ) → Lent
lent m k w n = record { out = m; origins = k; work = w; numbers = n; spans = None }

module _ (s : List ℕ) (m k l b w n : ℕ) {out origins numbers bytes : List ℕ} where
  -- refusals 1 to 4
  pub turned-back : (r : Refusal) → checked s (lent m k w n) ≡ Err r → Formatted s m k l b w n (Err r) out origins numbers bytes
  unfolding answered
  turned-back r e = record { answer = rw e; holds = tt; noted = none-noted s l r numbers }

  module _ (fine : checked s (lent m k w n) ≡ Ok tt) (number size : ℕ) (hn : number ≡ length (losses s)) (hb : size ≡ length (loss_words (losses s))) where
    pub too_many : l < number → Formatted s m k l b w n (Err TooManyLosses) out origins numbers bytes
    unfolding answered formatted
    too_many h = record { answer = rw (fine, lt-ltb l (length (losses s)) (rw (← hn) h)); holds = tt; noted = none-noted s l TooManyLosses numbers }

    module _ (few : number ≤ l) where
      pub bytes-short : b < size → Formatted s m k l b w n (Err LossBytesShort) out origins numbers bytes
      unfolding answered formatted
      bytes-short h = record {
        answer = rw (fine, not-over l number (length (losses s)) hn few, lt-ltb b (length (loss_words (losses s))) (rw (← hb) h));
        holds = tt;
        noted = none-noted s l LossBytesShort numbers;
      }

      module _ (small : size ≤ b) {work₁ numbers₁ : List ℕ} {to : ℕ} (h : Captioned s m work₁ numbers₁ to) where
        pub no-space : m < to - length s → Formatted s m k l b w n (Err NoSpace) out origins numbers bytes
        unfolding answered formatted
        no-space far =
            let over = caption-over s m h far in
            record {
              answer = rw (fine, not-over l number (length (losses s)) hn few, not-over b size (length (loss_words (losses s))) hb small, lt-ltb m (length (caption s)) over);
              holds = tt;
              noted = none-noted s l NoSpace numbers;
            }

        pub done : (a : Converted) → to - length s ≤ m → m ≤ k → a ≡ record { size = to - length s; losses = length (losses s); bytes = length (loss_words (losses s)) }
            → LaidOut (part (length s) to (cells work₁ numbers₁)) m k out origins → Lost s numbers₁ b numbers bytes → 5 * length s ≤ length numbers₁
            → Formatted s m k l b w n (Ok a) out origins numbers bytes
        unfolding answered formatted
        done a near mk z g p room =
            let c = caption-fits s m h near in
            let f = h.fits c in
            let e : to - length s ≡ length (caption s) = omega (arith, f.0) in
            let y = p.records.size in
            let v = f.1 in
            rw z (record {
              answer = rw (fine, not-over l number (length (losses s)) hn few, not-over b size (length (loss_words (losses s))) hb small, le-ltb m (length (caption s)) c, e);
              holds = record {
                written = g.text ∙ ap (λ (x : List Cell). padded m (text_of x)) v ∙ ap (padded m) (written-bytes (caption s));
                from = g.from ∙ ap (λ (x : List Cell). padded k (origins_of x)) v ∙ no-origins k (caption s) (omega (arith, c, mk));
                lost = p.words;
              };
              noted = record { room = omega (arith, y, p.few, room); few = omega (arith, hn); there = p.records.text (omega (arith, p.few, room)) };
            })

-- ---- the whole call

module _ (s : List ℕ) (m k b : ℕ) {out origins bytes : List ℕ} where
  pub held-nothing : (r : Result Converted Refusal) → is_err r ≡ true → Holding [] [] m k b out origins bytes → Holding (caption_by r s) (words_by r s) m k b out origins bytes
  held-nothing (Ok a) e h = absurd (true≢false (sym e))
  held-nothing (Err r) e h = h

  pub held : (r : Result Converted Refusal) → is_err r ≡ false → OnOk r (Holding (caption s) (loss_words (losses s)) m k b out origins bytes)
      → Holding (caption_by r s) (words_by r s) m k b out origins bytes
  held (Ok a) e h = h
  held (Err r) e h = absurd (true≢false e)
