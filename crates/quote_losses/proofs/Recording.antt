-- Laws of listing the losses of a text's quotes. Assumes nothing.
use mathlib.Core.Path.{◌≡◌, refl, sym, ap, ◌∙◌}
use Prim.Native.Nat.{ℕ, ◌+◌, ◌-◌, ◌*◌, ◌≤◌, ◌<◌}
use native.Mathlib.Numerals.{add-one}
use native.Mathlib.Omega.{arith}
use mathlib.Core.List.{List, [], ◌∷◌, ◌++◌, append_assoc, append-nil}
use lib.ListN.{length, take, drop, length-append, length-drop, drop_of_length-le}
use lib.Seq.{drop-drop, length-take-le, take_at, drop_at}
use Rattle.text.specs.Cells.{Cell, bytes}
use Rattle.attribution_parts.specs.Attribution.{Loss, losses}
use Rattle.attribution_losses.specs.Lists.{Puts, records_of, loss_words, Lists}
use Rattle.attribution_losses.proofs.Listing.{puts_none, puts_then, puts-as, lists-none}
use Rattle.quote_tags.specs.Tags.{NextBracket, openers, closers, opener_size, closer_size, attribution_of}
use Rattle.quote_lines.specs.Lines.{Tag, place, next_after, line_at, lines_from}
use Rattle.quote_lines.specs.Tables.{Table}
use Rattle.quote_tags.proofs.Tagging.{behind-within}
use Rattle.quote_tags.proofs.Plain.{PlainRun, bracket-past}
use Rattle.quote_lines.proofs.Tabling.{opener-long}
use Rattle.quote_blocks.specs.Quotes.{Token, tokens, attributions_in, attributions}
use Rattle.quote_blocks.proofs.Reading.{read-opener, read-closer, read-text, read-end}
use Rattle.quote_steps.specs.Passes.{texts}
use Rattle.quote_steps.proofs.Texts.{read-run}
use Rattle.quote_losses.specs.Losses.{losses_in, quote_losses, loss_bytes, records_from, records_by, names_at, ListsToken, FewAt, ListsLosses}

-- the attribution of an opener of k bytes at place i, as a part of the text
pub attribution-part : (s : List ℕ) (i k size : ℕ) → k ≡ opener_size (drop i s) → size ≡ k - 8 → take (i + 7 + size - (i + 7)) (drop (i + 7) s) ≡ attribution_of (drop i s)
unfolding attribution_of
attribution-part s i k size e z =
    let q : i + 7 + size - (i + 7) ≡ opener_size (drop i s) - 8 = omega arith in
    rw (q, drop-drop 7 i s)

-- it lies within the opener, and that within the text
module _ (s : List ℕ) (i k size : ℕ) (lt : i < length s) (e : k ≡ opener_size (drop i s)) (n : k ≡ 0 → ⊥) (z : size ≡ k - 8) where
  pub opener-room : (7 + size ≤ k) × (i + k ≤ length s)
  unfolding opener_size
  opener-room = let l = opener-long (drop i s) e n in (omega (arith, l), behind-within openers s i (omega arith) e)

  pub attribution-short : length (take (i + 7 + size - (i + 7)) (drop (i + 7) s)) + 7 ≤ k
  attribution-short =
      let r = opener-room in
      let d : length (drop (i + 7) s) ≡ length s - (i + 7) = length-drop (i + 7) s in
      let l : length (take (i + 7 + size - (i + 7)) (drop (i + 7) s)) ≡ i + 7 + size - (i + 7) = length-take-le (i + 7 + size - (i + 7)) (drop (i + 7) s) (omega (arith, r.0, r.1)) in
      omega (arith, r.0, l)

-- ---- numbers of records before a place, tags from there on

-- before the place ys have been written
module _ (xs ys : List ℕ) (base : ℕ) (le : base ≤ length xs) (l : length ys ≡ length (take base xs)) where
  long : length ys ≡ base
  long = l ∙ length-take-le base xs le

  pub front-listed : {A : Type 0} {s : List ℕ} {ts : List Tag} {bs bs' : List ℕ} {i quote next k to i' quote' next' k' to' : ℕ}
      → A × ListsToken s ts (take base xs) bs i quote next k to ys bs' i' quote' next' k' to'
      → (A × ListsToken s ts (take base xs) bs i quote next k to (take base (ys ++ drop base xs)) bs' i' quote' next' k' to') × (drop base (ys ++ drop base xs) ≡ drop base xs)
  front-listed p = (rw (take_at ys (drop base xs) base long) p, drop_at ys (drop base xs) base long)

pub front_kept : (xs rest : List ℕ) (base : ℕ) → base ≤ length xs → take base (take base xs ++ rest) ≡ take base xs
front_kept xs rest base le = take_at (take base xs) rest base (length-take-le base xs le)

pub front_long : (xs rest : List ℕ) (base : ℕ) → base ≤ length xs → base ≤ length (take base xs ++ rest)
front_long xs rest base le = let n = length-append (take base xs) rest in let m = length-take-le base xs le in omega (arith, n, m)

pub back_long : (xs : List ℕ) (base : ℕ) → length (take (length xs - base) (drop base xs)) ≡ length xs - base
back_long xs base = let n = length-drop base xs in length-take-le (length xs - base) (drop base xs) (omega (arith, n))

pub same-table : (s ns ns' : List ℕ) (count : ℕ) → ns ≡ ns' → Table s ns' 0 count → Table s ns 0 count
same-table s ns ns' count e t = rw e t

-- from the place on ys have been written
pub back_is : (xs ys : List ℕ) (base : ℕ) → base ≤ length xs → drop base (take base xs ++ (ys ++ drop (length xs - base) (drop base xs))) ≡ ys
back_is xs ys base le =
    let n = length-drop base xs in
    drop_at (take base xs) (ys ++ drop (length xs - base) (drop base xs)) base (length-take-le base xs le)
    ∙ ap (λ (r : List ℕ). ys ++ r) (drop_of_length-le (drop base xs) {i = length xs - base} (omega (arith, n))) ∙ append-nil ys

-- ---- one token

names-texts : (x : List Cell) (r : List Token) → attributions_in (texts x r) ≡ attributions_in r
unfolding attributions_in texts
names-texts [] r = refl
names-texts (c ∷ x) r = names-texts x r

names-on : (x : List Cell) (s : List ℕ) → bytes x ≡ s → (i : ℕ) {q : ℕ} → PlainRun s i q → attributions_in (tokens 0 (drop i x)) ≡ attributions_in (tokens 0 (drop q x))
names-on x s e i run = ap attributions_in (read-run x s e i run) ∙ names-texts _ _

-- what `list_token` says of the place behind a token
abbrev Behind : (s : List ℕ) (i i' b quote k to : ℕ) → Type 0
Behind s i i' b quote k to = ((i < i') × (i' ≤ length s)) × (NextBracket s i' b × FewAt i' quote k to)

module _ (s : List ℕ) (ts : List Tag) (rs bs : List ℕ) (i quote next k to : ℕ) (lt : i < length s) (few : FewAt i quote k to) (b : ℕ) (nb : NextBracket s i b) where
  abbrev Lists-to : (rs' bs' : List ℕ) (i' quote' next' k' to' : ℕ) → Type 0
  Lists-to rs' bs' i' quote' next' k' to' = Behind s i i' b quote' k' to' × ListsToken s ts rs bs i quote next k to rs' bs' i' quote' next' k' to'

  module _ (o : ℕ) (eo : o ≡ opener_size (drop i s)) where
    pub lists-opener : (rs' bs' : List ℕ) (a : List ℕ) (line next' k' to' : ℕ) → (o ≡ 0 → ⊥) → a ≡ attribution_of (drop i s) → length a + i + 7 ≤ i + o
        → (line ≡ line_at ts (place ts next a)) × (next' ≡ next_after ts next a)
        → Lists quote line rs k bs to rs' k' bs' to' (losses a) × ((k' ≤ k + length a) × (to' ≤ to + 2 * length a))
        → Lists-to rs' bs' (i + o) (quote + 1) next' k' to'
    unfolding opener_size attributions_in records_from lines_from losses_in
    lists-opener rs' bs' a line next' k' to' n ea short (el, en) (l, (mk, mt)) =
        let w = behind-within openers s i (omega arith) eo in (
          ((omega arith, w), (bracket-past s i (i + o) (omega arith) w nb, record { quotes = omega (arith, few.quotes); losses = omega (arith, few.losses); bytes = omega (arith, few.bytes) })),
          record {
            line = line;
            lost = losses a;
            lists = l;
            records-rest = λ x e.
                ap (records_by ts quote to next) (names x e)
                ∙ rw (← el, ← en, ← l.words.end, add-one);
            losses-rest = λ x e. ap losses_in (names x e);
          },
        )
      where
        names : (x : List Cell) → bytes x ≡ s → names_at i x ≡ a ∷ names_at (i + o) x
        names x e = ap attributions_in (read-opener x s e i eo n) ∙ rw (← ea)

    module _ (z : o ≡ 0) where
      none : (i' : ℕ) → ((x : List Cell) → bytes x ≡ s → names_at i x ≡ names_at i' x) → ListsToken s ts rs bs i quote next k to rs bs i' quote next k to
      unfolding records_of
      none i' names = record {
        line = 0;
        lost = [];
        lists = lists-none quote 0 rs k bs to;
        records-rest = λ x e. ap (records_by ts quote to next) (names x e);
        losses-rest = λ x e. ap losses_in (names x e);
      }

      on : (i' : ℕ) → i ≤ i' → FewAt i' quote k to
      on i' le = record { quotes = omega (arith, few.quotes); losses = omega (arith, few.losses); bytes = omega (arith, few.bytes) }

      module _ (j : ℕ) (ej : j ≡ closer_size (drop i s)) where
        pub lists-closer : (j ≡ 0 → ⊥) → Lists-to rs bs (i + j) quote next k to
        unfolding closer_size attributions_in
        lists-closer n =
            let w = behind-within closers s i (omega arith) ej in (
              ((omega arith, w), (bracket-past s i (i + j) (omega arith) w nb, on (i + j) (omega arith))),
              none (i + j) (λ x e. ap attributions_in (read-closer x s e i eo z ej n)),
            )

        -- with the text up to the next place where a quote tag may begin
        pub lists-text : j ≡ 0 → {q : ℕ} → PlainRun s (i + 1) q → Lists-to rs bs q quote next k to
        unfolding attributions_in
        lists-text y {q} run =
            let w = run.0 in (
              ((omega (arith, w), w.1), (bracket-past s i q (omega (arith, w)) w.1 nb, on q (omega (arith, w)))),
              none q (λ x e. ap attributions_in (read-text x s e i lt eo z ej y) ∙ names-on x s e (i + 1) run),
            )

-- ---- all tokens

records-long : (q l to : ℕ) (ls : List Loss) → length (records_of q l to ls) ≡ 5 * length ls
unfolding records_of
records-long q l to [] = refl
records-long q l to (x ∷ ls) = let z = records-long q l (to + length x.words) ls in omega (arith, z)

words_append : (xs ys : List Loss) → loss_words (xs ++ ys) ≡ loss_words xs ++ loss_words ys
unfolding loss_words
words_append [] ys = refl
words_append (x ∷ xs) ys = ap (λ (r : List ℕ). x.words ++ r) (words_append xs ys) ∙ sym (append_assoc x.words (loss_words xs) (loss_words ys))

-- what has been listed before place i, and what is left
pub record Recorded (s : List ℕ) (ts : List Tag) (rs₀ bs₀ rs bs : List ℕ) (i quote next k to : ℕ) : Type 0 where
  pub done : List ℕ
  pub lost : List Loss
  pub records : Puts rs₀ 0 rs (5 * k) done
  pub words : Puts bs₀ 0 bs to (loss_words lost)
  pub count : k ≡ length lost
  pub records-all : (x : List Cell) → bytes x ≡ s → done ++ records_by ts quote to next (names_at i x) ≡ records_by ts 1 0 0 (attributions x)
  pub losses-all : (x : List Cell) → bytes x ≡ s → lost ++ losses_in (names_at i x) ≡ quote_losses x

pub recorded : (s : List ℕ) (ts : List Tag) (rs bs : List ℕ) → Recorded s ts rs bs rs bs 0 1 0 0 0
unfolding attributions quote_losses loss_words
recorded s ts rs bs = record { done = []; lost = []; records = puts_none rs 0; words = puts_none bs 0; count = refl; records-all = λ x e. refl; losses-all = λ x e. refl }

module _ (s : List ℕ) (ts : List Tag) (rs₀ bs₀ rs bs : List ℕ) (i quote next k to : ℕ) (w : Recorded s ts rs₀ bs₀ rs bs i quote next k to) where
  pub recorded-on : {rs' bs' : List ℕ} {i' quote' next' k' to' : ℕ} → ListsToken s ts rs bs i quote next k to rs' bs' i' quote' next' k' to'
      → Recorded s ts rs₀ bs₀ rs' bs' i' quote' next' k' to'
  recorded-on {rs'} {bs'} {i'} {quote'} {next'} {k'} {to'} t =
      let m = records-long quote t.line to t.lost in
      let p = puts_then w.records t.lists.records in
      let n = length-append w.lost t.lost in
      record {
        done = w.done ++ records_of quote t.line to t.lost;
        lost = w.lost ++ t.lost;
        records = p;
        words = puts-as (sym (words_append w.lost t.lost)) (puts_then w.words t.lists.words);
        count = omega (arith, n, m, w.count, t.lists.records.end);
        records-all = λ x e.
            append_assoc w.done (records_of quote t.line to t.lost) (records_by ts quote' to' next' (names_at i' x))
            ∙ ap (λ (l : List ℕ). w.done ++ l) (sym (t.records-rest x e)) ∙ w.records-all x e;
        losses-all = λ x e. append_assoc w.lost t.lost (losses_in (names_at i' x)) ∙ ap (λ (l : List Loss). w.lost ++ l) (sym (t.losses-rest x e)) ∙ w.losses-all x e;
      }

  pub recorded-end : length s ≤ i → i ≤ length s → FewAt i quote k to → ListsLosses s ts rs₀ bs₀ rs bs k to
  unfolding attributions_in records_from lines_from losses_in loss_bytes
  recorded-end le ge few = record {
    count = λ x e. w.count ∙ ap length (sym (append-nil w.lost) ∙ ap (λ (l : List (List ℕ)). w.lost ++ losses_in l) (sym (none x e)) ∙ w.losses-all x e);
    records = λ x e. puts-as (sym (append-nil w.done) ∙ ap (λ (l : List (List ℕ)). w.done ++ records_by ts quote to next l) (sym (none x e)) ∙ w.records-all x e) w.records;
    words = λ x e. puts-as (ap loss_words (sym (append-nil w.lost) ∙ ap (λ (l : List (List ℕ)). w.lost ++ losses_in l) (sym (none x e)) ∙ w.losses-all x e)) w.words;
    few = omega (arith, few.losses);
    small = omega (arith, few.bytes);
  }
    where
      none : (x : List Cell) → bytes x ≡ s → names_at i x ≡ []
      none x e = ap attributions_in (read-end x s e i le)
