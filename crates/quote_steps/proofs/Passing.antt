-- The laws of the pass in work memory. Assumes nothing.
use mathlib.Core.Path.{◌≡◌, refl, sym, ap, subst, ◌∙◌}
use Prim.Native.Nat.{ℕ, suc, ◌+◌, ◌-◌, ◌≤◌, ◌<◌, max}
use native.Mathlib.Omega.{arith}
use native.Mathlib.Decide.{dec_le}
use mathlib.Core.List.{List, [], ◌∷◌, ◌++◌, append_assoc, append-nil}
use mathlib.Core.Bool.{Bool, true, false, ◌||◌, true≢false}
use lib.Dec.{leb}
use borrow.Author.Tests.{leb-false}
use lib.ListN.{length, take, drop, get_or, length-append, length-map}
use lib.Seq.{length-take-le, get_or-take, take-take, take_at, drop_at}
use Rattle.text.specs.declared.PostAt.{PostAt}
use Rattle.text.specs.Bounds.{deep_most}
use Rattle.text.specs.Cells.{Cell, cells, bytes, part, feed}
use Rattle.text.specs.Writes.{Holds, Appends, AppendsIn}
use Rattle.text.proofs.Writing.{holds_fits, cells-le, cells_at, part-cons}
use Rattle.text.proofs.Areas.{area-length}
use Rattle.text.proofs.Clearing.{cells-bytes}
use Rattle.text.proofs.Sources.{cells-taken}
use Rattle.quote_blocks.proofs.Reading.{read-opener, read-closer, read-text, read-end}
use Rattle.quote_tags.specs.Tags.{NextBracket, attribution_of, opener_size, closer_size}
use Rattle.quote_tags.proofs.Plain.{PlainRun}
use Rattle.quote_blocks.specs.Quotes.{Token, text, opens, closes, tokens, Quote, State, start, opening, held, total, close, closed, step, finish, run, quotes, finish_need, run_need, quotes_need, quote_block, too_deep_from, too_deep}
use Rattle.quote_steps.proofs.Memories.{same-none, same-then, end-bytes, end-numbers}
use Rattle.quote_steps.proofs.Texts.{read-run, more-is, more-opened, run-texts, need-texts, texts-needed, deep-texts}
use Rattle.quote_steps.specs.Passes.{texts, more, Stood, Stands, Closes, ClosesIn, Takes, TakesOne, Leaves, PassedIn, ClosesLast, Finishing}
use Rattle.quote_steps.specs.Memories.{Same, ClosesInner, Ready, TakesToken, ClosesAll}
use Rattle.std.specs.Prelude.{Option, Some, None}
use Rattle.quote_steps.specs.declared.stack.Opened.{Opened}
use Rattle.quote_steps.specs.declared.close.Memory.{Memory}
use Rattle.quote_steps.specs.declared.pass.Taken.{Taken}
use Rattle.quote_steps.specs.declared.pass.Reached.{Reached}
use Rattle.quote_steps.specs.declared.pass.Passed.{Passed}
use Rattle.attribution_parts.specs.Attribution.{caption}

-- ---- an area

-- it goes by what stands in it
pub cells-front : (k : ℕ) (bs bs' ns : List ℕ) → take k bs' ≡ take k bs → take k (cells bs' ns) ≡ take k (cells bs ns)
cells-front k bs bs' ns e = sym (cells-taken k bs' ns) ∙ ap (λ (l : List ℕ). cells l (take k ns)) e ∙ cells-taken k bs ns

module _ (v : List Cell) (to : ℕ) (p c : List Cell) (h : Holds v to (p ++ c)) (le : to ≤ length v) where
  fits : length (p ++ c) ≤ length v
  fits = holds_fits v to (p ++ c) h le

  -- back to the start of what was appended last
  pub holds-cut : (begin : ℕ) → length p ≡ begin → Holds v begin p
  holds-cut begin e =
      let l = length-append p c in
      let f = fits in
      let n : to ≡ length (p ++ c) = h.end f in
      record {
        end = λ _. sym e;
        text = λ _. sym (take-take begin to v (omega arith)) ∙ ap (take begin) (h.text f) ∙ take_at p c begin e;
        full = λ lt. omega arith;
      }

  -- what was appended last
  pub holds-part : (begin : ℕ) → length p ≡ begin → part begin to v ≡ c
  unfolding part
  holds-part begin e = ap (drop begin) (h.text fits) ∙ drop_at p c begin e

  -- what stands before it
  pub holds-before : take (length p) v ≡ p
  holds-before =
      let l = length-append p c in
      let f = fits in
      let n : to ≡ length (p ++ c) = h.end f in
      sym (take-take (length p) to v (omega arith)) ∙ ap (take (length p)) (h.text f) ∙ take_at p c (length p) refl

-- ---- where the open quotes stand

-- as many as are open
stood-length : (s : List ℕ) (base : ℕ) (os : List Opened) (qs : List Quote) → Stood s base os qs → length os ≡ length qs
unfolding Stood
stood-length s base [] [] w = refl
stood-length s base (o ∷ os) (q ∷ qs) w = ap suc (stood-length s base os qs w.2)
stood-length s base [] (q ∷ qs) w = absurd w
stood-length s base (o ∷ os) [] w = absurd w

opening-length : (qs : List Quote) → length (opening qs) ≡ held qs
unfolding opening held
opening-length [] = refl
opening-length (q ∷ qs) = simp length-append (omega (arith, opening-length qs))

-- ---- one token

module _ (caption : List ℕ → List ℕ) (e end : ℕ) (P : List Cell) (bs ns : List ℕ) (to : ℕ) (os : List Opened) (s : State)
    (w : Stands e P (take end (cells bs ns)) to os s) (he : e ≤ length P) (hp : length P ≤ end) (hb : end ≤ length bs) (hn : end ≤ length ns) (ht : to ≤ end) where
  within : to ≤ length (take end (cells bs ns))
  within = let a = area-length bs ns end hb hn in omega arith

  -- the text is in the slices
  text-cells : take e P ≡ take e (cells bs ns)
  text-cells =
      ap (take e) (sym (holds-before (take end (cells bs ns)) to P _ w.text within))
      ∙ take-take e (length P) (take end (cells bs ns)) he
      ∙ take-take e end (cells bs ns) (omega arith)

  pub text-bytes : bytes (take e P) ≡ take e bs
  text-bytes = ap bytes text-cells ∙ cells-bytes e bs ns (omega arith) (omega arith)

  text-length : length (bytes (take e P)) ≡ e
  text-length = length-map (take e P) (λ (c : Cell). c.byte) ∙ length-take-le e P he

  at-end : to ≡ length P + length (opening s.opened ++ s.now)
  at-end = w.text.end (holds_fits _ to _ w.text within) ∙ length-append P (opening s.opened ++ s.now)

  reads_on : (i q : ℕ) → PlainRun (take e bs) i q → q ≤ e → tokens 0 (drop i (take e P)) ≡ texts (part i q (cells bs ns)) (tokens 0 (drop q (take e P)))
  unfolding part
  reads_on i q r le =
      let x : take q (take e P) ≡ take q (cells bs ns) = ap (take q) text-cells ∙ take-take q e (cells bs ns) le in
      read-run (take e P) (take e bs) text-bytes i r ∙ rw x

  joined-on : (c : Cell) (rest all : List Cell) → all ≡ c ∷ rest → (P ++ (opening s.opened ++ s.now)) ++ all ≡ P ++ (opening s.opened ++ ((s.now ++ c ∷ []) ++ rest))
  joined-on c rest all p =
      append_assoc P (opening s.opened ++ s.now) all
      ∙ ap (λ (l : List Cell). P ++ l) (append_assoc (opening s.opened) s.now all
      ∙ ap (λ (l : List Cell). opening s.opened ++ l) (ap (λ (l : List Cell). s.now ++ l) p ∙ sym (append_assoc s.now (c ∷ []) rest)))

  module _ (i : ℕ) {k : ℕ} (ek : k ≡ opener_size (drop i (take e bs))) where
    pub takes-opener : (k ≡ 0 → ⊥) → i < e
        → Takes caption e P (take end (cells bs ns)) to os i (take end (cells bs ns)) to (record { start = record { 0 = to }; tag = record { 0 = i } } ∷ os) (i + k) s
    unfolding step Stood opening texts more
    takes-opener n lt =
        let l = text-length in
        let z = at-end in
        record {
          token = opens (take k (drop i (take e P))) (attribution_of (drop i (take e bs)));
          behind = [];
          reads = read-opener (take e P) (take e bs) text-bytes i ek n;
          stands = record {
            text = rw append-nil w.text;
            stood = (z, (omega arith, rw text-bytes refl), w.stood);
          };
        }

    module _ {j : ℕ} (zk : k ≡ 0) (ej : j ≡ closer_size (drop i (take e bs))) where
      -- with the text up to the next place where a quote tag may begin
      pub takes-text : j ≡ 0 → i < e → {q : ℕ} → PlainRun (take e bs) (i + 1) q → (v' : List Cell) (to' : ℕ) → Appends (take end (cells bs ns)) to v' to' (part i q (cells bs ns))
          → Takes caption e P (take end (cells bs ns)) to os i v' to' os q s
      unfolding step
      takes-text zj lt {q} run v' to' a =
          let r : length (take e bs) ≡ e = length-take-le e bs (omega arith) in
          let w' = run.0 in
          let p : part i q (cells bs ns) ≡ get_or (take e P) i feed ∷ part (i + 1) q (cells bs ns) =
          part-cons bs ns i q (omega (arith, w')) (omega (arith, w')) (omega (arith, w')) ∙ rw (text-cells, get_or-take e (cells bs ns) i feed lt, cells_at bs ns i feed (omega arith) (omega arith)) in
          record {
            token = text (get_or (take e P) i feed);
            behind = part (i + 1) q (cells bs ns);
            reads =
                read-text (take e P) (take e bs) text-bytes i (omega arith) ek zk ej zj
                ∙ ap (λ (x : List Token). text (get_or (take e P) i feed) ∷ x) (reads_on (i + 1) q run (omega (arith, w')));
            stands = subst (Stands e P v' to' os) (sym (more-is (part (i + 1) q (cells bs ns)) (step caption (text (get_or (take e P) i feed)) s))) (record {
              text = subst (Holds v' to') (joined-on (get_or (take e P) i feed) (part (i + 1) q (cells bs ns)) (part i q (cells bs ns)) p) (a.step _ w.text);
              stood = w.stood;
            });
          }

      -- no quote is open
      pub takes-stray : (j ≡ 0 → ⊥) → os ≡ [] → Takes caption e P (take end (cells bs ns)) to os i (take end (cells bs ns)) to os (i + j) s
      unfolding step closed texts more Stood
      takes-stray n none = record {
        token = closes (take j (drop i (take e P)));
        behind = [];
        reads = read-closer (take e P) (take e bs) text-bytes i ek zk ej n;
        stands = by s.opened (sym (stood-length _ _ os s.opened w.stood) ∙ ap length none) w;
      }
        where
          by : (qs : List Quote) → length qs ≡ 0 → Stands e P (take end (cells bs ns)) to os (record { now = s.now; opened = qs })
              → Stands e P (take end (cells bs ns)) to os (closed caption s.now qs)
          by [] q h = h
          by (x ∷ qs) q h = absurd (omega arith)

  -- the innermost quote o is closed; begin and tag are where its content and its opener stand
  module _ (o : Opened) (rest : List Opened) (eo : os ≡ o ∷ rest) where
    module _ (begin tag : ℕ) (eb : length P ≤ o.start.0 → o.start.0 ≤ to → begin ≡ o.start.0) (et : o.tag.0 ≤ e → tag ≡ o.tag.0)
        (v' : List Cell) (to' : ℕ) (cl : Closes (take end (cells bs ns)) begin to v' to' (quote_block (caption (attribution_of (drop tag (take e bs)))))) where
      pub stands-closed : (now : List Cell) (q : Quote) (qs : List Quote) → s ≡ record { now = now; opened = q ∷ qs }
          → Stands e P v' to' rest (record { now = close caption q now; opened = qs })
      unfolding Stood opening close
      stands-closed now q qs es =
          let h : Stands e P (take end (cells bs ns)) to (o ∷ rest) (record { now = now; opened = q ∷ qs }) = rw (sym es, sym eo) w in
          let l = length-append P ((opening qs ++ q.outer) ++ now) in
          let l' = length-append (opening qs ++ q.outer) now in
          let z : to ≡ length (P ++ ((opening qs ++ q.outer) ++ now)) = h.text.end (holds_fits _ to _ h.text within) in
          let tl = text-length in
          let b : begin ≡ length P + length (opening qs ++ q.outer) = eb (omega (arith, h.stood.0)) (omega (arith, h.stood.0)) ∙ h.stood.0 in
          let y : tag ≡ o.tag.0 = et (omega (arith, h.stood.1.0, tl)) in
          let a : q.attribution ≡ attribution_of (drop tag (take e bs)) = h.stood.1.1 ∙ rw (y, text-bytes) in
          let lp = length-append P (opening qs ++ q.outer) in
          record {
            text =
                rw (a, ← append_assoc (opening qs) q.outer (quote_block (caption (attribution_of (drop tag (take e bs)))) now), ← append_assoc P (opening qs ++ q.outer) (quote_block (caption (attribution_of (drop tag (take e bs)))) now))
                (cl.step (P ++ (opening qs ++ q.outer)) now (rw append_assoc h.text) (omega arith));
            stood = h.stood.2;
          }

    pub takes-close : (i : ℕ) {k j : ℕ} → k ≡ opener_size (drop i (take e bs)) → k ≡ 0 → j ≡ closer_size (drop i (take e bs)) → (j ≡ 0 → ⊥)
        → (v' : List Cell) (to' : ℕ) → ((now : List Cell) (q : Quote) (qs : List Quote) → Stands e P (take end (cells bs ns)) to (o ∷ rest) (record { now = now; opened = q ∷ qs })
        → Stands e P v' to' rest (record { now = close caption q now; opened = qs }))
        → Takes caption e P (take end (cells bs ns)) to os i v' to' rest (i + j) s
    unfolding step closed texts more Stood
    takes-close i {k} {j} ek zk ej n v' to' cl = record {
      token = closes (take j (drop i (take e P)));
      behind = [];
      reads = read-closer (take e P) (take e bs) text-bytes i ek zk ej n;
      stands = by s.opened (rw (sym eo) w);
    }
      where
        by : (qs : List Quote) → Stands e P (take end (cells bs ns)) to (o ∷ rest) (record { now = s.now; opened = qs }) → Stands e P v' to' rest (closed caption s.now qs)
        by [] h = absurd h.stood
        by (x ∷ qs) h = cl s.now x qs h

module _ (caption : List ℕ → List ℕ) (e base end : ℕ) (bs ns : List ℕ) (to : ℕ) (he : e ≤ base) (hp : base ≤ end) (hb : end ≤ length bs) (hn : end ≤ length ns) (ht : to ≤ end) where
  pub closes-last : (o : Opened) (begin tag : ℕ) → (base ≤ o.start.0 → o.start.0 ≤ to → begin ≡ o.start.0) → (o.tag.0 ≤ e → tag ≡ o.tag.0)
      → {bs' ns' : List ℕ} {to' : ℕ} → ClosesIn bs ns end begin to bs' ns' to' (quote_block (caption (attribution_of (drop tag (take e bs)))))
      → ClosesLast caption e base end bs ns to o bs' ns' to'
  closes-last o begin tag eb et cl = record {
    each = λ P now q qs os e_p w.
        stands-closed caption e end P bs ns to (o ∷ os) (record { now = now; opened = q ∷ qs }) w (omega arith) (omega arith) hb hn ht o os refl begin tag (λ le. eb (omega arith)) et _ _ cl.closes now q qs refl;
  }

  -- what stands before `begin` stands there still
  text-kept : (k : ℕ) (bs' ns' : List ℕ) → e ≤ k → k ≤ end → end ≤ length bs' → end ≤ length ns' → take k (take end (cells bs' ns')) ≡ take k (take end (cells bs ns)) → take e bs' ≡ take e bs
  text-kept k bs' ns' h j hb' hn' q =
      sym (cells-bytes e bs' ns' (omega arith) (omega arith))
      ∙ ap bytes (sym (take-take e end (cells bs' ns') (omega arith)) ∙ sym (take-take e k (take end (cells bs' ns')) h) ∙ ap (take e) q ∙ take-take e k (take end (cells bs ns)) h ∙ take-take e end (cells bs ns) (omega arith))
      ∙ cells-bytes e bs ns (omega arith) (omega arith)

  pub closing-keeps : {bs' ns' : List ℕ} {begin to' : ℕ} {block : List Cell → List Cell} → ClosesIn bs ns end begin to bs' ns' to' block → base ≤ begin → begin ≤ end → length bs' ≡ length bs → length ns' ≡ length ns → take e bs' ≡ take e bs
  closing-keeps {bs'} {ns'} {begin} c h j lb ln = text-kept begin bs' ns' (omega arith) j (omega arith) (omega arith) c.closes.keeps

  pub appending-keeps : {bs' ns' : List ℕ} {to' : ℕ} {t : List Cell} → AppendsIn bs ns end to bs' ns' to' t → base ≤ to → length bs' ≡ length bs → length ns' ≡ length ns → take e bs' ≡ take e bs
  appending-keeps {bs'} {ns'} a h lb ln = text-kept to bs' ns' (omega arith) ht (omega arith) (omega arith) a.appends.keeps

  module _ (i : ℕ) {k : ℕ} (lt : i < e) (ek : k ≡ opener_size (drop i (take e bs))) where
    pub opener-taken : (os : List Opened) → (k ≡ 0 → ⊥) → TakesOne caption e base end bs ns to os i bs ns to (record { start = record { 0 = to }; tag = record { 0 = i } } ∷ os) (i + k)
    opener-taken os n = record { each = λ P s e_p w. takes-opener caption e end P bs ns to os s w (omega arith) (omega arith) hb hn ht i ek n lt }

    module _ {j : ℕ} (zk : k ≡ 0) (ej : j ≡ closer_size (drop i (take e bs))) where
      pub stray-taken : (os : List Opened) → (j ≡ 0 → ⊥) → os ≡ [] → TakesOne caption e base end bs ns to os i bs ns to os (i + j)
      stray-taken os n none = record { each = λ P s e_p w. takes-stray caption e end P bs ns to os s w (omega arith) (omega arith) hb hn ht i ek zk ej n none }

      pub closer-taken : (os : List Opened) (o : Opened) (rest : List Opened) → (j ≡ 0 → ⊥) → os ≡ o ∷ rest → {bs' ns' : List ℕ} {to' : ℕ} → ClosesLast caption e base end bs ns to o bs' ns' to'
          → TakesOne caption e base end bs ns to os i bs' ns' to' rest (i + j)
      closer-taken os o rest n eo cl = record { each = λ P s e_p w. takes-close caption e end P bs ns to os s w (omega arith) (omega arith) hb hn ht o rest eo i ek zk ej n _ _ (λ now q qs h. cl.each P now q qs rest e_p h) }

      pub text-taken : (os : List Opened) → j ≡ 0 → {q : ℕ} → PlainRun (take e bs) (i + 1) q → {bs' ns' : List ℕ} {to' : ℕ} → AppendsIn bs ns end to bs' ns' to' (part i q (cells bs ns))
          → TakesOne caption e base end bs ns to os i bs' ns' to' os q
      text-taken os zj run a = record { each = λ P s e_p w. takes-text caption e end P bs ns to os s w (omega arith) (omega arith) hb hn ht i ek zk ej zj lt run _ _ a.appends }

-- ---- all tokens

or-false : (a b : Bool) → (a || b) ≡ false → (a ≡ false) × (b ≡ false)
or-false true b h = absurd (true≢false h)
or-false false b h = (refl, h)

module _ (caption : List ℕ → List ℕ) where
  finish-needs : (now : List Cell) (qs : List Quote) → held qs + length now ≤ finish_need caption now qs
  unfolding finish_need held
  finish-needs now [] = omega arith
  finish-needs now (q ∷ qs) = omega arith

  total-needed : (r : List Token) (s : State) → total s ≤ run_need caption r s
  unfolding run_need total
  total-needed [] s = finish-needs s.now s.opened
  total-needed (t ∷ r) s = omega arith

  deep_step : (t : Token) (r : List Token) (s : State) → too_deep_from (length s.opened) (t ∷ r) ≡ false → too_deep_from (length (step caption t s).opened) r ≡ false
  unfolding too_deep_from step closed
  deep_step (text c) r s h = h
  deep_step (opens tag a) r s h = (or-false (leb 64 (length s.opened)) _ h).1
  deep_step (closes tag) r s h = by s.opened h
    where
      by : (qs : List Quote) → too_deep_from (length qs - 1) r ≡ false → too_deep_from (length (closed caption s.now qs).opened) r ≡ false
      by [] h = h
      by (q ∷ qs) h = let z : suc (length qs) - 1 ≡ length qs = omega arith in rw (sym z) h

  module _ (e end : ℕ) (P : List Cell) where
    -- what is left of the text, taken from the state that the area holds, gives all of it, where the contents had `seen` cells at most
    pub record Running (v : List Cell) (to : ℕ) (os : List Opened) (i seen : ℕ) : Type 0 where
      pub state : State
      pub stands : Stands e P v to os state
      pub same : quotes caption (take e P) ≡ run caption (tokens 0 (drop i (take e P))) state
      pub need : quotes_need caption (take e P) ≡ max seen (run_need caption (tokens 0 (drop i (take e P))) state)
      pub short : length P + seen ≤ end
      pub deep : too_deep_from (length os) (tokens 0 (drop i (take e P))) ≡ false

    -- how much the area holds
    holds-total : (v : List Cell) (to : ℕ) (os : List Opened) (s : State) → Stands e P v to os s → length (P ++ (opening s.opened ++ s.now)) ≡ length P + total s
    unfolding total
    holds-total v to os s w =
        let a = length-append P (opening s.opened ++ s.now) in
        let b = length-append (opening s.opened) s.now in
        let c = opening-length s.opened in
        omega arith

    pub running-start : (v : List Cell) → take (length P) v ≡ P → length P ≤ length v → too_deep (take e P) ≡ false → length P ≤ end → Running v (length P) [] 0 0
    unfolding quotes quotes_need too_deep Stood opening
    running-start v h le z f = record {
      state = start;
      stands = record {
        text = rw append-nil (record { end = λ _. refl; text = λ _. h; full = λ lt. absurd (omega arith) });
        stood = tt;
      };
      same = refl;
      need = omega arith;
      short = omega (arith, f);
      deep = z;
    }

    module _ {v : List Cell} {to : ℕ} {os : List Opened} {i seen : ℕ} (w : Running v to os i seen) (size : length v ≡ end) (fit : to ≤ end) where
      total-is : to ≡ length P + total w.state
      total-is = let a = holds-total v to os w.state w.stands in let b = w.stands.text.end (holds_fits v to _ w.stands.text (omega arith)) in omega arith

      pub running-room : {k : ℕ} (s : List ℕ) → bytes (take e P) ≡ s → k ≡ opener_size (drop i s) → (k ≡ 0 → ⊥) → length os < 64
      unfolding too_deep_from
      running-room s eb ek n =
          let z : (leb 64 (length os) || _) ≡ false = rw (read-opener (take e P) s eb i ek n) at w.deep in
          leb-false 64 (length os) (or-false (leb 64 (length os)) _ z).0

      pub running-end : length (take e P) ≤ i → Finishing caption e end P v to os seen
      unfolding run run_need
      running-end le =
          let z : tokens 0 (drop i (take e P)) ≡ [] = read-end (take e P) (bytes (take e P)) refl i (rw (length-map (take e P) (λ (c : Cell). c.byte)) le) in
          record {
            now = w.state.now;
            opened = w.state.opened;
            stands = w.stands;
            same = rw z at w.same;
            need = rw z at w.need;
            short = w.short;
          }

      module _ {v' : List Cell} {to' : ℕ} {os' : List Opened} {i' : ℕ} (t : Takes caption e P v to os i v' to' os' i' w.state) (size' : length v' ≡ end) where
        rest : List Token
        rest = tokens 0 (drop i' (take e P))

        stepped : State
        stepped = step caption t.token w.state

        -- only what comes behind text counts
        on_texts : run_need caption (texts t.behind rest) stepped ≡ run_need caption rest (more stepped t.behind)
        on_texts =
            let a = need-texts caption (total (more stepped t.behind)) t.behind rest stepped (omega arith) in
            let b = texts-needed caption t.behind rest stepped (total-needed rest) in
            let k = total-needed rest (more stepped t.behind) in
            omega (arith, a, b, k)

        on-need : quotes_need caption (take e P) ≡ max (max seen (to - length P)) (run_need caption rest (more stepped t.behind))
        unfolding run_need rest stepped
        on-need = let n = rw t.reads at w.need in let z = total-is in let b = on_texts in omega (arith, n, z, b)

        pub running-on : to' ≤ end → Running v' to' os' i' (max seen (to - length P))
        unfolding run rest stepped
        running-on le = record {
          state = more (step caption t.token w.state) t.behind;
          stands = t.stands;
          same = rw t.reads at w.same ∙ run-texts caption t.behind (tokens 0 (drop i' (take e P))) (step caption t.token w.state);
          need = on-need;
          short = let k = w.short in omega (arith, k, fit);
          deep = rw (stood-length _ _ os' _ t.stands.stood, more-opened t.behind (step caption t.token w.state))
              (sym (deep-texts _ t.behind (tokens 0 (drop i' (take e P)))) ∙ deep_step t.token _ w.state (rw (t.reads, stood-length _ _ os _ w.stands.stood) at w.deep));
        }

        pub running-full : end < to' → end < length P + quotes_need caption (take e P)
        unfolding rest stepped
        running-full lt =
            let s' : State = more (step caption t.token w.state) t.behind in
            let a = holds-total v' to' os' s' t.stands in
            let over : length P + total s' ≤ end → ⊥ = λ le. (let q = t.stands.text.end (omega arith) in omega arith) in
            let b = total-needed (tokens 0 (drop i' (take e P))) s' in
            let n = on-need in
            elim (dec_le (length P + total s') end) [ yes p ↦ absurd (over p) | no p ↦ omega (arith, n, b, p) ]

    -- ---- closing what is open at the end

    -- closing what the area holds gives what closing all of it does
    pub record Closing (now₀ : List Cell) (qs₀ : List Quote) (seen₀ : ℕ) (v : List Cell) (to : ℕ) (os : List Opened) (seen : ℕ) : Type 0 where
      pub now : List Cell
      pub opened : List Quote
      pub stands : Stands e P v to os (record { now = now; opened = opened })
      pub same : finish caption now₀ qs₀ ≡ finish caption now opened
      pub need : max seen₀ (finish_need caption now₀ qs₀) ≡ max seen (finish_need caption now opened)
      pub short : length P + seen ≤ end

    pub closing-start : {v : List Cell} {to : ℕ} {os : List Opened} {seen : ℕ} (now : List Cell) (qs : List Quote) → length P + seen ≤ end → Stands e P v to os (record { now = now; opened = qs })
        → Closing now qs seen v to os seen
    closing-start now qs f w = record { now = now; opened = qs; stands = w; same = refl; need = refl; short = f }

    module _ {now₀ : List Cell} {qs₀ : List Quote} {seen₀ : ℕ} {v : List Cell} {to : ℕ} {os : List Opened} {seen : ℕ} (w : Closing now₀ qs₀ seen₀ v to os seen) (size : length v ≡ end) (fit : to ≤ end) where
      held_small : (length P + (held w.opened + length w.now) ≤ end) × (to ≡ length P + (held w.opened + length w.now))
      unfolding total
      held_small = let a = holds-total v to os _ w.stands in let f = holds_fits v to _ w.stands.text (omega arith) in let b = w.stands.text.end f in (omega arith, omega arith)

      pub closing_end : os ≡ [] → (n : ℕ) → n ≡ max seen (to - length P)
          → ((length P + max seen₀ (finish_need caption now₀ qs₀) ≤ end) × (n ≡ max seen₀ (finish_need caption now₀ qs₀))) × ((to ≡ length P + length (finish caption now₀ qs₀)) × (part (length P) to v ≡ finish caption now₀ qs₀))
      unfolding finish finish_need held opening
      closing_end z n en = by w.opened (sym (stood-length _ _ os w.opened w.stands.stood) ∙ ap length z) w.stands w.same w.need held_small
        where
          by : (qs : List Quote) → length qs ≡ 0 → Stands e P v to os (record { now = w.now; opened = qs }) → finish caption now₀ qs₀ ≡ finish caption w.now qs
              → max seen₀ (finish_need caption now₀ qs₀) ≡ max seen (finish_need caption w.now qs)
              → (length P + (held qs + length w.now) ≤ end) × (to ≡ length P + (held qs + length w.now))
              → ((length P + max seen₀ (finish_need caption now₀ qs₀) ≤ end) × (n ≡ max seen₀ (finish_need caption now₀ qs₀))) × ((to ≡ length P + length (finish caption now₀ qs₀)) × (part (length P) to v ≡ finish caption now₀ qs₀))
          by (q ∷ qs) l h r k f = absurd (omega arith)
          by [] l h r k f =
              let q = ap length r in
              let s = w.short in
              ((omega (arith, k, f.0, s), omega (arith, en, k, f.1)), (omega (arith, f.1, q), holds-part v to P w.now h.text (omega arith) (length P) refl ∙ sym r))

      module _ {v' : List Cell} {to' : ℕ} (o : Opened) (rest : List Opened) (eo : os ≡ o ∷ rest)
          (cl : (now : List Cell) (q : Quote) (qs : List Quote) → Stands e P v to (o ∷ rest) (record { now = now; opened = q ∷ qs })
          → Stands e P v' to' rest (record { now = close caption q now; opened = qs })) (size' : length v' ≡ end) where
        closed-one : (qs : List Quote) → Stands e P v to (o ∷ rest) (record { now = w.now; opened = qs }) → finish caption now₀ qs₀ ≡ finish caption w.now qs
            → max seen₀ (finish_need caption now₀ qs₀) ≡ max seen (finish_need caption w.now qs)
            → (length P + (held qs + length w.now) ≤ end) × (to ≡ length P + (held qs + length w.now))
            → Closing now₀ qs₀ seen₀ v' to' rest (max seen (to - length P))
        unfolding finish finish_need Stood
        closed-one [] h r n f = absurd h.stood
        closed-one (q ∷ qs) h r n f = record {
          now = close caption q w.now;
          opened = qs;
          stands = cl w.now q qs h;
          same = r;
          need = omega (arith, n, f.1);
          short = let k = w.short in omega (arith, k, fit);
        }

        pub closing-on : Closing now₀ qs₀ seen₀ v' to' rest (max seen (to - length P))
        closing-on = closed-one w.opened (rw (sym eo) w.stands) w.same w.need held_small

        pub closing-full : end < to' → end < length P + max seen₀ (finish_need caption now₀ qs₀)
        unfolding total
        closing-full lt =
            let k = closing-on in
            let a = holds-total v' to' rest _ k.stands in
            let b = finish-needs k.now k.opened in
            elim (dec_le (length P + (held k.opened + length k.now)) end) [ yes le ↦ (let q = k.stands.text.end (omega arith) in absurd (omega arith)) | no le ↦ omega (arith, k.need, b, le) ]

-- ---- the loops

module _ (m : Memory) (os₀ : List Opened) (r : Reached) where
  -- of all that may be open at the start
  pub record ClosingAll (n : Memory) (to : ℕ) (os : List Opened) (seen : ℕ) : Type 0 where
    pub each : (P now : List Cell) (qs : List Quote) → length P ≡ m.areas.base.0 → m.areas.base.0 + r.seen ≤ m.areas.end.0
        → Stands m.areas.text.0 P (take m.areas.end.0 (cells m.work.now m.numbers.now)) r.to.0 os₀ (record { now = now; opened = qs })
        → Closing caption m.areas.text.0 m.areas.end.0 P now qs r.seen (take m.areas.end.0 (cells n.work.now n.numbers.now)) to os seen

  pub all_start : ClosingAll m r.to.0 os₀ r.seen
  all_start = record { each = λ P now qs e_p f st. closing-start caption m.areas.text.0 m.areas.end.0 P now qs (omega (arith, e_p, f)) st }

  module _ {n : Memory} {to seen : ℕ} {os : List Opened} (w : ClosingAll n to os seen) (s : Same m n) (fit : to ≤ m.areas.end.0) where
    size : length (take m.areas.end.0 (cells n.work.now n.numbers.now)) ≡ m.areas.end.0
    size = area-length n.work.now n.numbers.now m.areas.end.0 (end-bytes s) (end-numbers s)

    pub all_end : os ≡ [] → (k : ℕ) → k ≡ max seen (to - m.areas.base.0) → ClosesAll m os₀ r n (Some (record { end = record { 0 = to }; need = k }))
    all_end z k ek P now qs e_p f st =
        subst (λ (k' : ℕ). Leaves k' m.areas.end.0 (take m.areas.end.0 (cells n.work.now n.numbers.now)) (finish caption now qs) (max r.seen (finish_need caption now qs)) (Some (record { end = record { 0 = to }; need = k }))) e_p
        (closing_end caption m.areas.text.0 m.areas.end.0 P (w.each P now qs e_p f st) size fit z k (rw e_p ek))

    module _ {n' : Memory} {to' : ℕ} {o : Opened} {rest : List Opened} (eo : os ≡ o ∷ rest) (q : ClosesInner n o to n' to') (s' : Same n n') where
      last : ClosesLast caption m.areas.text.0 m.areas.base.0 m.areas.end.0 n.work.now n.numbers.now to o n'.work.now n'.numbers.now to'
      last = rw s.areas at q.closes

      size' : length (take m.areas.end.0 (cells n'.work.now n'.numbers.now)) ≡ m.areas.end.0
      size' = let t = same-then s s' in area-length n'.work.now n'.numbers.now m.areas.end.0 (end-bytes t) (end-numbers t)

      pub all-place : m.areas.base.0 ≤ to'
      all-place = rw s.areas at q.place

      pub all-on : (k : ℕ) → k ≡ max seen (to - m.areas.base.0) → ClosingAll n' to' rest k
      all-on k ek = record {
        each = λ P now qs e_p f st.
            rw (ek, ← e_p) (closing-on caption m.areas.text.0 m.areas.end.0 P (w.each P now qs e_p f st) size fit o rest eo (λ now' q' qs' h. last.each P now' q' qs' rest e_p h) size');
      }

      pub all-full : m.areas.end.0 < to' → ClosesAll m os₀ r n' None
      all-full lt P now qs e_p f st =
          subst (λ (k : ℕ). m.areas.end.0 < k + max r.seen (finish_need caption now qs)) e_p
          (closing-full caption m.areas.text.0 m.areas.end.0 P (w.each P now qs e_p f st) size fit o rest eo (λ now' q' qs' h. last.each P now' q' qs' rest e_p h) size' lt)

module _ (m : Memory) where
  abbrev P₀ : List Cell
  P₀ = take m.areas.base.0 (cells m.work.now m.numbers.now)

  -- the run, in memory
  pub record RunningIn (n : Memory) (os : List Opened) (t : Taken) (seen : ℕ) : Type 0 where
    pub text : take m.areas.text.0 n.work.now ≡ take m.areas.text.0 m.work.now
    pub runs : Running caption m.areas.text.0 m.areas.end.0 P₀ (take m.areas.end.0 (cells n.work.now n.numbers.now)) t.to.0 os t.at.0 seen

  text-within : m.areas.text.0 ≤ m.areas.base.0
  text-within = m.lent.0.0

  base-within : m.areas.base.0 ≤ m.areas.end.0
  base-within = m.lent.0.1

  before-length : length P₀ ≡ m.areas.base.0
  before-length = let b = end-bytes (same-none m) in let c = end-numbers (same-none m) in let h = base-within in length-take-le m.areas.base.0 (cells m.work.now m.numbers.now) (cells-le m.work.now m.numbers.now m.areas.base.0 (omega arith) (omega arith))

  text-is : take m.areas.text.0 P₀ ≡ take m.areas.text.0 (cells m.work.now m.numbers.now)
  text-is = take-take m.areas.text.0 m.areas.base.0 (cells m.work.now m.numbers.now) text-within

  pub run-start : too_deep (take m.areas.text.0 (cells m.work.now m.numbers.now)) ≡ false → (b : PostAt) → RunningIn m [] (record { at = record { 0 = 0 }; bracket = b; to = m.areas.base }) 0
  run-start z b =
      let l = before-length in
      let h = base-within in
      let a = area-length m.work.now m.numbers.now m.areas.end.0 (end-bytes (same-none m)) (end-numbers (same-none m)) in
      record {
        text = refl;
        runs = subst (λ (k : ℕ). Running caption m.areas.text.0 m.areas.end.0 P₀ (take m.areas.end.0 (cells m.work.now m.numbers.now)) k [] 0 0) l
            (running-start caption m.areas.text.0 m.areas.end.0 P₀ (take m.areas.end.0 (cells m.work.now m.numbers.now)) (rw l (take-take m.areas.base.0 m.areas.end.0 (cells m.work.now m.numbers.now) h)) (omega arith) (rw text-is z) (omega arith));
      }

  module _ {n : Memory} {t : Taken} {os : List Opened} {seen : ℕ} (w : RunningIn n os t seen) (s : Same m n) (place : (m.areas.base.0 ≤ t.to.0) × (t.to.0 ≤ m.areas.end.0)) where
    running-size : length (take m.areas.end.0 (cells n.work.now n.numbers.now)) ≡ m.areas.end.0
    running-size = area-length n.work.now n.numbers.now m.areas.end.0 (end-bytes s) (end-numbers s)

    run_room : (opener_size (drop t.at.0 (take m.areas.text.0 n.work.now)) ≡ 0 → ⊥) → length os < deep_most
    run_room f =
        let l = before-length in
        let a = text-within in
        let b = base-within in
        running-room caption m.areas.text.0 m.areas.end.0 P₀ w.runs running-size place.1 (take m.areas.text.0 n.work.now)
        (text-bytes caption m.areas.text.0 m.areas.end.0 P₀ n.work.now n.numbers.now t.to.0 os w.runs.state w.runs.stands (omega arith) (omega arith) (end-bytes s) (end-numbers s) place.1) refl f

    pub run-ready : t.at.0 < m.areas.text.0 → NextBracket (take m.areas.text.0 n.work.now) t.at.0 t.bracket.0 → Ready n os t
    run-ready lt b = record { at = rw s.areas lt; to = rw s.areas place; bracket = rw s.areas b; room = rw s.areas run_room }

    pub run_end : m.areas.text.0 ≤ t.at.0 → Finishing caption m.areas.text.0 m.areas.end.0 P₀ (take m.areas.end.0 (cells n.work.now n.numbers.now)) t.to.0 os seen
    run_end le =
        let l = before-length in
        let a = text-within in
        let k : length (take m.areas.text.0 P₀) ≡ m.areas.text.0 = length-take-le m.areas.text.0 P₀ (omega arith) in
        running-end caption m.areas.text.0 m.areas.end.0 P₀ w.runs running-size place.1 (omega arith)

    module _ {n' : Memory} {os' : List Opened} {t' : Taken} (q : TakesToken n os t n' os' t') (s' : Same n n') where
      one : TakesOne caption m.areas.text.0 m.areas.base.0 m.areas.end.0 n.work.now n.numbers.now t.to.0 os t.at.0 n'.work.now n'.numbers.now t'.to.0 os' t'.at.0
      one = rw s.areas at q.takes

      size'' : length (take m.areas.end.0 (cells n'.work.now n'.numbers.now)) ≡ m.areas.end.0
      size'' = let u = same-then s s' in area-length n'.work.now n'.numbers.now m.areas.end.0 (end-bytes u) (end-numbers u)

      pub run-place : m.areas.base.0 ≤ t'.to.0
      run-place = rw s.areas at q.place

      pub run-bracket : NextBracket (take m.areas.text.0 n'.work.now) t'.at.0 t'.bracket.0
      run-bracket = rw s.areas at q.bracket

      pub run-forward : (t.at.0 < t'.at.0) × (t'.at.0 ≤ m.areas.text.0)
      run-forward = rw s.areas at q.on

      pub run_on : t'.to.0 ≤ m.areas.end.0 → (k : ℕ) → k ≡ max seen (t.to.0 - m.areas.base.0) → RunningIn n' os' t' k
      run_on le k ek =
          let x : k ≡ max seen (t.to.0 - length P₀) = ek ∙ ap (λ (j : ℕ). max seen (t.to.0 - j)) (sym before-length) in
          record {
            text = (rw s.areas at q.text) ∙ w.text;
            runs = rw x (running-on caption m.areas.text.0 m.areas.end.0 P₀ w.runs running-size place.1 (one.each P₀ w.runs.state before-length w.runs.stands) size'' le);
          }

      pub run-full : m.areas.end.0 < t'.to.0 → m.areas.end.0 < m.areas.base.0 + quotes_need caption (take m.areas.text.0 (cells m.work.now m.numbers.now))
      run-full lt =
          let f = running-full caption m.areas.text.0 m.areas.end.0 P₀ w.runs running-size place.1 (one.each P₀ w.runs.state before-length w.runs.stands) size'' lt in
          rw (before-length, text-is) at f

  module _ (n n' : Memory) {os : List Opened} {to seen : ℕ} (f : Finishing caption m.areas.text.0 m.areas.end.0 P₀ (take m.areas.end.0 (cells n.work.now n.numbers.now)) to os seen) where
    seen-short : m.areas.base.0 + seen ≤ m.areas.end.0
    seen-short = let l = before-length in let s = f.short in omega (arith, l, s)

    pub pass-done : (a : Option Passed) → Same m n → ClosesAll n os (record { to = record { 0 = to }; seen = seen }) n' a → PassedIn m.areas m.work.now m.numbers.now n'.work.now n'.numbers.now a
    pass-done a s c =
        let g = rw s.areas at c in
        rw (← text-is, f.same, f.need) (g P₀ f.now f.opened before-length seen-short f.stands)
