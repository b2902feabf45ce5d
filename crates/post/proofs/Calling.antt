-- Laws of a whole call. Assumes nothing.
use mathlib.Core.Path.{◌≡◌, refl, sym, ap, ◌∙◌}
use mathlib.Core.Bool.{Bool, true, false, cond}
use mathlib.Core.List.{List, [], ◌++◌}
use Prim.Native.Nat.{ℕ, ◌+◌, ◌-◌, ◌*◌, ◌≤◌, ◌<◌}
use native.Mathlib.Nat.{zero-add, add-sub_cancel_left}
use native.Mathlib.Omega.{arith}
use native.Mathlib.Decide.{dec_le}
use lib.ListN.{length, take, drop, replicate, length-map, length-append, length-drop, take-append-drop}
use lib.Seq.{length-take-le, take_at, take-append-le, take-take, drop_at, drop-drop}
use lib.Dec.{ltb}
use borrow.Author.Tests.{lt-ltb, le-ltb}
use Rattle.text.specs.Cells.{Cell, cells, cells_of, bytes, origins, part}
use Rattle.text.specs.Writes.{Holds, LaidOut, cleared, padded}
use Rattle.lending.specs.Lent.{checked}
use Rattle.lending.specs.declared.lent.Refusal.{Refusal}
use Rattle.lending.specs.declared.lent.Refusal.TheVariants.{TooDeep, NoSpace}
use Rattle.lending.specs.declared.lent.Lent.{Lent}
use Rattle.lending.specs.declared.answer.Converted.{Converted}
use Rattle.std.specs.Prelude.{Option, Some, None, Result, Ok, Err}
use Rattle.std.specs.Option.{ok_or}
use Rattle.text.proofs.Areas.{drop-take, area-length}
use Rattle.text.proofs.Clearing.{laid-cleared, cleared-all, cells-bytes}
use Rattle.text.proofs.Sources.{cells-taken, cells-dropped, back_is, front-is}
use Rattle.text.proofs.Copying.{length-cells_of, bytes-cells_of}
use Rattle.text.proofs.Writing.{holds_fits}
use Rattle.losses.specs.declared.Loss.{Loss}
use Rattle.attribution_parts.specs.Attribution.{caption}
use Rattle.quote_blocks.specs.Quotes as Quotes
use Rattle.quote_lines.specs.Lines.{tags}
use Rattle.quote_losses.specs.Losses.{quote_losses, loss_bytes, loss_records, ListsLosses}
use Rattle.quotes.specs.Calls.{limited, Filled}
use Rattle.list_blocks.specs.Blocks.{between}
use Rattle.list_blocks.specs.Tags as ListTags
use Rattle.list_blocks.specs.Tags.{pushes}
use Rattle.list_blocks.specs.Lists.{lists, lists_need}
use Rattle.post_steps.proofs.Pushing.{lost-pushes}
use Rattle.mark_tags.specs.Marks.{marks}
use Rattle.marks.specs.Untagged.{Untagged}
use Rattle.chain.specs.Post.{marks_text, quoted_text, finished}
use Rattle.lists.specs.Calls as Lists
use Rattle.post.specs.Calls.{listing, quoting, marked, converted, answered, answer_by, Called, Copied, losses_by, Noted, Left, Ends, spaced, Quotable}
use Rattle.chain.proofs.Chain.{finished-copied}
use Rattle.post.proofs.MarksLength.{marks-short}

-- ---- what a call leaves

pub ends_as : {t : List Cell} {ws : List ℕ} {m k : ℕ} {wanted else l : Result Converted Refusal} {out plain words : List ℕ} → Ends t ws m k else l out plain words → wanted ≡ else
    → Ends t ws m k wanted l out plain words
ends_as p e = record { answer = p.answer ∙ sym e; left = p.left }

-- an option that is looked into, `o.ok_or(r)?`
pub or-refused : {A : Type 0} (o : Option A) {r e : Refusal} → ok_or o r ≡ Err e → (o ≡ None) × (r ≡ e)
or-refused None h = (refl, cc)
or-refused (Some a) h = let z : ◌≡◌ {A = ℕ} 0 1 = cc in absurd (omega arith)

pub or-done : {A : Type 0} (o : Option A) (r : Refusal) {a : A} → ok_or o r ≡ Ok a → o ≡ Some a
or-done None r h = let z : ◌≡◌ {A = ℕ} 0 1 = cc in absurd (omega arith)
or-done (Some b) r h = cc

-- ---- lengths with losses

abbrev pub with_losses : (a w : ℕ) → Result ℕ Refusal → Result Converted Refusal
with_losses a w (Ok n) = Ok (record { size = n; losses = a; bytes = w })
with_losses a w (Err r) = Err r

module _ {l wanted : Result ℕ Refusal} (a w : ℕ) (e : l ≡ wanted) where
  pub with-refused : {r : Refusal} → l ≡ Err r → Err r ≡ with_losses a w wanted
  with-refused f = rw (← e, f)

  pub with-done : {n : ℕ} → l ≡ Ok n → Ok (record { size = n; losses = a; bytes = w }) ≡ with_losses a w wanted
  with-done f = rw (← e, f)

pub listing-with : (x : List Cell) (m a w : ℕ) → listing x m a w ≡ with_losses a w (Lists.converted x m)
unfolding listing Lists.converted
listing-with x m a w = by (ListTags.too_deep x) (ltb m (lists_need x))
  where
    by : (s t : Bool) → cond s (Err TooDeep) (cond t (Err NoSpace) (Ok (record { size = length (lists x); losses = a; bytes = w }))) ≡ with_losses a w (cond s (Err TooDeep) (cond t (Err NoSpace) (Ok (length (lists x)))))
    by true t = refl
    by false true = refl
    by false false = refl

pub quoting-with : (x : List Cell) (m a w : ℕ) → quoting x m a w ≡ with_losses a w (spaced x m)
unfolding quoting spaced
quoting-with x m a w = by (ltb m (Quotes.quotes_need caption x))
  where
    by : (s : Bool) → cond s (Err NoSpace) (listing (Quotes.quotes caption x) m a w) ≡ with_losses a w (cond s (Err NoSpace) (Lists.converted (Quotes.quotes caption x) m))
    by true = refl
    by false = listing-with (Quotes.quotes caption x) m a w

-- ---- quotes

module _ (x : List Cell) (m : ℕ) where
  pub spaced-full : m < Quotes.quotes_need caption x → Err NoSpace ≡ spaced x m
  unfolding spaced
  spaced-full h = rw (lt-ltb m (Quotes.quotes_need caption x) h)

  pub spaced-done : Quotes.quotes_need caption x ≤ m → Lists.converted (Quotes.quotes caption x) m ≡ spaced x m
  unfolding spaced
  spaced-done h = rw (le-ltb m (Quotes.quotes_need caption x) h)

-- ---- a pair of slices

-- the bytes of a part
pub part_bytes : (a e : ℕ) (bs ns : List ℕ) → a ≤ e → e ≤ length bs → e ≤ length ns → bytes (part a e (cells bs ns)) ≡ take (e - a) (drop a bs)
unfolding part
part_bytes a e bs ns h hb hn =
    let kb = length-drop a bs in
    let kn = length-drop a ns in
    ap bytes (drop-take a e (cells bs ns) ∙ ap (take (e - a)) (sym (cells-dropped a bs ns))) ∙ cells-bytes (e - a) (drop a bs) (drop a ns) (omega (arith, kb, hb, h)) (omega (arith, kn, hn, h))

pub part-size : (a e : ℕ) (bs ns : List ℕ) → a ≤ e → e ≤ length bs → e ≤ length ns → length (part a e (cells bs ns)) ≡ e - a
part-size a e bs ns h hb hn =
    let kb = length-drop a bs in
    sym (length-map (part a e (cells bs ns)) (λ (c : Cell). c.byte)) ∙ ap length (part_bytes a e bs ns h hb hn) ∙ length-take-le (e - a) (drop a bs) (omega (arith, kb, hb, h))

-- the numbers before a place r have been lent

-- cells before it
pub lent-before : (k r : ℕ) (bs ns : List ℕ) → k ≤ r → take k (cells bs (take r ns)) ≡ take k (cells bs ns)
lent-before k r bs ns h = sym (cells-taken k bs (take r ns)) ∙ ap (cells (take k bs)) (take-take k r ns h) ∙ cells-taken k bs ns

pub part-before : (a e r : ℕ) (bs ns rest : List ℕ) → length ns ≡ r → e ≤ r → part a e (cells bs (ns ++ rest)) ≡ part a e (cells bs ns)
unfolding part
part-before a e r bs ns rest l h =
    ap (drop a) (sym (cells-taken e bs (ns ++ rest)) ∙ ap (cells (take e bs)) (take-append-le e ns rest (omega (arith, l, h))) ∙ cells-taken e bs ns)

-- numbers behind it stay
pub stays-behind : (r a e : ℕ) (ns ys : List ℕ) → length ys ≡ r → r ≤ a → r ≤ length ns → between a e (ys ++ drop r ns) ≡ between a e ns
unfolding between
stays-behind r a e ns ys l h k =
    let l' : length (take r ns) ≡ r = length-take-le r ns k in
    let s : (xs : List ℕ) → length xs ≡ r → drop a (take e (xs ++ drop r ns)) ≡ take (e - a) (drop (a - r) (drop r ns)) =
    λ xs q. drop-take a e (xs ++ drop r ns) ∙ ap (take (e - a)) (drop_past a r xs (drop r ns) q h) in
    s ys l ∙ sym (s (take r ns) l') ∙ ap (λ (z : List ℕ). drop a (take e z)) (take-append-drop r ns)
  where
    drop_past : (a r : ℕ) (xs zs : List ℕ) → length xs ≡ r → r ≤ a → drop a (xs ++ zs) ≡ drop (a - r) zs
    drop_past a r xs zs q h =
        let z : a ≡ r + (a - r) = omega arith in
        ap (λ (i : ℕ). drop i (xs ++ zs)) z ∙ sym (drop-drop (a - r) r (xs ++ zs)) ∙ ap (drop (a - r)) (drop_at xs zs r q)

-- a part of what stays stays
pub stays-in : (a e b f : ℕ) (ns ns' : List ℕ) → a ≤ b → f ≤ e → between a e ns' ≡ between a e ns → between b f ns' ≡ between b f ns
unfolding between
stays-in a e b f ns ns' h k p = inner ns' ∙ ap (λ (z : List ℕ). drop (b - a) (take (f - a) z)) p ∙ sym (inner ns)
  where
    inner : (xs : List ℕ) → drop b (take f xs) ≡ drop (b - a) (take (f - a) (drop a (take e xs)))
    inner xs =
        let z : b ≡ a + (b - a) = omega arith in
        ap (drop b) (sym (take-take f e xs k)) ∙ ap (λ (i : ℕ). drop i (take f (take e xs))) z ∙ sym (drop-drop (b - a) a (take f (take e xs))) ∙ ap (drop (b - a)) (drop-take a f (take e xs))

-- ---- quotes in work memory

-- the numbers of the records, and what the quoted text pushes on the table of open lists
pub quotable-room : {k r losses : ℕ} {work numbers out plain : List ℕ} → Quotable k r losses work numbers out plain
    → 5 * losses + pushes (ListTags.tokens 0 (Quotes.quotes caption (take k (cells work numbers)))) ≤ 5 * k
quotable-room {k} {work = work} {numbers = numbers} q =
    let l = area-length work numbers k (omega (arith, q.areas)) (omega (arith, q.room)) in
    let p = lost-pushes (take k (cells work numbers)) in
    omega (arith, l, p, q.lost)

part-within : (a e k : ℕ) (v : List Cell) → e ≤ k → part a e (take k v) ≡ part a e v
unfolding part
part-within a e k v h = ap (drop a) (take-take e k v h)

-- what the pass leaves, where the numbers before r were lent
pub quoted-there : (k m r to : ℕ) (work ns work' ys : List ℕ) → k ≤ r → length ys ≡ r → to ≤ k + m → k + m ≤ r
    → part k to (take (k + m) (cells work' ys)) ≡ Quotes.quotes caption (take k (cells work (take r ns))) → part k to (cells work' (ys ++ drop r ns)) ≡ Quotes.quotes caption (take k (cells work ns))
quoted-there k m r to work ns work' ys h l t f e =
    part-before k to r work' ys (drop r ns) l (omega arith) ∙ sym (part-within k to (k + m) (cells work' ys) t) ∙ e ∙ ap (Quotes.quotes caption) (lent-before k r work ns h)

-- what stays, taken from its start on
pub stays-taken : (r n : ℕ) (ns ns' : List ℕ) → between r (r + n) ns' ≡ between r (r + n) ns → take n (drop r ns') ≡ take n (drop r ns)
unfolding between
stays-taken r n ns ns' p = sym (here ns') ∙ p ∙ here ns
  where
    here : (xs : List ℕ) → drop r (take (r + n) xs) ≡ take n (drop r xs)
    here xs = drop-take r (r + n) xs ∙ ap (λ (k : ℕ). take k (drop r xs)) (add-sub_cancel_left r n)

-- ---- the masked post, which stands from m on

pub own_is : (xs ys : List ℕ) (m size : ℕ) → m ≤ length xs → take (m + size - m) (drop m (take m xs ++ (ys ++ drop (length xs - m) (drop m xs)))) ≡ take size ys
own_is xs ys m size h = rw (add-sub_cancel_left m size, back_is xs ys m h) refl

pub lost_as : {s s' m v rs rs₀ bs rs' bs' : List ℕ} {k to : ℕ} {d : Bool} → s ≡ s' → m ≡ v → rs ≡ rs₀ → ListsLosses s (tags 1 0 m) rs bs rs' bs' k to × Quotes.TooDeep s d
    → ListsLosses s' (tags 1 0 v) rs₀ bs rs' bs' k to × Quotes.TooDeep s' d
lost_as e f g p = rw (e, f, g) at p

-- the marks text stays, where the bytes from m on and the numbers from r on have been lent
pub cells-kept : (k m r : ℕ) (bs ns bs' ys : List ℕ) → k ≤ m → k ≤ r → r ≤ length ns → take m bs' ≡ take m bs
    → take k (cells bs' (take r ns ++ (ys ++ drop (length ns - r) (drop r ns)))) ≡ take k (cells bs ns)
cells-kept k m r bs ns bs' ys h f l e =
    sym (cells-taken k bs' _) ∙ ap (λ (z : List ℕ). cells z (take k (take r ns ++ (ys ++ drop (length ns - r) (drop r ns))))) (sym (take-take k m bs' h) ∙ ap (take k) e ∙ take-take k m bs h)
    ∙ ap (cells (take k bs)) (front-is ns ys r l k f) ∙ cells-taken k bs ns

-- ---- losses

module _ (x : List Cell) (m j b b' losses words : ℕ) (deep : Bool) (eb : b' ≡ b) (d : deep ≡ Quotes.too_deep x) (l : losses ≡ length (quote_losses x)) (w : words ≡ length (loss_bytes x)) where
  marked_by : marked x m j b ≡ answer_by (limited deep (ltb j losses) (ltb b' words)) (quoting x m losses words)
  unfolding marked
  marked_by = rw (eb, d, l, w)

  pub marked-refused : (r : Refusal) → limited deep (ltb j losses) (ltb b' words) ≡ Err r → Err r ≡ marked x m j b
  marked-refused r e = sym (marked_by ∙ ap (λ (c : Result (Unit {0}) Refusal). answer_by c (quoting x m losses words)) e)

  pub marked-fine : limited deep (ltb j losses) (ltb b' words) ≡ Ok tt → with_losses losses words (spaced x m) ≡ marked x m j b
  marked-fine e = sym (marked_by ∙ ap (λ (c : Result (Unit {0}) Refusal). answer_by c (quoting x m losses words)) e ∙ quoting-with x m losses words)

-- ---- marks

module _ (post : List ℕ) (v : List Cell) (m n j b : ℕ) (h : Holds v n (marks_text post)) (size : length v ≡ m) where
  pub converted-full : m < n → Err NoSpace ≡ converted post m j b
  unfolding converted
  converted-full far =
      let over : m < length (marks_text post) = elim (dec_le (length (marks_text post)) m) [ yes g ↦ absurd (let e = h.end (omega arith) in omega arith) | no g ↦ omega arith ] in
      rw (lt-ltb m (length (marks_text post)) over)

  fits : n ≤ m → length (marks_text post) ≤ m
  fits near = let k = holds_fits v n (marks_text post) h (omega arith) in omega arith

  pub converted-done : n ≤ m → converted post m j b ≡ marked (marks_text post) m j b
  unfolding converted
  converted-done near = rw (le-ltb m (length (marks_text post)) (fits near))

  -- a marks text is no longer than its post
  pub marks-few : n ≤ m → n ≤ length post
  unfolding marks_text
  marks-few near =
      let k = fits near in
      let e = h.end (omega arith) in
      omega (arith, e, marks-short (cells_of post), length-cells_of post)

  pub marks-front : n ≤ m → take n v ≡ marks_text post
  marks-front near = h.text (let k = fits near in omega arith)

-- a post that the pass leaves as it is
pub marks-same : (post bs ns : List ℕ) (m : ℕ) → length post ≤ m → m ≤ length bs → m ≤ length ns → Untagged post → part 0 (0 + length post) (cells bs ns) ≡ cells_of post → Holds (take m (cells bs ns)) (length post) (marks_text post)
unfolding marks_text part
marks-same post bs ns m h hb hn u e =
    let t : (marks (cells_of post)).cells ≡ cells_of post = u (cells_of post) (bytes-cells_of post) in
    let l = length-cells_of post in
    let a = area-length bs ns m hb hn in
    let f : take (length post) (cells bs ns) ≡ cells_of post = ap (λ (k : ℕ). take k (cells bs ns)) (sym (zero-add (length post))) ∙ e in
    rw t (record { end = λ _. sym l; text = λ _. take-take (length post) m (cells bs ns) h ∙ f; full = λ lt. absurd (omega (arith, lt, l, a, h)) })

pub ends-finished : {m k j : ℕ} {wanted l : Result Converted Refusal} {out plain numbers words : List ℕ} (post : List ℕ) (x : List Cell) → x ≡ marks_text post
    → Ends (lists (Quotes.quotes caption x)) (loss_bytes x) m k wanted l out plain words × Noted (loss_records post x) j l numbers
    → Ends (finished post) (loss_bytes (marks_text post)) m k wanted l out plain words × Noted (loss_records post (marks_text post)) j l numbers
unfolding finished quoted_text
ends-finished post x e p = rw e at p

-- ---- what is checked first

pub answered-refused : (post : List ℕ) (lent : Lent) (j b : ℕ) (r : Refusal) → Err r ≡ checked post lent → Err r ≡ answered post lent j b
unfolding answered
answered-refused post lent j b r e = rw (← e)

pub answered-fine : (post : List ℕ) (lent : Lent) (j b : ℕ) → Ok tt ≡ checked post lent → answered post lent j b ≡ converted post lent.out j b
unfolding answered
answered-fine post lent j b e = rw (← e)

-- ---- the length that is answered

done-is : {c d : Converted} → ◌≡◌ {A = Result Converted Refusal} (Ok c) (Ok d) → c ≡ d
done-is e = cc

refused-done : {r : Refusal} {d : Converted} {A : Type 0} → ◌≡◌ {A = Result Converted Refusal} (Err r) (Ok d) → A
refused-done e = let z : ◌≡◌ {A = ℕ} 0 1 = cc in absurd (omega arith)

listing-size : (x : List Cell) (m a w : ℕ) (d : Converted) → listing x m a w ≡ Ok d → d.size ≡ length (lists x)
unfolding listing
listing-size x m a w d = by (ListTags.too_deep x) (ltb m (lists_need x))
  where
    by : (s t : Bool) → cond s (Err TooDeep) (cond t (Err NoSpace) (Ok (record { size = length (lists x); losses = a; bytes = w }))) ≡ Ok d → d.size ≡ length (lists x)
    by true t e = refused-done e
    by false true e = refused-done e
    by false false e = ap (λ (c : Converted). c.size) (sym (done-is e))

quoting-size : (x : List Cell) (m a w : ℕ) (d : Converted) → quoting x m a w ≡ Ok d → d.size ≡ length (lists (Quotes.quotes caption x))
unfolding quoting
quoting-size x m a w d = by (ltb m (Quotes.quotes_need caption x))
  where
    by : (s : Bool) → cond s (Err NoSpace) (listing (Quotes.quotes caption x) m a w) ≡ Ok d → d.size ≡ length (lists (Quotes.quotes caption x))
    by true e = refused-done e
    by false e = listing-size (Quotes.quotes caption x) m a w d e

by_size : (c : Result (Unit {0}) Refusal) (else : Result Converted Refusal) (d : Converted) (k : ℕ) → (else ≡ Ok d → d.size ≡ k) → answer_by c else ≡ Ok d → d.size ≡ k
by_size (Err r) else d k f e = refused-done e
by_size (Ok u) else d k f e = f e

marked-size : (x : List Cell) (m j b : ℕ) (d : Converted) → marked x m j b ≡ Ok d → d.size ≡ length (lists (Quotes.quotes caption x))
unfolding marked
marked-size x m j b d = by_size (limited (Quotes.too_deep x) (ltb j (length (quote_losses x))) (ltb b (length (loss_bytes x)))) (quoting x m (length (quote_losses x)) (length (loss_bytes x))) d (length (lists (Quotes.quotes caption x))) (quoting-size x m (length (quote_losses x)) (length (loss_bytes x)) d)

converted-size : (post : List ℕ) (m j b : ℕ) (d : Converted) → converted post m j b ≡ Ok d → d.size ≡ length (finished post)
unfolding converted finished quoted_text
converted-size post m j b d = by (ltb m (length (marks_text post)))
  where
    by : (s : Bool) → cond s (Err NoSpace) (marked (marks_text post) m j b) ≡ Ok d → d.size ≡ length (lists (Quotes.quotes caption (marks_text post)))
    by true e = refused-done e
    by false e = marked-size (marks_text post) m j b d e

answered-size : (post : List ℕ) (lent : Lent) (j b : ℕ) (d : Converted) → answered post lent j b ≡ Ok d → d.size ≡ length (finished post)
unfolding answered
answered-size post lent j b d = by_size (checked post lent) (converted post lent.out j b) d (length (finished post)) (converted-size post lent.out j b d)

-- ---- the losses of an answer

pub refused-noted : (rs : List ℕ) (j : ℕ) (r : Refusal) (numbers : List ℕ) → Noted rs j (Err r) numbers
refused-noted rs j r numbers = record { room = omega arith; few = omega arith; there = refl }

-- a text of n bytes has no more losses
pub few-losses : {losses : ℕ} (n : ℕ) (out : List ℕ) → n ≤ length out → losses ≤ length (take n out) → losses ≤ n
few-losses n out h l = let e = length-take-le n out h in omega (arith, l, e)

pub noted-longer : (rs : List ℕ) (j : ℕ) (l : Result Converted Refusal) (ns rest : List ℕ) → Noted rs j l ns → Noted rs j l (ns ++ rest)
noted-longer rs j l ns rest p =
    let z = length-append ns rest in
    record { room = omega (arith, z, p.room); few = p.few; there = take-append-le (5 * losses_by l) ns rest p.room ∙ p.there }

-- ---- what the call leaves

-- zeros are written behind the loss bytes
pub filled-done : (d : Converted) (words : List ℕ) {t : List Cell} {ws : List ℕ} {m k b : ℕ} {out plain words' : List ℕ} → Left t ws m k (Ok d) out plain words → length words ≡ b → words' ≡ cleared d.bytes words
    → Filled t ws m k b out plain words'
filled-done d words {ws = ws} {b = b} p l c =
    let e = length-take-le d.bytes words p.1.0 in
    record { laid = p.0; spelled = c ∙ laid-cleared ws words d.bytes b l (sym (ap length p.1.1) ∙ e) p.1.1 }

pub filled-none : (words : List ℕ) {m k b : ℕ} {out plain words' : List ℕ} → LaidOut [] m k out plain → length words ≡ b → words' ≡ cleared 0 words → Filled [] [] m k b out plain words'
filled-none words {b = b} p l c = record { laid = p; spelled = c ∙ cleared-all words ∙ ap (λ (n : ℕ). padded n []) l }

-- ---- demand 3

front : (m : ℕ) (xs : List ℕ) → take (length xs) (padded m xs) ≡ xs
unfolding padded
front m xs = take_at xs (replicate (m - length xs) 0) (length xs) refl

copied : (post : List ℕ) (m k j b w n : ℕ) (r : Result Converted Refusal) {out plain words : List ℕ} {records : List Loss} → Called post m k j b w n r out plain records words → Copied post r out plain
copied post m k j b w n (Err r) p = tt
copied post m k j b w n (Ok d) {out} {plain} p =
    let e : d.size ≡ length (finished post) = answered-size post _ j b d (sym p.answer) in
    let o : take d.size out ≡ bytes (finished post) =
    ap (take d.size) p.filled.laid.text ∙ ap (λ (i : ℕ). take i (padded m (bytes (finished post)))) (e ∙ sym (length-map (finished post) (λ (c : Cell). c.byte))) ∙ front m (bytes (finished post)) in
    let g : take d.size plain ≡ origins (finished post) =
    ap (take d.size) p.filled.laid.from ∙ ap (λ (i : ℕ). take i (padded k (origins (finished post)))) (e ∙ sym (length-map (finished post) (λ (c : Cell). c.origin))) ∙ front k (origins (finished post)) in
    rw (o, g) (finished-copied post)

pub with-copied : {post : List ℕ} {m k j b w n : ℕ} {r : Result Converted Refusal} {out plain words : List ℕ} {records : List Loss} → Called post m k j b w n r out plain records words
    → Called post m k j b w n r out plain records words × Copied post r out plain
with-copied {post} {m} {k} {j} {b} {w} {n} {r} p = (p, copied post m k j b w n r p)
